-- Who may run a step on which day, in a small night said by numbers.
use Rattle.std.specs.Prelude.{◌≡◌, [], ◌∷◌, map}
use Rattle.night.specs.Night.{Night}
use Rattle.night.specs.Days.{on_day}
use Rattle.night.specs.ByDay.{granted}
use Rattle.model.specs.Candidates.{candidate_set}
use Rattle.model.specs.Choice.{steps}

-- a leaf of subject 0, who always sees it in clear, a select on it that needs nothing, and one that needs it in clear; subject 1 sees it in clear from day 3 to
-- 9 and sealed from day 10 to 12, and any sees it in clear from day 11 to 20
abbrev pub selecting : Night
selecting =
    record {
      header = record { version = 4; subjects = 3; relations = 1; attributes = 1; nodes = 3; grants = 4; steps = 12; user = 0; pairs = 0; day = 0 };
      relations = record { owner = 0; set = 1 } ∷ [];
      grants = granted 0 0 0 65535 1 0 ∷ granted 0 1 3 9 1 0 ∷ granted 0 1 10 12 0 1 ∷ granted 0 255 11 20 1 0 ∷ [];
      nodes =
          record { kind = 0; left = 255; right = 255; x = 0; y = 255; spare1 = 0; spare2 = 0; spare3 = 0; set = 1; needed = 0; size = 1; first = 0; count = 0 }
          ∷ record { kind = 2; left = 0; right = 255; x = 0; y = 255; spare1 = 0; spare2 = 0; spare3 = 0; set = 0; needed = 0; size = 1; first = 0; count = 0 }
          ∷ record { kind = 2; left = 1; right = 255; x = 0; y = 255; spare1 = 0; spare2 = 0; spare3 = 0; set = 0; needed = 1; size = 1; first = 0; count = 0 }
          ∷ [];
      pairs = [];
      step_prices = (0 ∷ 0 ∷ 0 ∷ []) ∷ (1 ∷ 1 ∷ 1 ∷ []) ∷ (1 ∷ 1 ∷ 1 ∷ []) ∷ [];
      link_prices = (0 ∷ 1 ∷ 1 ∷ []) ∷ (1 ∷ 0 ∷ 1 ∷ []) ∷ (1 ∷ 1 ∷ 0 ∷ []) ∷ [];
    }

pub record ByDay : Type 0 where
  -- before the own grant, on its first and last day, and on the day after
  pub own : map (λ day. candidate_set (on_day selecting day) 2) (2 ∷ 3 ∷ 9 ∷ 10 ∷ []) ≡ 1 ∷ 3 ∷ 3 ∷ 1 ∷ []
  -- sealed is enough where nothing is needed: from the own grant's first day to the last of the second
  pub sealed : map (λ day. candidate_set (on_day selecting day) 1) (2 ∷ 3 ∷ 9 ∷ 10 ∷ 12 ∷ 21 ∷ []) ≡ 1 ∷ 3 ∷ 3 ∷ 3 ∷ 7 ∷ 1 ∷ []
  -- while the own grant hides any, once it no longer does, and when any's is over
  pub any : map (λ day. candidate_set (on_day selecting day) 2) (11 ∷ 12 ∷ 13 ∷ 20 ∷ 21 ∷ []) ≡ 5 ∷ 5 ∷ 7 ∷ 7 ∷ 1 ∷ []
  -- so many steps
  pub steps_days : map (λ day. steps (on_day selecting day)) (2 ∷ 9 ∷ 10 ∷ 13 ∷ []) ≡ 2 ∷ 6 ∷ 4 ∷ 12 ∷ []
