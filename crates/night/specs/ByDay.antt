-- Who sees what on which day, in a small night said by numbers, so that a slip in Views.antt shows here.
use Rattle.std.specs.Prelude.{ℕ, ◌≡◌, true, false, List, [], ◌∷◌, map}
use Rattle.night.specs.declared.Grant.{Grant}
use Rattle.night.specs.declared.View.{View}
use Rattle.night.specs.Night.{Night}
use Rattle.night.specs.Views.{shares_day, in_force, is_for_on, view_on, clear_on, sealed_on, view_of, clear_of, sealed_of}
use Rattle.night.specs.Days.{on_day}

-- a grant: relation, subject, first and last day, set in clear, set sealed
abbrev pub granted : ℕ → ℕ → ℕ → ℕ → ℕ → ℕ → Grant
granted relation subject first last clear sealed =
    record { relation = relation; subject = subject; first = first; last = last; clear = clear; sealed = sealed }

-- on relation 0, subject 0 has two grants, one behind the other, any has one that begins later and ends later, and subject 1 has one of nothing, for a day; on
-- relation 1, any has one for every day, and subject 0 one of day 13, on which it has one on what is no relation, too
abbrev pub three_subjects : Night
three_subjects =
    record {
      header = record { version = 4; subjects = 3; relations = 2; attributes = 3; nodes = 0; grants = 7; steps = 0; user = 0; pairs = 0; day = 0 };
      relations = record { owner = 0; set = 3 } ∷ record { owner = 0; set = 4 } ∷ [];
      grants =
          granted 0 0 10 12 0 1 ∷ granted 0 0 3 9 1 0 ∷ granted 0 255 5 20 2 0 ∷ granted 0 1 7 7 0 0 ∷ granted 1 255 0 65535 0 4 ∷ granted 1 0 13 13 4 0
          ∷ granted 2 0 13 13 8 16 ∷ [];
      nodes = [];
      pairs = [];
      step_prices = [];
      link_prices = [];
    }

-- a view: in clear, sealed
abbrev pub sees : ℕ → ℕ → View
sees clear sealed = record { clear = clear; sealed = sealed }

-- what a subject sees of relation 0 on each of these days
abbrev pub seen_on : ℕ → List ℕ → List View
seen_on p days = map (λ day. view_on three_subjects day p 0) days

pub record ByDay : Type 0 where
  -- a grant from day 3 to 9: in force on these days, not on the day before or after
  pub in-force : map (in_force (granted 0 0 3 9 1 0)) (2 ∷ 3 ∷ 4 ∷ 9 ∷ 10 ∷ []) ≡ false ∷ true ∷ true ∷ true ∷ false ∷ []
  -- of a single day; of every day
  pub in_force_once : map (in_force (granted 0 0 3 3 1 0)) (2 ∷ 3 ∷ 4 ∷ []) ≡ false ∷ true ∷ false ∷ []
  pub in_force_always : map (in_force (granted 0 0 0 65535 1 0)) (0 ∷ 65535 ∷ []) ≡ true ∷ true ∷ []
  -- it shares a day with a stretch that ends on its first, begins on its last, lies within it, or around it; not with one that ends the day before or begins
  -- the day after
  pub shares : shares_day (granted 0 0 3 9 1 0) 0 3 ∷ shares_day (granted 0 0 3 9 1 0) 9 12 ∷ [] ≡ true ∷ true ∷ []
  pub shares_within : shares_day (granted 0 0 3 9 1 0) 4 5 ∷ shares_day (granted 0 0 3 9 1 0) 0 12 ∷ [] ≡ true ∷ true ∷ []
  pub shares_none : shares_day (granted 0 0 3 9 1 0) 0 2 ∷ shares_day (granted 0 0 3 9 1 0) 10 12 ∷ [] ≡ false ∷ false ∷ []
  -- for the pair on some day of a stretch: of another relation, of another subject, of a stretch beside it, not
  pub for_on : is_for_on (granted 0 0 3 9 1 0) 0 0 9 12 ∷ is_for_on (granted 0 0 3 9 1 0) 0 0 0 3 ∷ [] ≡ true ∷ true ∷ []
  pub for_others :
      is_for_on (granted 0 0 3 9 1 0) 1 0 3 9 ∷ is_for_on (granted 0 0 3 9 1 0) 0 1 3 9 ∷ is_for_on (granted 0 0 3 9 1 0) 0 0 10 12 ∷ []
      ≡ false ∷ false ∷ false ∷ []
  -- subject 0: nothing before its grant, each grant on its own days, whatever any has, then any's as long as that is in force, then nothing
  pub own : seen_on 0 (2 ∷ 3 ∷ 5 ∷ 9 ∷ 10 ∷ 12 ∷ []) ≡ sees 0 0 ∷ sees 1 0 ∷ sees 1 0 ∷ sees 1 0 ∷ sees 0 1 ∷ sees 0 1 ∷ []
  pub own_over : seen_on 0 (13 ∷ 20 ∷ 21 ∷ []) ≡ sees 2 0 ∷ sees 2 0 ∷ sees 0 0 ∷ []
  -- subject 1: any's, but nothing on the day of its own grant of nothing
  pub own_empty : seen_on 1 (6 ∷ 7 ∷ 8 ∷ []) ≡ sees 2 0 ∷ sees 0 0 ∷ sees 2 0 ∷ []
  -- subject 2, who has none: any's while it is in force
  pub any_only : seen_on 2 (4 ∷ 5 ∷ 20 ∷ 21 ∷ []) ≡ sees 0 0 ∷ sees 2 0 ∷ sees 2 0 ∷ sees 0 0 ∷ []
  -- over both relations
  pub clear_days : map (λ day. clear_on three_subjects day 0) (9 ∷ 10 ∷ 13 ∷ []) ≡ 1 ∷ 0 ∷ 6 ∷ []
  pub sealed_days : map (λ day. sealed_on three_subjects day 0) (9 ∷ 10 ∷ 13 ∷ []) ≡ 4 ∷ 5 ∷ 0 ∷ []
  -- the night's are those on its day
  pub night_day : map (λ day. view_of (on_day three_subjects day) 0 0) (0 ∷ 9 ∷ 10 ∷ []) ≡ sees 0 0 ∷ sees 1 0 ∷ sees 0 1 ∷ []
  pub night_clear : map (λ day. clear_of (on_day three_subjects day) 0) (0 ∷ 9 ∷ 13 ∷ []) ≡ 0 ∷ 1 ∷ 6 ∷ []
  pub night_sealed : map (λ day. sealed_of (on_day three_subjects day) 0) (0 ∷ 10 ∷ 13 ∷ []) ≡ 4 ∷ 5 ∷ 0 ∷ []
