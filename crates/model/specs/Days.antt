-- Where every grant is in force on every day, neither the day nor whether the version has days changes any answer.
use Rattle.std.specs.Prelude.{ℕ, ◌≡◌, ◌↔◌}
use Rattle.night.specs.Night.{Night}
use Rattle.night.specs.Views.{clear_of, sealed_of}
use Rattle.night.specs.Days.{in_version, ButDays}
use Rattle.model.specs.Choice.{Choice, Least, total, steps}
use Rattle.model.specs.OnePair.{SameAs}
use Rattle.model.specs.Plan.{built, plan_room, keys_room}
use Rattle.model.specs.Reasons.{standing}

-- both nights have the same tables and candidates, and every plan runs alike in both; a subject is out of a step for the same reason; the same choice is the
-- cheapest, at the same total, in as many steps; the built plan and its keys are the same
pub record AnsweredAlike (N M : Night) : Type 0 where
  pub same : SameAs N M
  pub stands : (i p : ℕ) → standing N i (clear_of N p) (sealed_of N p) ≡ standing M i (clear_of M p) (sealed_of M p)
  pub least : (c : Choice) → Least N c ↔ Least M c
  pub costs : (c : Choice) → total N c ≡ total M c
  pub counted : steps N ≡ steps M
  pub plan : (c : Choice) → plan_room N (built N c) ≡ plan_room M (built M c)
  pub keys : (c : Choice) → keys_room N (built N c) ≡ keys_room M (built M c)

abbrev pub AlwaysAnswered : Type 0
AlwaysAnswered = (N : Night) (version day : ℕ) → ButDays N version day → AnsweredAlike N (in_version N version day)
