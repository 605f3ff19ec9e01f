-- Number and place of every refusal fit the words that carry them.
use Rattle.std.specs.Prelude.{ℕ, ◌≤◌, ◌<◌, ◌^◌, ◌≡◌, List}
use Rattle.laws.specs.Trials.{refuses, verdict}
use Rattle.trials.specs.Trials.{trials}
use Rattle.verdicts.specs.Refusals.{Rooms, cheapest_plan_trials, offered_plan_trials, why_trials}

-- a number of 8 bits that isn't 0, and a place of 32 bits
abbrev pub Fits : ℕ → ℕ → Type 0
Fits number place = (1 ≤ number) × (number < 2 ^ 8) × (place < 2 ^ 32)

-- of the file's trials, which every entry begins with, of those of the two choices with their plans, and of the question why, for a node of
-- 32 bits
pub record RefusalsFit : Type 0 where
  pub file : (s : List ℕ) (n p : ℕ) → verdict (trials s) (tt {0}) ≡ refuses n p → Fits n p
  pub cheapest : (s : List ℕ) (rooms : Rooms) (n p : ℕ) → verdict (cheapest_plan_trials s rooms) (tt {0}) ≡ refuses n p → Fits n p
  pub offered : (s offer : List ℕ) (rooms : Rooms) (n p : ℕ) → verdict (offered_plan_trials s offer rooms) (tt {0}) ≡ refuses n p → Fits n p
  pub why : (s : List ℕ) (i p n q : ℕ) → i < 2 ^ 32 → verdict (why_trials s i p) (tt {0}) ≡ refuses n q → Fits n q
