-- What follows from 17, over bytes.
use Rattle.std.specs.Prelude.{ℕ, ◌≡◌, true, false, List}
use Rattle.laws.specs.Trials.{answers, refuses, verdict}
use Rattle.night.specs.declared.Header.{Header}
use Rattle.night.specs.Versions.{delivers}
use Rattle.format.specs.Layout.{header_of, night_of}
use Rattle.model.specs.User.{UserMay}
use Rattle.trials.specs.Trials.{check_of}
use Rattle.verdicts.specs.Refusals.{Rooms, choosing_of, cheapest_plan_trials}

-- in a file that passes 1 to 11 and 17, the user may have every leaf's table
abbrev pub PassesMay : Type 0
PassesMay = (s : List ℕ) (h : Header) → choosing_of s ≡ answers h → UserMay (night_of s)

-- and 17 refuses no more than that: what passes 1 to 11, its user allowed every leaf's table, passes it
abbrev pub MayPasses : Type 0
MayPasses = (s : List ℕ) (h : Header) → check_of s ≡ answers h → UserMay (night_of s) → choosing_of s ≡ answers h

-- in a version without a user nothing is asked beyond 1 to 11
abbrev pub NobodyAsked : Type 0
NobodyAsked = (s : List ℕ) → delivers (header_of s).version ≡ false → choosing_of s ≡ check_of s

-- in a version with a user, the cheapest choice is never refused with 12
abbrev pub NeverWithout : Type 0
NeverWithout =
    (s : List ℕ) (rooms : Rooms) (place : ℕ) → delivers (header_of s).version ≡ true
    → verdict (cheapest_plan_trials s rooms) (tt {0}) ≡ refuses 12 place → ⊥
