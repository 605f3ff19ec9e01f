-- Up to the next grant for the pair there is none; it is the one where it shares a day, and the search goes on behind it where not.
use Prim.Native.Nat.{ℕ, ◌-◌, ◌≤◌}
use mathlib.Core.Path.{◌≡◌}
use mathlib.Core.Bool.{Bool}
use mathlib.Core.List.{List}
use Rattle.laws.specs.First.{first}
use Rattle.night.specs.declared.Grant.{Grant}
use Rattle.night.specs.declared.Header.{Header}
use Rattle.night.specs.Night.{grant_of}
use Rattle.night.specs.Views.{is_for_on}
use Rattle.format.specs.Layout.{night_in}
use Rattle.views.proofs.first_grant.Given as goal

abbrev grants : List ℕ → Header → ℕ → Grant
grants s h = grant_of (night_in s h)

-- grant k is for the pair, on some of the days
abbrev test : List ℕ → Header → ℕ → ℕ → ℕ → ℕ → ℕ → Bool
test s h r p from to k = is_for_on (grants s h k) r p from to

abbrev pub invariant-loop-at : goal.invariant-loop-at
invariant-loop-at l = (l.at ≤ l.n) × (first (test l.file.bytes.now l.file.header l.r l.p l.from l.to) l.at ≡ l.at)

abbrev pub decreases-loop-at : goal.decreases-loop-at
decreases-loop-at l = l.n - l.at
