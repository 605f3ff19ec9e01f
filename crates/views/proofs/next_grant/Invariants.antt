-- Each turn asks of one stretch.
use Prim.Native.Nat.{ℕ, ◌-◌, ◌<◌, ◌≤◌}
use mathlib.Core.Path.{◌≡◌}
use mathlib.Core.Bool.{Bool, false}
use mathlib.Core.List.{List}
use Rattle.night.specs.declared.Header.{Header}
use Rattle.night.specs.Night.{grant_of}
use Rattle.night.specs.Views.{is_for}
use Rattle.format.specs.Layout.{night_in}
use Rattle.views.proofs.next_grant.Given as goal

-- grant k is for the pair
abbrev test : List ℕ → Header → ℕ → ℕ → ℕ → Bool
test s h r p k = is_for (grant_of (night_in s h) k) r p

abbrev pub invariant-loop-from : goal.invariant-loop-from
invariant-loop-from l = (l.start ≤ l.from) × (l.from ≤ l.n) × ((k : ℕ) → l.start ≤ k → k < l.from → test l.file.bytes.now l.file.header l.r l.p k ≡ false)

abbrev pub decreases-loop-from : goal.decreases-loop-from
decreases-loop-from l = l.n - l.from
