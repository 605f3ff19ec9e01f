-- The sum grows by one node a turn.
use Prim.Native.Nat.{◌*◌, ◌≤◌}
use mathlib.Core.Path.{◌≡◌}
use Rattle.layout.specs.Held.{night_held}
use Rattle.laws.specs.Sums.{sum}
use Rattle.model.specs.Choice.{steps_at}
use Rattle.choosing.proofs.steps.steps.Given as goal

abbrev pub invariant-loop-i : goal.invariant-loop-i
invariant-loop-i l = (l.all ≡ sum (steps_at (night_held l.who.file)) l.i) × (l.all ≤ 512 * l.i)
