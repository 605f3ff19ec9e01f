-- The sum grows by one node a turn.
use Prim.Native.Nat.{◌*◌, ◌≤◌}
use mathlib.Core.Path.{◌≡◌}
use lib.ListN.{get_or}
use Rattle.layout.specs.Held.{night_held}
use Rattle.laws.specs.Sums.{sum}
use Rattle.model.specs.Choice.{cost_at}
use Rattle.choosing.proofs.offer.total.Given as goal

abbrev pub invariant-loop-i : goal.invariant-loop-i
invariant-loop-i l = (l.all ≡ sum (cost_at (night_held l.file) (λ j. get_or l.offer j 0)) l.i) × (l.all ≤ 2001000000 * l.i)
