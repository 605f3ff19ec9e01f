-- A step's operands have lower numbers: the measures are 3 c + 2 for a node c that is walked, 3 i + 1 for step i, 3 i for its right operand.
use Prim.Native.Nat.{◌+◌, ◌*◌}
use Rattle.eligible.proofs.walk.+walk_walk_right_walk_step.Given as goal

abbrev pub decreases-walk : goal.decreases-walk
decreases-walk l = 3 * l.c + 2

abbrev pub decreases-walk_right : goal.decreases-walk_right
decreases-walk_right l = 3 * l.i

abbrev pub decreases-walk_step : goal.decreases-walk_step
decreases-walk_step l = 3 * l.i + 1
