-- One tied set of the second operand is tied in a turn.
use mathlib.Core.Path.{◌≡◌}
use Rattle.model.specs.Ties.{merged}
use Rattle.eligible.proofs.ties.merge.Given as goal

abbrev pub invariant-loop-set : goal.invariant-loop-set
invariant-loop-set l = l.tied ≡ merged l.initial.tied l.other l.set-index
