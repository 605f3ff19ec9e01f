-- One subject is tried in a turn.
use native.Mathlib.Omega.{arith}
use mathlib.Core.Path.{sym, ◌∙◌}
use Rattle.sets.proofs.Members.{member_in}
use Rattle.model.specs.Dp.{handed_on}
use Rattle.choosing.proofs.rows.best_of.Goals as goal

pub overflow_add-cost : goal.overflow_add-cost
unfolding handed_on
overflow_add-cost c =
    omega (arith, c.requires c.loop-t.t (omega arith) (member_in _ _ (sym c.has.ensures ∙ c.if-has.true)), c.handed.ensures)
