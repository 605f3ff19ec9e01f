-- What is gathered grows by the tied set of each attribute of the set.
use mathlib.Core.Path.{sym, ◌∙◌}
use Rattle.model.proofs.TableLaws.{gathered_none}
use Rattle.eligible.proofs.Tied.{gathered_taken, gathered_left}
use Rattle.eligible.proofs.ties.gather.Goals as goal
use Rattle.eligible.proofs.ties.gather.Goals.{then-has, else-has}

pub loop-k-init : goal.loop-k-init
loop-k-init c = sym (gathered_none c.args.tied.now c.args.set)

pub loop-k-preserved : goal.loop-k-preserved
loop-k-preserved c =
    let b = c.loop-k in
    elim c.if-has.branch [
      | then-has w ↦ gathered_taken c.args.tied.now c.args.set b.k b.invariant (sym w.if-has.true ∙ c.has.ensures) (w.all-is ∙ w.union-all.ensures)
      | else-has w ↦ gathered_left c.args.tied.now c.args.set b.k b.invariant (sym w.if-has.false ∙ c.has.ensures) w.all-is
    ]
