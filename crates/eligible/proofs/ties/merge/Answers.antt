-- One tied set of the second operand is tied in a turn; an empty one ties nothing.
use mathlib.Core.Path.{◌≡◌, sym, ap, ◌∙◌}
use lib.ListN.{length}
use Rattle.model.specs.Ties.{tie}
use Rattle.model.proofs.TableLaws.{merged_none}
use Rattle.model.proofs.Merged.{merged_length, tie_empty}
use Rattle.eligible.proofs.Tied.{merged_turn}
use Rattle.eligible.proofs.ties.merge.Goals as goal
use Rattle.eligible.proofs.ties.merge.Goals.{then-set-ne0, else-set-ne0}

pub loop-set-init : goal.loop-set-init
loop-set-init c = sym (merged_none c.args.tied.now c.args.other.now)

pub tie-requires : goal.tie-requires
tie-requires c =
    rw c.loop-set.invariant (merged_length c.args.tied.now c.args.other.now c.loop-set.set-index c.requires)

pub loop-set-preserved : goal.loop-set-preserved
loop-set-preserved c =
    let b = c.loop-set in
    let long : length b.tied ≡ 64 = rw b.invariant (merged_length c.args.tied.now c.args.other.now b.set-index c.requires) in
    merged_turn c.args.tied.now c.args.other.now b.set-index c.requires b.invariant (elim c.if-set-ne0.branch [
      | then-set-ne0 w ↦ w.tied-is ∙ w.tie.ensures.1
      | else-set-ne0 w ↦ w.tied-is ∙ (sym (tie_empty b.tied long) ∙ ap (tie b.tied) (sym w.if-set-ne0.false))
    ])
