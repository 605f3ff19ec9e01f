-- The set is that of the lowest attribute whose tied set offends.
use mathlib.Core.Path.{sym, ◌∙◌}
use Rattle.model.proofs.Reasons.{by_third}
use Rattle.tables.specs.Columns.{with_tied}
use Rattle.tables.proofs.may.standing_by.Goals as goal

pub returns : goal.returns
returns c =
    sym
    (by_third c.args.table (with_tied c.args.t c.args.tied.now) c.args.clear c.args.sealed c.in_ok-set.set
    (sym c.clear_offends-first.ensures ∙ c.if-first-ne0.false)
    (sym c.sealed_offends-second.ensures ∙ c.if-second-ne0.false)
    c.in_ok-set.ensures)
