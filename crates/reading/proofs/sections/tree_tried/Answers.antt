-- Part after part, each where those before it pass.
use mathlib.Core.Path.{◌≡◌}
use Rattle.std.specs.Prelude.{Err}
use Rattle.std.proofs.Common.{rules}
use Rattle.trials.specs.Trials.{tree_trials}
use Rattle.reading.proofs.Tried.{stopped, went_on}
use Rattle.reading.proofs.sections.tree_tried.Goals as goal

pub returns-in_err-section_tried : goal.returns-in_err-section_tried
unfolding tree_trials
returns-in_err-section_tried c =
    let same : c.from_residual.result ≡ Err c.in_err-section_tried.field-0.0 = search rules in
    stopped _ _ c.section_tried.ensures c.in_err-section_tried.was same

pub returns-in_err-section_tried-2 : goal.returns-in_err-section_tried-2
unfolding tree_trials
returns-in_err-section_tried-2 c =
    let same : c.from_residual-in_err-section_tried-2.result ≡ Err c.in_err-section_tried-2.field-0.0 = search rules in
    went_on _ _ c.from_residual-in_err-section_tried-2.result c.section_tried.ensures c.in_ok-section_tried.was (stopped _ _ c.section_tried-2.ensures c.in_err-section_tried-2.was same)

pub returns : goal.returns
unfolding tree_trials
returns c =
    let q = c.section_tried-3.result in
    went_on _ _ q c.section_tried.ensures c.in_ok-section_tried.was (went_on _ _ q c.section_tried-2.ensures c.in_ok-section_tried-2.was c.section_tried-3.ensures)
