-- The records, and the tree where they pass.
use mathlib.Core.Path.{◌≡◌}
use Rattle.std.specs.Prelude.{Err}
use Rattle.std.proofs.Common.{rules}
use Rattle.reading.proofs.Tried.{stopped, went_on}
use Rattle.reading.proofs.sections.night_tried.Goals as goal

pub returns-in_err-records_tried : goal.returns-in_err-records_tried
returns-in_err-records_tried c =
    let same : c.from_residual.result ≡ Err c.in_err-records_tried.field-0.0 = search rules in
    stopped _ _ c.records_tried.ensures c.in_err-records_tried.was same

pub returns : goal.returns
returns c = went_on _ _ c.tree_tried.result c.records_tried.ensures c.in_ok-records_tried.was c.tree_tried.ensures
