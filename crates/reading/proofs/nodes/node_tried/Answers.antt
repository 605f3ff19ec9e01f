-- Three trials, each where those before it pass.
use mathlib.Core.Path.{◌≡◌}
use Rattle.std.specs.Prelude.{Err}
use Rattle.std.proofs.Common.{rules}
use Rattle.format.specs.Layout.{night_in}
use Rattle.trials.specs.Trials.{trials_of}
use Rattle.reading.proofs.Tried.{stopped, went_on}
use Rattle.reading.proofs.nodes.node_tried.Goals as goal

pub returns-in_err-tried : goal.returns-in_err-tried
unfolding trials_of night_in
returns-in_err-tried c =
    let same : c.from_residual.result ≡ Err c.in_err-tried.field-0.0 = search rules in
    rw (← c.node-v.ensures, ← c.child_taken-left.ensures, ← c.child_taken-right.ensures, ← c.shape_bad-shape.ensures)
    (stopped _ _ c.tried.ensures c.in_err-tried.was same)

pub returns-in_err-tried-2 : goal.returns-in_err-tried-2
unfolding trials_of night_in
returns-in_err-tried-2 c =
    let same : c.from_residual-in_err-tried-2.result ≡ Err c.in_err-tried-2.field-0.0 = search rules in
    rw (← c.node-v.ensures, ← c.child_taken-left.ensures, ← c.child_taken-right.ensures, ← c.shape_bad-shape.ensures, ← c.attributes_bad.ensures)
    (went_on _ _ c.from_residual-in_err-tried-2.result c.tried.ensures c.in_ok-tried.was (stopped _ _ c.tried-2.ensures c.in_err-tried-2.was same))

pub returns : goal.returns
unfolding trials_of night_in
returns c =
    rw (← c.node-v.ensures, ← c.child_taken-left.ensures, ← c.child_taken-right.ensures, ← c.shape_bad-shape.ensures, ← c.attributes_bad.ensures, ← c.needed_bad.ensures)
    (went_on _ _ c.tried-3.result c.tried.ensures c.in_ok-tried.was (went_on _ _ c.tried-3.result c.tried-2.ensures c.in_ok-tried-2.was c.tried-3.ensures))
