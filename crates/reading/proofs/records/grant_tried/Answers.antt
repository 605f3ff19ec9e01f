-- Two trials, the second where the first passes.
use mathlib.Core.Path.{◌≡◌}
use Rattle.std.specs.Prelude.{Err}
use Rattle.std.proofs.Common.{rules}
use Rattle.format.specs.Layout.{night_in}
use Rattle.trials.specs.Trials.{trials_of}
use Rattle.reading.proofs.Tried.{stopped, went_on}
use Rattle.reading.proofs.records.grant_tried.Goals as goal

pub returns-in_err-tried : goal.returns-in_err-tried
unfolding trials_of night_in
returns-in_err-tried c =
    let same : c.from_residual.result ≡ Err c.in_err-tried.field-0.0 = search rules in
    rw (← c.grant-g.ensures, ← c.relation-relation.ensures, ← c.grant_bad.ensures) (stopped _ _ c.tried.ensures c.in_err-tried.was same)

pub returns : goal.returns
unfolding trials_of night_in
returns c =
    rw (← c.grant-g.ensures, ← c.relation-relation.ensures, ← c.grant_bad.ensures, ← c.pair_seen.ensures)
    (went_on _ _ c.tried-2.result c.tried.ensures c.in_ok-tried.was c.tried-2.ensures)
