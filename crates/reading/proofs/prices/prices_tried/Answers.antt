-- Each turn is one trial of the row.
use mathlib.Core.Path.{◌≡◌, sym, ap, ◌∙◌}
use Rattle.std.specs.Prelude.{Err}
use Rattle.std.proofs.Common.{rules}
use native.Mathlib.Omega.{arith}
use Rattle.laws.proofs.Trials.{rows_none, rows_more, rows_found, rows_all}
use Rattle.format.specs.Layout.{night_in}
use Rattle.night.specs.Refusals.{said}
use Rattle.trials.specs.Trials.{trials_of}
use Rattle.reading.proofs.prices.prices_tried.Goals as goal

pub loop-p-init : goal.loop-p-init
loop-p-init c = rows_none _

pub returns-in_err-tried : goal.returns-in_err-tried
unfolding trials_of night_in
returns-in_err-tried c =
    let same : c.from_residual.result ≡ Err c.in_err-tried.field-0.0 = search rules in
    rw same (sym (rows_found _ c.loop-p.p c.args.file.now.header.subjects _ _ c.loop-p.invariant (rw (← c.most_in.ensures, ← c.price_in.ensures) (sym c.tried.ensures ∙ ap said c.in_err-tried.was)) (omega arith)))

pub loop-p-preserved : goal.loop-p-preserved
loop-p-preserved c = rows_more _ c.loop-p.p c.loop-p.invariant (rw (← c.most_in.ensures, ← c.price_in.ensures) (sym c.tried.ensures ∙ ap said c.in_ok-tried.was))

pub returns : goal.returns
unfolding trials_of night_in
returns c = sym (rows_all _ c.loop-p.p c.args.file.now.header.subjects c.loop-p.invariant (omega arith))
