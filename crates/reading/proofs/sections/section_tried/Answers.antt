-- Each turn is one record's row.
use mathlib.Core.Path.{◌≡◌, sym, ap, ◌∙◌}
use Rattle.std.specs.Prelude.{Err}
use Rattle.std.proofs.Common.{rules}
use native.Mathlib.Omega.{arith}
use Rattle.laws.proofs.Trials.{rows_none, rows_more, rows_found, rows_all}
use Rattle.format.specs.Layout.{night_in}
use Rattle.night.specs.Refusals.{said}
use Rattle.trials.specs.Trials.{count_in, section}
use Rattle.reading.proofs.sections.section_tried.Goals as goal

pub loop-i-init : goal.loop-i-init
loop-i-init c = rows_none _

pub record_tried-requires : goal.record_tried-requires
record_tried-requires c = (rw (← c.records_in-n.ensures.0) c.loop-i-test.true, omega arith, c.requires)

pub returns-in_err-record_tried : goal.returns-in_err-record_tried
unfolding section night_in
returns-in_err-record_tried c =
    let same : c.from_residual.result ≡ Err c.in_err-record_tried.field-0.0 = search rules in
    rw same (sym (rows_found _ c.loop-i.i (count_in c.args.file.now.header c.args.part) _ _ c.loop-i.invariant (sym c.record_tried.ensures ∙ ap said c.in_err-record_tried.was) (rw (← c.records_in-n.ensures.0) c.loop-i-test.true)))

pub loop-i-preserved : goal.loop-i-preserved
loop-i-preserved c = rows_more _ c.loop-i.i c.loop-i.invariant (sym c.record_tried.ensures ∙ ap said c.in_ok-record_tried.was)

pub returns : goal.returns
unfolding section night_in
returns c =
    let e : c.loop-i.i ≡ c.records_in-n.result = omega arith in
    sym (rows_all _ c.loop-i.i _ c.loop-i.invariant (e ∙ c.records_in-n.ensures.0))
