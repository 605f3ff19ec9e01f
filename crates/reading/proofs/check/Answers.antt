-- The header's part, and the rest where it passes.
use mathlib.Core.Path.{◌≡◌, sym, ap, ◌∙◌}
use Rattle.std.specs.Prelude.{Err}
use Rattle.std.proofs.Common.{rules}
use Rattle.night.specs.Refusals.{said}
use Rattle.trials.proofs.Opened.{head_refused, body_refused, body_accepted, nodes_few}
use Rattle.reading.proofs.check.Goals as goal

pub returns-in_err-header_tried : goal.returns-in_err-header_tried
returns-in_err-header_tried c =
    let same : c.from_residual.result ≡ Err c.in_err-header_tried.field-0.0 = search rules in
    rw same (sym (head_refused c.args.file.now _ _ (sym c.header_tried.ensures ∙ ap said c.in_err-header_tried.was)))

pub night_tried-requires : goal.night_tried-requires
night_tried-requires c =
    nodes_few c.args.file.now c.header-header.result c.header-header.ensures (sym c.header_tried.ensures ∙ ap said c.in_ok-header_tried.was)

pub returns-in_err-night_tried : goal.returns-in_err-night_tried
returns-in_err-night_tried c =
    let same : c.from_residual-in_err-night_tried.result ≡ Err c.in_err-night_tried.field-0.0 = search rules in
    let passed = sym c.header_tried.ensures ∙ ap said c.in_ok-header_tried.was in
    rw same (sym (body_refused c.args.file.now c.header-header.result c.header-header.ensures passed _ _ (sym c.night_tried.ensures ∙ ap said c.in_err-night_tried.was)))

pub returns : goal.returns
returns c =
    let passed = sym c.header_tried.ensures ∙ ap said c.in_ok-header_tried.was in
    sym (body_accepted c.args.file.now c.header-header.result c.header-header.ensures passed (sym c.night_tried.ensures ∙ ap said c.in_ok-night_tried.was))
