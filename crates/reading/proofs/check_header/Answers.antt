-- The header's part alone.
use mathlib.Core.Path.{◌≡◌, sym, ap, ◌∙◌}
use Rattle.std.specs.Prelude.{Err}
use Rattle.std.proofs.Common.{rules}
use Rattle.laws.specs.Trials.{answers}
use Rattle.laws.proofs.Trials.{refused_alike, accepted_alike}
use Rattle.format.specs.Layout.{header_of}
use Rattle.night.specs.Refusals.{said}
use Rattle.trials.specs.Trials.{header_trials}
use Rattle.reading.proofs.check_header.Goals as goal

pub returns-in_err-header_tried : goal.returns-in_err-header_tried
returns-in_err-header_tried c =
    let s = c.args.file.now in
    let same : c.from_residual.result ≡ Err c.in_err-header_tried.field-0.0 = search rules in
    rw same (sym (refused_alike (header_trials s) tt (header_of s) _ _ (sym c.header_tried.ensures ∙ ap said c.in_err-header_tried.was)))

pub returns : goal.returns
returns c =
    let s = c.args.file.now in
    ap answers c.header.ensures ∙ sym (accepted_alike (header_trials s) tt tt (header_of s) (sym c.header_tried.ensures ∙ ap said c.in_ok-header_tried.was))
