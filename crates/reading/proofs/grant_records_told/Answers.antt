-- The part between where the grants start and where the nodes start, which lies within an accepted file.
use native.Mathlib.Omega.{arith}
use mathlib.Core.Path.{sym, ap, ◌∙◌}
use Rattle.night.specs.Refusals.{said}
use Rattle.trials.proofs.Opened.{grants_first, nodes_within, accepted_length}
use Rattle.reading.proofs.grant_records_told.Goals as goal

pub slice_bounds-result-count : goal.slice_bounds-result-count
slice_bounds-result-count c = omega (arith, grants_first c.in_ok-h.h)

pub slice_bounds-result-start : goal.slice_bounds-result-start
slice_bounds-result-start c = omega (arith, grants_first c.in_ok-h.h)

pub slice_bounds-result-end : goal.slice_bounds-result-end
slice_bounds-result-end c =
    omega (arith, nodes_within c.in_ok-h.h, accepted_length c.args.file.now c.in_ok-h.h (sym c.check.ensures ∙ ap said c.in_ok-h.was))
