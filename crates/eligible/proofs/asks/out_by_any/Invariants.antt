-- Those whom the tied sets so far put out.
use mathlib.Core.Path.{◌≡◌}
use lib.ListN.{get_or}
use Rattle.sets.specs.Sets.{unions}
use Rattle.eligible.specs.Asked.{out_among}
use Rattle.eligible.proofs.asks.out_by_any.Given as goal

abbrev pub invariant-loop-set : goal.invariant-loop-set
invariant-loop-set l = l.out ≡ unions (λ j. out_among l.seen.file.header.subjects l.seen.clear l.seen.sealed (get_or l.tied j 0)) l.set-index
