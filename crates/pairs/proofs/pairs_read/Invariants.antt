-- The pairs so far, joined.
use mathlib.Core.Path.{◌≡◌}
use Rattle.layout.specs.Held.{night_held}
use Rattle.sets.specs.Sets.{unions}
use Rattle.night.specs.Kinds.{its_pair, both_of}
use Rattle.pairs.proofs.pairs_read.Given as goal

abbrev pub invariant-loop-k : goal.invariant-loop-k
invariant-loop-k l = l.all ≡ unions (λ j. both_of (its_pair (night_held l.file) l.v j)) l.k
