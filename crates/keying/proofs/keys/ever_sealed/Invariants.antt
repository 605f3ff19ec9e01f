-- The set grows by one node a turn.
use mathlib.Core.Path.{◌≡◌}
use lib.ListN.{get_or}
use Rattle.sets.specs.Sets.{unions}
use Rattle.keying.proofs.keys.ever_sealed.Given as goal

abbrev pub invariant-loop-i : goal.invariant-loop-i
invariant-loop-i l = l.all ≡ unions (λ j. get_or l.seals j 0) l.i
