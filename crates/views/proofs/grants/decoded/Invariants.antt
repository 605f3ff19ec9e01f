-- The grants so far stand in the array.
use Rattle.layout.specs.Held.{night_held}
use Rattle.std.proofs.Common.{length, get_or, ◌+◌, ◌<◌, ◌≡◌, ℕ}
use Rattle.night.specs.Night.{grant_of, no_grant}
use Rattle.views.specs.Stretch.{at_once}
use Rattle.views.proofs.grants.decoded.Given as goal

abbrev pub invariant-loop-i : goal.invariant-loop-i
invariant-loop-i l = (length l.out ≡ at_once) × ((k : ℕ) → k < l.i → get_or l.out k no_grant ≡ grant_of (night_held l.file) (l.from + k))
