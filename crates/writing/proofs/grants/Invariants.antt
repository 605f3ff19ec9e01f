-- The file's grants so far stand in the array.
use Rattle.std.proofs.Common.{get_or, length, ◌<◌, ◌≡◌, ℕ}
use Rattle.layout.specs.Held.{night_held}
use Rattle.night.specs.Night.{grant_of, no_grant}
use Rattle.writing.proofs.grants.Given as goal

abbrev pub invariant-loop-i : goal.invariant-loop-i
invariant-loop-i l = (length l.all ≡ 272) × ((k : ℕ) → k < l.i → get_or l.all k no_grant ≡ grant_of (night_held l.file) k)
