-- The file's relations so far stand in the array.
use Rattle.std.proofs.Common.{get_or, length, ◌<◌, ◌≡◌, ℕ}
use Rattle.layout.specs.Held.{night_held}
use Rattle.night.specs.Night.{relation_of, no_relation}
use Rattle.writing.proofs.relations.Given as goal

abbrev pub invariant-loop-i : goal.invariant-loop-i
invariant-loop-i l = (length l.all ≡ 16) × ((k : ℕ) → k < l.i → get_or l.all k no_relation ≡ relation_of (night_held l.file) k)
