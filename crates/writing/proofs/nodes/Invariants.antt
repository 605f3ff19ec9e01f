-- The file's nodes so far stand in the array.
use Rattle.std.proofs.Common.{get_or, length, ◌<◌, ◌≡◌, ℕ}
use Rattle.layout.specs.Held.{night_held}
use Rattle.night.specs.Night.{node_of, no_node}
use Rattle.writing.proofs.nodes.Given as goal

abbrev pub invariant-loop-i : goal.invariant-loop-i
invariant-loop-i l = (length l.all ≡ 64) × ((k : ℕ) → k < l.i → get_or l.all k no_node ≡ node_of (night_held l.file) k)
