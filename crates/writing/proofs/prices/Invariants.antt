-- The file's prices so far stand in the array.
use Rattle.std.proofs.Common.{get_or, length, ◌<◌, ◌≡◌, ℕ}
use Rattle.format.specs.Layout.{nth_price}
use Rattle.writing.proofs.prices.Given as goal

abbrev pub invariant-loop-i : goal.invariant-loop-i
invariant-loop-i l = (length l.all ≡ 1280) × ((k : ℕ) → k < l.i → get_or l.all k 0 ≡ nth_price l.file.bytes.now l.file.header k)
