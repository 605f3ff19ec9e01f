-- The digits so far, and the number that they say.
use Prim.Native.Nat.{◌<◌, ◌^◌}
use mathlib.Core.Path.{◌≡◌}
use Rattle.laws.specs.First.{first}
use Rattle.show.specs.Words.{no_digit, decimal}
use Rattle.show.proofs.words.number.Given as goal

abbrev pub invariant-loop-digit : goal.invariant-loop-digit
invariant-loop-digit l = (l.number < 2 ^ 32) × (first (no_digit l.word) l.digit-index ≡ l.digit-index) × (l.number ≡ decimal l.word l.digit-index)
