-- Small words, by computation.
use mathlib.Core.Path.{refl}
use Rattle.laws.specs.First.{first, somewhere}
use Rattle.show.specs.Words.{is_digit, no_digit, decimal, word_of, SmallWords}

pub small_words : SmallWords
unfolding first somewhere is_digit no_digit decimal word_of
small_words = record {
  empty = refl;
  nought = refl;
  leading = refl;
  highest = refl;
  too_high = refl;
  below_digits = refl;
  nine = refl;
  above_digits = refl;
  letter = refl;
  sign = refl;
}
