-- What a word says as a decimal number.
use Rattle.std.specs.Prelude.{ℕ, zero, suc, ◌+◌, ◌-◌, ◌*◌, ◌^◌, ◌≡◌, Bool, false, not, List, [], ◌∷◌, eqb, ltb, leb, length, get_or, Option, Some, None, if◌then◌else◌}
use Rattle.laws.specs.First.{somewhere}

-- a byte from `0`, 48, to `9`, 57
unfoldable pub is_digit : ℕ → Bool
is_digit b = if ltb b 48 then false else leb b 57

-- at place i of the word stands no digit
unfoldable pub no_digit : List ℕ → ℕ → Bool
no_digit word i = not (is_digit (get_or word i 0))

-- the number that the first n digits of the word say, the first of them the highest
unfoldable pub decimal : List ℕ → ℕ → ℕ
decimal word zero = 0
decimal word (suc n) = decimal word n * 10 + (get_or word n 0 - 48)

-- a word that is not empty, has nothing but digits and says a number below 2 ^ 32 is that number; any other word is none
unfoldable pub word_of : List ℕ → Option ℕ
word_of word =
    if eqb (length word) 0 then None else
    if somewhere (no_digit word) (length word) then None else
    if ltb (decimal word (length word)) (2 ^ 32) then Some (decimal word (length word)) else None

-- small words: empty; `0`; `03`; the highest number and the next; the bytes around the digits, and `9`; a letter after a digit; a sign
pub record SmallWords : Type 0 where
  pub empty : word_of [] ≡ None
  pub nought : word_of (48 ∷ []) ≡ Some 0
  pub leading : word_of (48 ∷ 51 ∷ []) ≡ Some 3
  pub highest : word_of (52 ∷ 50 ∷ 57 ∷ 52 ∷ 57 ∷ 54 ∷ 55 ∷ 50 ∷ 57 ∷ 53 ∷ []) ≡ Some 4294967295
  pub too_high : word_of (52 ∷ 50 ∷ 57 ∷ 52 ∷ 57 ∷ 54 ∷ 55 ∷ 50 ∷ 57 ∷ 54 ∷ []) ≡ None
  pub below_digits : word_of (47 ∷ []) ≡ None
  pub nine : word_of (57 ∷ []) ≡ Some 9
  pub above_digits : word_of (58 ∷ []) ≡ None
  pub letter : word_of (49 ∷ 120 ∷ []) ≡ None
  pub sign : word_of (43 ∷ 49 ∷ []) ≡ None
