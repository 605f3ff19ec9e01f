-- A set is a number: k is a member where the binary digit k is 1. A word of w bits holds members below w.
use Rattle.std.specs.Prelude.{ℕ, zero, suc, ◌+◌, ◌-◌, ◌/◌, ◌%◌, ◌^◌, min, ◌≡◌, Bool, eqb}
use Rattle.std.specs.Int.Bits.{bit_and, bit_or}
use Rattle.std.specs.Int.Count.{count_trailing_zeros, ones}

-- the digit k of S
unfoldable pub bit : ℕ → ℕ → ℕ
bit S k = S / 2 ^ k % 2

-- k is a member of S; and the test of it
abbrev pub In : ℕ → ℕ → Type 0
In k S = bit S k ≡ 1

unfoldable pub member : ℕ → ℕ → Bool
member S k = eqb (bit S k) 1

-- what is in one of the two, in both, in the first alone
unfoldable pub union : ℕ → ℕ → ℕ
union a b = bit_or a b

unfoldable pub meet : ℕ → ℕ → ℕ
meet a b = bit_and a b

unfoldable pub minus : ℕ → ℕ → ℕ
minus a b = a - bit_and a b

-- every member of the first is one of the second; and the test of it
abbrev pub Within : ℕ → ℕ → Type 0
Within a b = (k : ℕ) → In k a → In k b

unfoldable pub within : ℕ → ℕ → Bool
within a b = eqb (meet a b) a

-- the two have no common member; and the test of it
abbrev pub Apart : ℕ → ℕ → Type 0
Apart a b = (k : ℕ) → In k a → In k b → ⊥

unfoldable pub apart : ℕ → ℕ → Bool
apart a b = eqb (meet a b) 0

-- the first k numbers, of those that a word of w bits holds
unfoldable pub below : ℕ → ℕ → ℕ
below w k = 2 ^ min k w - 1

-- k alone, where a word of w bits holds it
unfoldable pub single : ℕ → ℕ → ℕ
single w k = 2 ^ k % 2 ^ w

-- the lowest member, or w where there is none
unfoldable pub lowest : ℕ → ℕ → ℕ
lowest w S = count_trailing_zeros w S

-- how many members S has
unfoldable pub size : ℕ → ℕ
size S = ones S

-- the members below n, counted one by one
unfoldable pub count_below : ℕ → ℕ → ℕ
count_below zero S = 0
count_below (suc n) S = count_below n S + bit S n

-- all that one of f 0, f 1, .. below n has
unfoldable pub unions : (ℕ → ℕ) → ℕ → ℕ
unions f zero = 0
unions f (suc n) = union (unions f n) (f n)
