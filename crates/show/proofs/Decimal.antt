-- How a loop over the digits of a word ends.
use Prim.Native.Nat.{ℕ, ◌+◌, ◌-◌, ◌*◌, ◌^◌, ◌<◌, ◌≤◌}
use mathlib.Core.Path.{◌≡◌, refl}
use mathlib.Core.Bool.{Bool, true, false, not}
use mathlib.Core.List.{List}
use native.Mathlib.Numerals.{add-one}
use native.Mathlib.Omega.{arith}
use native.Mathlib.Decide.{le_ind}
use lib.Dec.{ltb, leb, eqb}
use lib.ListN.{length, get_or}
use borrow.Author.Tests.{lt-ltb, le-ltb, le-leb, lt-leb, ne_eqb}
use Rattle.std.specs.Char.{IsNotAsciiDigit}
use Rattle.std.proofs.Common.{inl, inr}
use Rattle.std.specs.Prelude.{Some, None, if◌then◌else◌}
use Rattle.laws.specs.First.{first, somewhere}
use Rattle.laws.proofs.First.{somewhere_found, somewhere_none}
use Rattle.show.specs.Words.{is_digit, no_digit, decimal, word_of}

-- a loop begins
pub decimal_none : (word : List ℕ) → decimal word 0 ≡ 0
unfolding decimal
decimal_none word = refl

-- one digit more, at the code's n + 1
pub decimal_more : (word : List ℕ) (n : ℕ) → decimal word (n + 1) ≡ decimal word n * 10 + (get_or word n 0 - 48)
unfolding decimal
decimal_more word n = rw add-one refl

-- what is a digit, and what is none
pub is_one : (word : List ℕ) (i : ℕ) → 48 ≤ get_or word i 0 → get_or word i 0 ≤ 57 → no_digit word i ≡ false
unfolding no_digit is_digit
is_one word i low high = rw (le-ltb (get_or word i 0) 48 low, le-leb (get_or word i 0) 57 high) refl

pub is_none : (word : List ℕ) (i : ℕ) → IsNotAsciiDigit (get_or word i 0) → no_digit word i ≡ true
unfolding no_digit is_digit
is_none word i none =
    elim none [
      | inl low ↦ rw (lt-ltb (get_or word i 0) 48 low) refl
      | inr high ↦ go (ltb (get_or word i 0) 48) (lt-leb (get_or word i 0) 57 high)
    ]
  where
    go : (b : Bool) → leb (get_or word i 0) 57 ≡ false → not (if b then false else leb (get_or word i 0) 57) ≡ true
    go true e = refl
    go false e = rw e refl

-- further digits never bring the number down
rises : (word : List ℕ) (limit i n : ℕ) → limit ≤ decimal word i → i ≤ n → limit ≤ decimal word n
unfolding decimal
rises word limit i n h l = le_ind (λ (m : ℕ). limit ≤ decimal word m) h (λ m _ k. omega arith) n l

-- no word
pub word_empty : (word : List ℕ) → length word ≡ 0 → None ≡ word_of word
unfolding word_of
word_empty word e = rw e refl

module _ (word : List ℕ) (i : ℕ) (so_far : first (no_digit word) i ≡ i) (some : length word ≡ 0 → ⊥) where
  -- at a byte that is no digit
  pub word_broken : i < length word → no_digit word i ≡ true → None ≡ word_of word
  unfolding word_of
  word_broken l h = rw (ne_eqb (length word) 0 some, somewhere_found (no_digit word) i (length word) so_far h l) refl

  -- at the end
  pub word_read : i ≡ length word → decimal word i < 2 ^ 32 → Some (decimal word i) ≡ word_of word
  unfolding word_of
  word_read e l =
      let h : decimal word (length word) < 2 ^ 32 = rw e at l in
      rw (e, ne_eqb (length word) 0 some, somewhere_none (no_digit word) i (length word) so_far e, lt-ltb (decimal word (length word)) (2 ^ 32) h) refl

-- once the number is too high, whatever follows
pub word_high : (word : List ℕ) (i : ℕ) → (length word ≡ 0 → ⊥) → i ≤ length word → 2 ^ 32 ≤ decimal word i → None ≡ word_of word
unfolding word_of
word_high word i some l h = go (somewhere (no_digit word) (length word))
  where
    high : ltb (decimal word (length word)) (2 ^ 32) ≡ false
    high = le-ltb (decimal word (length word)) (2 ^ 32) (rises word (2 ^ 32) i (length word) h l)

    go : (t : Bool) → None ≡ (if eqb (length word) 0 then None else if t then None else if ltb (decimal word (length word)) (2 ^ 32) then Some (decimal word (length word)) else None)
    go true = rw (ne_eqb (length word) 0 some) refl
    go false = rw (ne_eqb (length word) 0 some, high) refl

-- once the next digit, d, makes it so
pub word_past : (word : List ℕ) (i v d : ℕ) → v ≡ decimal word i → (length word ≡ 0 → ⊥) → i < length word → d ≡ get_or word i 0 - 48 → 2 ^ 32 ≤ v * 10 + d
    → None ≡ word_of word
word_past word i v d so_far some l digit h =
    let e : v * 10 + d ≡ decimal word (i + 1) = rw decimal_more (cc) in
    word_high word (i + 1) some (omega arith) (omega arith)
