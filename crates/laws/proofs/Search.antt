-- The first number at which a test holds, and whether there is one, as std's iterators say it.
use Prim.Native.Nat.compare
use Prim.Native.Nat.{ℕ, zero, suc, ◌+◌, ◌<◌}
use mathlib.Core.Path.{◌≡◌, refl, sym, ap, ◌∙◌}
use mathlib.Core.Bool.{Bool, true, false, not, cond, ◌||◌}
use mathlib.Core.List.{List}
use native.Mathlib.Omega.{arith}
use lib.Dec.{ltb}
use lib.ListN.{length, get_or}
use borrow.Author.Tests.{lt-ltb, ltb-true, ltb-false}
use Rattle.std.specs.Prelude.{if◌then◌else◌, Some, None}
use Rattle.std.specs.Option.{unwrap_or}
use Rattle.std.specs.List.{list_any, position, position_or_len, range_with_len}
use Rattle.std.proofs.lemmas.List.Sums.{fails_before_first, passes_at_first, prefix_len-le-length}
use Rattle.laws.specs.First.{first, somewhere}
use Rattle.laws.proofs.First.{none_before, first_found}

-- `position` of a slice
module _ {A : Type 0} (p : A → Bool) (d : A) (xs : List A) where
  abbrev at : ℕ → Bool
  at k = p (get_or xs k d)

  abbrev q : ℕ
  q = position_or_len p xs

  none : first at q ≡ q
  none = none_before at q (λ k l. fails_before_first p xs k d l)

  pub place_first : q ≡ first at (length xs)
  place_first = go (ltb q (length xs)) refl
    where
      go : (b : Bool) → ltb q (length xs) ≡ b → q ≡ first at (length xs)
      go true e =
          let l : q < length xs = ltb-true q (length xs) e in
          sym (first_found at q (length xs) none (passes_at_first p xs d l) l)
      go false e =
          let same : q ≡ length xs = omega (arith, ltb-false q (length xs) e, prefix_len-le-length (λ x. not (p x)) xs) in
          sym none ∙ ap (first at) same

  -- with the length where there is none
  pub place_or_length : unwrap_or (position p xs) (length xs) ≡ first at (length xs)
  place_or_length = go (ltb q (length xs)) refl ∙ place_first
    where
      go : (b : Bool) → ltb q (length xs) ≡ b → unwrap_or (cond b (Some q) None) (length xs) ≡ q
      go true e = refl
      go false e = omega (arith, ltb-false q (length xs) e, prefix_len-le-length (λ x. not (p x)) xs)

ltb_suc : (m n : ℕ) → ltb (suc m) (suc n) ≡ ltb m n
ltb_suc m n = rw compare.suc-suc refl

-- the first of one number more, by whether the test holds at 0
turn : (a c : Bool) (m n : ℕ)
    → (if ltb (if a then 0 else suc m) (suc n) then (if a then 0 else suc m) else if c then suc n else suc (suc n))
    ≡ (if a then 0 else suc (if ltb m n then m else if c then n else suc n))
turn true c m n = rw (lt-ltb 0 (suc n) (omega arith)) refl
turn false c m n = rw (ltb_suc m n) (go (ltb m n) c)
  where
    go : (b c : Bool) → (if b then suc m else if c then suc n else suc (suc n)) ≡ suc (if b then m else if c then n else suc n)
    go true c = refl
    go false true = refl
    go false false = refl

first_shift : (p : ℕ → Bool) (n : ℕ) → first p (suc n) ≡ (if p 0 then 0 else suc (first (λ k. p (suc k)) n))
unfolding first
first_shift p zero = refl
first_shift p (suc n) = rw (first_shift p n) (turn (p 0) (p (suc n)) (first (λ k. p (suc k)) n) n)

somewhere_shift : (p : ℕ → Bool) (n : ℕ) → somewhere p (suc n) ≡ p 0 || somewhere (λ k. p (suc k)) n
unfolding somewhere
somewhere_shift p n = rw (first_shift p n) (go (p 0))
  where
    go : (b : Bool) → ltb (if b then 0 else suc (first (λ k. p (suc k)) n)) (suc n) ≡ b || ltb (first (λ k. p (suc k)) n) n
    go true = lt-ltb 0 (suc n) (omega arith)
    go false = ltb_suc (first (λ k. p (suc k)) n) n

-- `any` of a range
somewhere_none_below : (p : ℕ → Bool) → somewhere p 0 ≡ false
unfolding somewhere first
somewhere_none_below p = refl

any_from : (p : ℕ → Bool) (a n : ℕ) → list_any p (range_with_len a n) ≡ somewhere (λ k. p (a + k)) n
any_from p a zero = sym (somewhere_none_below (λ k. p (a + k)))
any_from p a (suc n) =
    let shift : (k : ℕ) → a + 1 + k ≡ a + suc k = λ k. omega arith in
    let same : somewhere (λ k. p (a + 1 + k)) n ≡ somewhere (λ k. p (a + suc k)) n = λ i. somewhere (λ k. p (shift k i)) n in
    let here : p a ≡ p (a + 0) = ap p (omega arith) in
    (λ i. here i || (any_from p (a + 1) n ∙ same) i) ∙ sym (somewhere_shift (λ k. p (a + k)) n)

pub any_somewhere : (p : ℕ → Bool) (n : ℕ) → list_any p (range_with_len 0 n) ≡ somewhere p n
any_somewhere p n =
    let shift : (k : ℕ) → 0 + k ≡ k = λ k. omega arith in
    any_from p 0 n ∙ (λ i. somewhere (λ k. p (shift k i)) n)
