-- Sets by their members.
use Prim.Native.Nat.{ℕ, zero, suc, ◌*◌, ◌-◌, ◌/◌, ◌%◌, ◌^◌, ◌<◌, ◌≤◌, min, max}
use mathlib.Core.Path.{◌≡◌, refl, sym, ap, ◌∙◌}
use mathlib.Core.Bool.{Bool, true, false}
use mathlib.Core.Logic.{◌⊎◌, inl, inr, ⊎_elim, ◌↔◌}
use native.Mathlib.Nat.{zero-div, lt_of_lt_of_le, div-one, pow-suc, div-eq_of_lt, eq-or-lt_of_le, le_of_suc-le-suc}
use native.Mathlib.Numerals.{one-add}
use native.Mathlib.Omega.{arith}
use lib.Pow.{shr-shr, pow_mono}
use lib.Bits.{bit_and, and_shr, or_shr, and_step, or_step, and_le_l}
use borrow.Author.Tests.{eqb-true, eqb-false, eq-eqb, ne_eqb}
use Rattle.sets.specs.Sets.{bit, In, member, union, meet, minus, Within, within, Apart, apart, unions}

-- digits
pub bit_lt : (S k : ℕ) → bit S k < 2
unfolding bit
bit_lt S k = omega arith

pub bit_zero : (S : ℕ) → bit S 0 ≡ S % 2
unfolding bit
bit_zero S = rw div-one refl

pub bit_suc : (S k : ℕ) → bit S (suc k) ≡ bit (S / 2) k
unfolding bit
bit_suc S k = rw (shr-shr S 1 k, one-add k) refl

pub bit_none : (k : ℕ) → bit 0 k ≡ 0
unfolding bit
bit_none k = rw zero-div refl

pub bit_meet : (a b k : ℕ) → bit (meet a b) k ≡ min (bit a k) (bit b k)
unfolding bit meet
bit_meet a b k = rw (and_shr, and_step) (omega arith)

pub bit_union : (a b k : ℕ) → bit (union a b) k ≡ max (bit a k) (bit b k)
unfolding bit union
bit_union a b k = rw (or_shr, or_step) (omega arith)

pub bit_minus : (a b k : ℕ) → bit (minus a b) k ≡ bit a k - bit b k
unfolding minus
bit_minus a b zero = rw (bit_zero (minus a b), bit_zero a, bit_zero b) (omega (arith, and_step a b, and_le_l (a / 2) (b / 2)))
bit_minus a b (suc k) =
    let e : (a - bit_and a b) / 2 ≡ a / 2 - bit_and (a / 2) (b / 2) = omega (arith, and_step a b, and_le_l (a / 2) (b / 2)) in
    bit_suc (a - bit_and a b) k ∙ ap (λ (x : ℕ). bit x k) e ∙ bit_minus (a / 2) (b / 2) k ∙ rw (bit_suc a, bit_suc b) refl

-- no member from n on, in a set below 2 ^ n
pub bit_beyond : (n S k : ℕ) → S < 2 ^ n → n ≤ k → bit S k ≡ 0
unfolding bit
bit_beyond n S k h l = rw (div-eq_of_lt (lt_of_lt_of_le h (pow_mono l))) refl

-- equality by members, of sets below 2 ^ n
pub same_below : (n a b : ℕ) → a < 2 ^ n → b < 2 ^ n → ((k : ℕ) → k < n → bit a k ≡ bit b k) → a ≡ b
same_below zero a b ha hb e = omega arith
same_below (suc n) a b ha hb e =
    let h0 : a % 2 ≡ b % 2 = sym (bit_zero a) ∙ e 0 (omega arith) ∙ bit_zero b in
    let pa : a < 2 ^ n * 2 = rw pow-suc at ha in
    let pb : b < 2 ^ n * 2 = rw pow-suc at hb in
    let h1 : a / 2 ≡ b / 2 = same_below n (a / 2) (b / 2) (omega arith) (omega arith) (λ k l. sym (bit_suc a k) ∙ e (suc k) (omega arith) ∙ bit_suc b k) in
    omega arith

-- a set is below 2 to itself
pub below_pow : (n : ℕ) → n < 2 ^ n
below_pow zero = omega arith
below_pow (suc n) = rw pow-suc (omega (arith, below_pow n))

-- equality by members, of any sets
pub same_members : (a b : ℕ) → Within a b → Within b a → a ≡ b
same_members a b f g =
    same_below (max a b) a b (lt_of_lt_of_le (below_pow a) (pow_mono (omega arith))) (lt_of_lt_of_le (below_pow b) (pow_mono (omega arith)))
    (λ k l. both (bit a k) (bit b k) (bit_lt a k) (bit_lt b k) (f k) (g k))
  where
    both : (x y : ℕ) → x < 2 → y < 2 → (x ≡ 1 → y ≡ 1) → (y ≡ 1 → x ≡ 1) → x ≡ y
    both zero zero hx hy p q = refl
    both zero (suc y) hx hy p q = omega (arith, q (omega arith))
    both (suc x) y hx hy p q = omega (arith, p (omega arith))

-- the test of membership
pub member_in : (S k : ℕ) → member S k ≡ true → In k S
unfolding member
member_in S k e = eqb-true (bit S k) 1 e

pub in_member : (S k : ℕ) → In k S → member S k ≡ true
unfolding member
in_member S k e = eq-eqb (bit S k) 1 e

pub not_member : (S k : ℕ) → member S k ≡ false → In k S → ⊥
unfolding member
not_member S k e = eqb-false (bit S k) 1 e

pub out_member : (S k : ℕ) → (In k S → ⊥) → member S k ≡ false
unfolding member
out_member S k h = ne_eqb (bit S k) 1 h

-- a number is a member or not
pub in_or_not : (k S : ℕ) → In k S ⊎ (In k S → ⊥)
in_or_not k S = go (member S k) refl
  where
    go : (b : Bool) → member S k ≡ b → In k S ⊎ (In k S → ⊥)
    go true e = inl (member_in S k e)
    go false e = inr (not_member S k e)

-- members of the sets that are made
pub in_union : (a b k : ℕ) → In k (union a b) ↔ (In k a ⊎ In k b)
in_union a b k = (λ h. split (bit a k) (bit b k) (bit_lt a k) (bit_lt b k) (sym (bit_union a b k) ∙ h), λ h. bit_union a b k ∙ ⊎_elim (λ l. omega (arith, bit_lt b k)) (λ r. omega (arith, bit_lt a k)) h)
  where
    split : (x y : ℕ) → x < 2 → y < 2 → max x y ≡ 1 → (x ≡ 1) ⊎ (y ≡ 1)
    split zero y hx hy e = inr (omega arith)
    split (suc x) y hx hy e = inl (omega arith)

pub in_meet : (a b k : ℕ) → In k (meet a b) ↔ (In k a × In k b)
in_meet a b k = (
  λ h.
      let e : min (bit a k) (bit b k) ≡ 1 = sym (bit_meet a b k) ∙ h in
      (omega (arith, bit_lt a k), omega (arith, bit_lt b k)),
  λ h. bit_meet a b k ∙ omega arith,
)

pub in_minus : (a b k : ℕ) → In k (minus a b) ↔ (In k a × (In k b → ⊥))
in_minus a b k = (
  λ h.
      let e : bit a k - bit b k ≡ 1 = sym (bit_minus a b k) ∙ h in
      (omega (arith, bit_lt a k), λ q. omega (arith, bit_lt a k)),
  λ h. bit_minus a b k ∙ out (bit a k) (bit b k) (bit_lt b k) h.0 h.1,
)
  where
    out : (x y : ℕ) → y < 2 → x ≡ 1 → (y ≡ 1 → ⊥) → x - y ≡ 1
    out x zero hy e f = omega arith
    out x (suc y) hy e f = absurd (f (omega arith))

pub in_none : (k : ℕ) → In k 0 → ⊥
in_none k h = omega (arith, bit_none k)

-- inclusion and disjointness
pub within_exactly : (a b : ℕ) → (within a b ≡ true) ↔ Within a b
unfolding within
within_exactly a b = (
  λ e k h. ((in_meet a b k).0 (rw (eqb-true (meet a b) a e) h)).1,
  λ f. eq-eqb (meet a b) a (same_members (meet a b) a (λ k h. ((in_meet a b k).0 h).0) (λ k h. (in_meet a b k).1 (h, f k h))),
)

pub apart_exactly : (a b : ℕ) → (apart a b ≡ true) ↔ Apart a b
unfolding apart
apart_exactly a b = (
  λ e k h g. in_none k (rw (eqb-true (meet a b) 0 e) at ((in_meet a b k).1 (h, g))),
  λ f. eq-eqb (meet a b) 0 (same_members (meet a b) 0 (λ k h. absurd (f k ((in_meet a b k).0 h).0 ((in_meet a b k).0 h).1)) (λ k h. absurd (in_none k h))),
)

-- all that one of several sets has
pub in_unions : (f : ℕ → ℕ) (n k : ℕ) → In k (unions f n) ↔ ((i : ℕ) × (i < n) × In k (f i))
unfolding unions
in_unions f zero k = (λ h. absurd (in_none k h), λ h. absurd (omega (arith, h.1)))
in_unions f (suc n) k = (
  λ h.
      ⊎_elim
      (λ l.
      let r = (in_unions f n k).0 l in
      (r.0, omega (arith, r.1), r.2))
      (λ r. (n, omega arith, r))
      ((in_union (unions f n) (f n) k).0 h),
  λ h.
      (in_union (unions f n) (f n) k).1
      (⊎_elim (λ e. inr (rw e at h.2)) (λ l. inl ((in_unions f n k).1 (h.0, l, h.2))) (eq-or-lt_of_le (le_of_suc-le-suc h.1))),
)
