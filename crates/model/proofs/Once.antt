-- There is only one cheapest choice.
use Prim.Native.Nat.{ℕ, zero, suc, ◌<◌}
use mathlib.Core.Path.{◌≡◌, refl, sym}
use mathlib.Core.Bool.{Bool, true, false}
use mathlib.Core.Logic.{◌⊎◌, inl, inr, ⊎_elim}
use native.Mathlib.Nat.{le_antisymm, eq-or-lt_of_le, le_of_suc-le-suc}
use native.Mathlib.Omega.{arith}
use lib.Dec.{ltb}
use borrow.Author.Tests.{ltb-true, ltb-false}
use Rattle.night.specs.Night.{Night}
use Rattle.model.specs.Choice.{Choice, total, Earlier, Least, LeastOnce}

-- the last node decides
earlier_top : (n : ℕ) (c d : Choice) → c n < d n → Earlier (suc n) c d
earlier_top n c d l = record { node = n; there = omega arith; smaller = l; same_after = λ j h g. absurd (omega arith) }

-- the last node is the same in both
same_more : (n : ℕ) (c d : Choice) → c n ≡ d n → ((i : ℕ) → i < n → c i ≡ d i) → (i : ℕ) → i < suc n → c i ≡ d i
same_more n c d e f i l = ⊎_elim (λ q. rw q e) (f i) (eq-or-lt_of_le (le_of_suc-le-suc l))

earlier_more : (n : ℕ) (c d : Choice) → c n ≡ d n → Earlier n c d → Earlier (suc n) c d
earlier_more n c d e x =
    record {
      node = x.node;
      there = omega arith;
      smaller = x.smaller;
      same_after = λ j h l. ⊎_elim (λ q. rw q e) (x.same_after j h) (eq-or-lt_of_le (le_of_suc-le-suc l));
    }

-- two choices are the same below n, or one comes earlier
pub compared : (n : ℕ) (c d : Choice) → ((i : ℕ) → i < n → c i ≡ d i) ⊎ (Earlier n c d ⊎ Earlier n d c)
compared zero c d = inl (λ i l. absurd (omega arith))
compared (suc n) c d = go (ltb (c n) (d n)) (ltb (d n) (c n)) refl refl (compared n c d)
  where
    go : (a b : Bool) → ltb (c n) (d n) ≡ a → ltb (d n) (c n) ≡ b → ((i : ℕ) → i < n → c i ≡ d i) ⊎ (Earlier n c d ⊎ Earlier n d c)
        → ((i : ℕ) → i < suc n → c i ≡ d i) ⊎ (Earlier (suc n) c d ⊎ Earlier (suc n) d c)
    go true b p q r = inr (inl (earlier_top n c d (ltb-true (c n) (d n) p)))
    go false true p q r = inr (inr (earlier_top n d c (ltb-true (d n) (c n) q)))
    go false false p q r =
        let e : c n ≡ d n = le_antisymm (ltb-false (d n) (c n) q) (ltb-false (c n) (d n) p) in
        ⊎_elim (λ f. inl (same_more n c d e f)) (⊎_elim (λ x. inr (inl (earlier_more n c d e x))) (λ x. inr (inr (earlier_more n d c (sym e) x)))) r

-- two cheapest choices cost the same, and are the same
pub least_total : (N : Night) (c d : Choice) → Least N c → Least N d → total N c ≡ total N d
least_total N c d x y = le_antisymm (x.cheapest d y.admissible) (y.cheapest c x.admissible)

pub least_once : LeastOnce
least_once N c d x y =
    let e = least_total N c d x y in
    ⊎_elim (λ f. f)
    (⊎_elim (λ h. absurd (y.earliest c x.admissible e h)) (λ h. absurd (x.earliest d y.admissible (sym e) h)))
    (compared N.header.nodes c d)
