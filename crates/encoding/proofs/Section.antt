-- A section filled record by record: the first i of them stand in the room. Said once, for any kind of record.
use Prim.Native.Nat.{ℕ, ◌+◌, ◌*◌, ◌<◌, ◌≤◌}
use mathlib.Core.Path.{◌≡◌, refl, ap, ◌∙◌}
use mathlib.Core.List.{List, [], ◌∷◌, ◌++◌, append-nil}
use mathlib.Core.Bool.{Bool, true, false}
use lib.Dec.{ltb}
use borrow.Author.Tests.{ltb-true, ltb-false}
use native.Mathlib.Numerals.{add-one}
use native.Mathlib.Omega.{arith}
use lib.ListN.{length, get_or, take, get_or-eq_default}
use lib.Seq.{take-suc, length-take-le}
use Rattle.std.proofs.lemmas.List.{get_or_default}
use Rattle.laws.specs.InOrder.{in_order}
use Rattle.laws.proofs.InOrder.{in_order_append, in_order_length}
use Rattle.encoding.specs.Stored.{Stored}
use Rattle.encoding.proofs.Put.{put_then, put_same, none_put}

module _ {A : Type 0} (f : A → List ℕ) where
  -- none yet
  pub none_yet : (xs : List A) (s : List ℕ) (at : ℕ) → Stored s s at (in_order f (take 0 xs))
  unfolding in_order
  none_yet xs s at = none_put s at

  -- one record more, each w long
  module _ (w : ℕ) (wide : (x : A) → length (f x) ≡ w) where
    pub one_more : (xs : List A) (x : A) {before room after : List ℕ} {at i : ℕ} → i < length xs → x ≡ get_or xs i x → Stored before room at (in_order f (take i xs))
        → Stored room after (at + w * i) (f x) → Stored before after at (in_order f (take (i + 1) xs))
    unfolding in_order
    one_more xs x {before} {room} {after} {at} {i} l is so_far put =
        let front : take (i + 1) xs ≡ take i xs ++ (x ∷ []) = rw (add-one i, take-suc xs i x l, ← is) refl in
        let long : length (in_order f (take i xs)) ≡ w * i = in_order_length f w wide (take i xs) ∙ ap (λ (n : ℕ). w * n) (length-take-le i xs (omega arith)) in
        let more : in_order f (take i xs) ++ f x ≡ in_order f (take (i + 1) xs) = rw (front, in_order_append f (take i xs) (x ∷ []), append-nil (f x)) refl in
        put_same more (put_then (w * i) long so_far put)

-- what holds of the records below i, and of record i
pub fits_more : {A : Type 0} (P : A → Type 0) (xs : List A) (x : A) {i : ℕ} → i < length xs → x ≡ get_or xs i x → ((k : ℕ) (d : A) → k < i → P (get_or xs k d)) → P x
    → (k : ℕ) (d : A) → k < i + 1 → P (get_or xs k d)
fits_more P xs x {i} l is all here k d q = go (ltb k i) refl
  where
    go : (b : Bool) → ltb k i ≡ b → P (get_or xs k d)
    go true e = all k d (ltb-true k i e)
    go false e =
        let p : i ≤ k = ltb-false k i e in
        let same : k ≡ i = omega arith in
        rw (same, get_or_default xs i d x l, ← is) here

-- and so of all, and of what stands past the last
pub all_fit : {A : Type 0} (P : A → Type 0) (xs : List A) (d : A) → P d → ((k : ℕ) (d : A) → k < length xs → P (get_or xs k d)) → (k : ℕ) → P (get_or xs k d)
all_fit P xs d past all k = go (ltb k (length xs)) refl
  where
    go : (b : Bool) → ltb k (length xs) ≡ b → P (get_or xs k d)
    go true e = all k d (ltb-true k (length xs) e)
    go false e = rw (get_or-eq_default xs d (ltb-false k (length xs) e)) past
