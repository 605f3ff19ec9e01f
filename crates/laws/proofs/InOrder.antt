-- What is made of the entries of a list, one after the other: its length, what stands at each entry's place, and when it is a part of another list.
use Prim.Native.Nat.{ℕ, zero, suc, ◌+◌, ◌*◌, ◌<◌}
use mathlib.Core.Path.{◌≡◌, refl, sym, ◌∙◌}
use mathlib.Core.List.{List, [], ◌∷◌, ◌++◌, append_assoc, append-nil}
use native.Mathlib.Nat.{mul-zero, mul-suc, add_assoc}
use native.Mathlib.Numerals.{add-one}
use native.Mathlib.Omega.{arith}
use lib.ListN.{length, length-append, get_or, take, drop, get_or-append}
use lib.Seq.{get_or-append-add, take-add, drop-drop}
use Rattle.laws.specs.InOrder.{in_order}
use Rattle.laws.specs.Upwards.{upwards, each}

module _ {A B : Type 0} (f : A → List B) where
  pub in_order_append : (xs ys : List A) → in_order f (xs ++ ys) ≡ in_order f xs ++ in_order f ys
  unfolding in_order
  in_order_append [] ys = refl
  in_order_append (x ∷ xs) ys = rw (in_order_append xs ys, append_assoc) refl

  -- a list by numbers: one entry more
  pub in_order_more : (g : ℕ → A) (i : ℕ) → in_order f (each (i + 1) g) ≡ in_order f (each i g) ++ f (g i)
  unfolding in_order upwards
  in_order_more g i = rw (add-one i, in_order_append (each i g) (g i ∷ []), append-nil (f (g i))) refl

  -- where each has the same width
  module _ (w : ℕ) (wide : (x : A) → length (f x) ≡ w) where
    pub in_order_length : (xs : List A) → length (in_order f xs) ≡ w * length xs
    unfolding in_order
    in_order_length [] = sym (mul-zero w)
    in_order_length (x ∷ xs) = rw (length-append, wide x, in_order_length xs, mul-suc w (length xs)) (omega arith)

    -- what stands at entry i, whatever comes after them
    at_entry : (xs : List A) (after : List B) (i k : ℕ) (d : A) (e : B) → i < length xs → k < w
        → get_or (in_order f xs ++ after) (w * i + k) e ≡ get_or (f (get_or xs i d)) k e
    unfolding in_order
    at_entry [] after i k d e l q = absurd (omega arith)
    at_entry (x ∷ xs) after zero k d e l q =
        let here : w * 0 + k ≡ k = rw (mul-zero w) (omega arith) in
        rw (here, append_assoc (f x) (in_order f xs) after) (get_or-append (f x) (in_order f xs ++ after) e k (rw (wide x) q))
    at_entry (x ∷ xs) after (suc i) k d e l q =
        let there : w * suc i + k ≡ length (f x) + (w * i + k) = rw (mul-suc w i, wide x) (omega arith) in
        rw (there, append_assoc (f x) (in_order f xs) after) (get_or-append-add (f x) (in_order f xs ++ after) (w * i + k) e ∙ at_entry xs after i k d e (omega arith) q)

    -- and before them
    pub in_order_at : (before : List B) (xs : List A) (after : List B) (i k : ℕ) (d : A) (e : B) → i < length xs → k < w
        → get_or (before ++ (in_order f xs ++ after)) (length before + w * i + k) e ≡ get_or (f (get_or xs i d)) k e
    in_order_at before xs after i k d e l q =
        rw (add_assoc (length before) (w * i) k) (get_or-append-add before (in_order f xs ++ after) (w * i + k) e ∙ at_entry xs after i k d e l q)

  -- entries that are made of parts of s, one part behind the other, make that stretch of s
  pub in_order_part : (w : ℕ) (g : ℕ → A) (s : List B) (at n : ℕ) → ((i : ℕ) → i < n → f (g i) ≡ take w (drop (at + w * i) s)) → in_order f (each n g) ≡ take (w * n) (drop at s)
  unfolding in_order upwards
  in_order_part w g s at zero parts = rw (mul-zero w) refl
  in_order_part w g s at (suc n) parts =
      rw (
        in_order_append (each n g) (g n ∷ []),
        append-nil (f (g n)),
        in_order_part w g s at n (λ i l. parts i (omega arith)),
        parts n (omega arith),
        mul-suc w n,
        take-add (w * n) w (drop at s),
        drop-drop (w * n) at s,
      ) refl
