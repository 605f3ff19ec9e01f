-- Runs of stores, one behind the other, and from the start of a list.
use Prim.Native.Nat.{ℕ, suc, ◌+◌, ◌≤◌}
use mathlib.Core.Path.{◌≡◌, refl}
use mathlib.Core.List.{List, [], ◌∷◌, ◌++◌}
use native.Mathlib.Nat.{add-zero, zero-add, add-suc, suc-add}
use lib.ListN.{length, set, drop}
use lib.Seq.{sets, sets-eq}

module _ {A : Type 0} where
  -- one run behind the other
  pub sets_append : (xs ys s : List A) (at : ℕ) → sets s at (xs ++ ys) ≡ sets (sets s at xs) (at + length xs) ys
  sets_append [] ys s at = rw (add-zero at) refl
  sets_append (x ∷ xs) ys s at = rw (add-suc at (length xs), ← suc-add at (length xs)) (sets_append xs ys (set s at x) (suc at))

  -- from the start
  pub sets_front : (xs s : List A) → length xs ≤ length s → sets s 0 xs ≡ xs ++ drop (length xs) s
  sets_front xs s l = rw (zero-add (length xs)) at (sets-eq xs s 0 (rw (zero-add (length xs)) l))
