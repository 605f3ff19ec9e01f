-- A stretch of a list, from k past a place on, by what it begins with.
use Prim.Native.Nat.{ℕ, suc, ◌+◌, ◌<◌}
use mathlib.Core.Path.{◌≡◌, refl}
use mathlib.Core.List.{List, ◌∷◌, ◌++◌}
use native.Mathlib.Nat.{add-suc, add_assoc}
use lib.ListN.{length, get_or, take, drop}
use lib.Seq.{drop-cons, take-add, drop-drop}

module _ {A : Type 0} (d : A) (s : List A) (at k n : ℕ) where
  pub part_one : at + k < length s → take (suc n) (drop (at + k) s) ≡ get_or s (at + k) d ∷ take n (drop (at + suc k) s)
  part_one l = rw (drop-cons s (at + k) d l, add-suc at k) refl

  pub part_more : (m : ℕ) → take (n + m) (drop (at + k) s) ≡ take n (drop (at + k) s) ++ take m (drop (at + (k + n)) s)
  part_more m = rw (take-add n m (drop (at + k) s), drop-drop n (at + k) s, add_assoc at k n) refl
