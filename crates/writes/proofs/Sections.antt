-- A section of records that was written is read back record by record. Said once, for any kind of record that is read back from its own bytes, as it is or
-- without the fields that its version doesn't have.
use Prim.Native.Nat.{ℕ, ◌+◌, ◌*◌, ◌<◌}
use mathlib.Core.Path.{◌≡◌, sym, ◌∙◌}
use mathlib.Core.List.{List, ◌++◌, map}
use lib.ListN.{length, length-map, get_or, get_or-append, get_or-map}
use lib.Seq.{get_or-append-add}
use Rattle.laws.specs.InOrder.{in_order}
use Rattle.laws.specs.Upwards.{each}
use Rattle.laws.proofs.InOrder.{in_order_at}
use Rattle.laws.proofs.Upwards.{each_same, each_self}

-- each entry of a list by its number, made into another
each_mapped : {A : Type 0} (told : A → A) (xs : List A) (d : A) → each (length xs) (λ k. told (get_or xs k d)) ≡ map told xs
each_mapped told xs d =
    each_same (λ k. told (get_or xs k d)) (λ k. get_or (map told xs) k (told d)) (length xs) (λ k l. sym (get_or-map told xs k d))
    ∙ rw (length-map xs told) at (each_self (map told xs) (told d))

-- a kind of record: its bytes, how many, what stands past the last, how it is read, and that this gives it, as it is read, from a list that has its bytes
module _ {A : Type 0} (f : A → List ℕ) (w : ℕ) (wide : (x : A) → length (f x) ≡ w) (d : A) (read : List ℕ → ℕ → A) (told : A → A) (Fit : A → Type 0)
    (back : (s : List ℕ) (at : ℕ) (x : A) → Fit x → ((k : ℕ) → k < w → get_or (f x) k 0 ≡ get_or s (at + k) 0) → read s at ≡ told x)
    (before : List ℕ) (xs : List A) (after s : List ℕ) (at : ℕ) (there : s ≡ before ++ (in_order f xs ++ after)) (long : length before ≡ at) (fits : (k : ℕ) → Fit (get_or xs k d)) where
  pub entry_back : (i : ℕ) → i < length xs → read s (at + w * i) ≡ told (get_or xs i d)
  entry_back i l = back s (at + w * i) (get_or xs i d) (fits i) (λ k q. sym (rw (there, ← long) (in_order_at f w wide before xs after i k d 0 l q)))

  pub section_back : (n : ℕ) → length xs ≡ n → each n (λ i. read s (at + w * i)) ≡ map told xs
  section_back n e = each_same (λ i. read s (at + w * i)) (λ i. told (get_or xs i d)) n (λ i l. entry_back i (rw e l)) ∙ rw (← e) (each_mapped told xs d)

-- bytes that stand in a list as they are
pub byte_back : (before bytes after : List ℕ) {s : List ℕ} {at : ℕ} → s ≡ before ++ (bytes ++ after) → length before ≡ at → (k : ℕ) → k < length bytes → get_or s (at + k) 0 ≡ get_or bytes k 0
byte_back before bytes after there long k l = rw (there, ← long) (get_or-append-add before (bytes ++ after) k 0 ∙ get_or-append bytes after 0 k l)
