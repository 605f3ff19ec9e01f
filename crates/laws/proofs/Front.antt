-- A room filled from the front: what is done so far stands before what the room had.
use Prim.Native.Nat.{ℕ, suc, ◌+◌, ◌<◌, ◌≤◌}
use mathlib.Core.Path.{◌≡◌, refl, sym, ◌∙◌}
use mathlib.Core.List.{List, [], ◌∷◌, ◌++◌, append_assoc, append-nil}
use native.Mathlib.Numerals.{add-one}
use native.Mathlib.Omega.{arith}
use lib.ListN.{length, get_or, set, drop, length-append, drop_of_length-le}
use lib.Seq.{drop-cons, set_at, get_or_at}
use Rattle.laws.specs.Upwards.{upwards, each}
use Rattle.laws.proofs.Upwards.{each_length}

module _ {A : Type 0} where
  -- one store more
  pub front_more : (done room : List A) (v : A) (k : ℕ) → length done ≡ k → k < length room → set (done ++ drop k room) k v ≡ (done ++ (v ∷ [])) ++ drop (k + 1) room
  front_more done room v k e l =
      rw (drop-cons room k v l, add-one k) (set_at done (get_or room k v) (drop (suc k) room) v k e ∙ sym (append_assoc done (v ∷ []) (drop (suc k) room)))

  -- two stores more
  pub front_two : (done room : List A) (v w : A) (k : ℕ) → length done ≡ k → k + 1 < length room
      → set (set (done ++ drop k room) k v) (k + 1) w ≡ (done ++ (v ∷ w ∷ [])) ++ drop (k + 2) room
  front_two done room v w k e l =
      let longer : length (done ++ (v ∷ [])) ≡ k + 1 = length-append done (v ∷ []) ∙ rw e refl in
      let after : k + 1 + 1 ≡ k + 2 = omega arith in
      let second : set ((done ++ (v ∷ [])) ++ drop (k + 1) room) (k + 1) w ≡ (done ++ (v ∷ w ∷ [])) ++ drop (k + 2) room =
      rw (after, append_assoc done (v ∷ []) (w ∷ [])) at (front_more (done ++ (v ∷ [])) room w (k + 1) longer l)
      in
      rw (front_more done room v k e (omega arith)) second

  -- a list by numbers: one store more
  pub each_front : (f : ℕ → A) (before room : List A) (i : ℕ) (v : A) → i < length before → room ≡ each i f ++ drop i before → v ≡ f i
      → set room i v ≡ each (i + 1) f ++ drop (i + 1) before
  unfolding upwards
  each_front f before room i v l inv e = rw (inv, e) (front_more (each i f) before (f i) i (each_length f i) l ∙ rw (add-one i) refl)

  -- what is next to be done is as the room had it
  pub each_rest : (f : ℕ → A) (before room : List A) (i : ℕ) (d : A) → i < length before → room ≡ each i f ++ drop i before → get_or room i d ≡ get_or before i d
  each_rest f before room i d l inv = rw (inv, drop-cons before i d l) (get_or_at (each i f) (get_or before i d) (drop (suc i) before) d i (each_length f i))

  -- once all is done nothing of the room is left
  pub each_done : (f : ℕ → A) (before : List A) (n : ℕ) → length before ≡ n → each n f ++ drop n before ≡ each n f
  each_done f before n e =
      let short : length before ≤ n = omega arith in
      rw (drop_of_length-le before short) (append-nil (each n f))
