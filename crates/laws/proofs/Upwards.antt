-- The entries of a list worked out upwards, and a loop that works it out in an array.
use Prim.Native.Nat.{ℕ, zero, suc, ◌+◌, ◌<◌, ◌≤◌}
use mathlib.Core.Path.{◌≡◌, refl, sym, ◌∙◌}
use mathlib.Core.List.{List, []}
use mathlib.Core.Bool.{Bool, true, false}
use borrow.Author.Tests.{ltb-true, ltb-false, eqb-true, eqb-false}
use lib.Dec.{ltb, eqb}
use lib.Arith.{lt_of_le-ne}
use native.Mathlib.Numerals.{add-one}
use native.Mathlib.Omega.{arith}
use native.Mathlib.Decide.{le_ind}
use lib.ListN.{length, get_or, set, length-append, replicate, get_or-append, get_or-eq_default}
use lib.Seq.{get_or_at, get_or-set_same, get_or-set_other, ext_get_or}
use Rattle.laws.specs.Upwards.{upwards, each}

module _ {A : Type 0} (f : List A → ℕ → A) where
  pub upwards_length : (n : ℕ) → length (upwards f n) ≡ n
  unfolding upwards
  upwards_length zero = refl
  upwards_length (suc n) = rw (length-append, upwards_length n) (omega arith)

  -- the entry that a step makes
  upwards_here : (d : A) (i : ℕ) → get_or (upwards f (suc i)) i d ≡ f (upwards f i) i
  unfolding upwards
  upwards_here d i = get_or_at (upwards f i) (f (upwards f i) i) [] d i (upwards_length i)

  -- the entries before it stay
  upwards_keeps : (d : A) (i k : ℕ) → k < i → get_or (upwards f (suc i)) k d ≡ get_or (upwards f i) k d
  unfolding upwards
  upwards_keeps d i k h = get_or-append (upwards f i) _ d k (rw (upwards_length i) h)

  -- entry k is the same in every longer list
  pub upwards_at : (d : A) (k n : ℕ) → k < n → get_or (upwards f n) k d ≡ f (upwards f k) k
  upwards_at d k n h = le_ind (λ (m : ℕ). get_or (upwards f m) k d ≡ f (upwards f k) k) (upwards_here d k) (λ m l e. upwards_keeps d m k l ∙ e) n h

  -- past the end
  pub upwards_past : (d : A) (k n : ℕ) → n ≤ k → get_or (upwards f n) k d ≡ d
  upwards_past d k n h = get_or-eq_default (upwards f n) d (rw (upwards_length n) h)

  -- entries other than i are the same before and after i is made
  upwards_other : (d : A) (i k : ℕ) → (k ≡ i → ⊥) → get_or (upwards f (suc i)) k d ≡ get_or (upwards f i) k d
  upwards_other d i k no-i = go (ltb k i) refl
    where
      go : (b : Bool) → ltb k i ≡ b → get_or (upwards f (suc i)) k d ≡ get_or (upwards f i) k d
      go true e = upwards_keeps d i k (ltb-true k i e)
      go false e =
          let h : i ≤ k = ltb-false k i e in
          let l : i < k = lt_of_le-ne h (λ q. no-i (sym q)) in
          upwards_past d k (suc i) l ∙ sym (upwards_past d k i h)

  -- an array holds the list so far, and d after it
  abbrev pub Agrees : A → ℕ → List A → Type 0
  Agrees d i out = (k : ℕ) → get_or out k d ≡ get_or (upwards f i) k d

  pub agrees_more : (d : A) (i : ℕ) (v : A) (out : List A) → i < length out → Agrees d i out → v ≡ f (upwards f i) i → Agrees d (i + 1) (set out i v)
  agrees_more d i v out l a e k = rw add-one (go (eqb k i) refl)
    where
      go : (b : Bool) → eqb k i ≡ b → get_or (set out i v) k d ≡ get_or (upwards f (suc i)) k d
      go true q = rw (eqb-true k i q) (get_or-set_same out i v d l ∙ e ∙ sym (upwards_here d i))
      go false q = get_or-set_other out i k v d (eqb-false k i q) ∙ a k ∙ sym (upwards_other d i k (eqb-false k i q))

  pub agrees_none : (d : A) (n : ℕ) → Agrees d 0 (replicate n d)
  unfolding upwards
  agrees_none d n k = go n k
    where
      go : (n k : ℕ) → get_or (replicate n d) k d ≡ d
      go zero k = refl
      go (suc n) zero = refl
      go (suc n) (suc k) = go n k

-- of a list that says each entry by its number alone
pub each_at : {A : Type 0} (f : ℕ → A) (d : A) (k n : ℕ) → k < n → get_or (each n f) k d ≡ f k
each_at f d k n h = upwards_at (λ before i. f i) d k n h

pub each_past : {A : Type 0} (f : ℕ → A) (d : A) (k n : ℕ) → n ≤ k → get_or (each n f) k d ≡ d
each_past f d k n h = upwards_past (λ before i. f i) d k n h

pub each_length : {A : Type 0} (f : ℕ → A) (n : ℕ) → length (each n f) ≡ n
each_length f n = upwards_length (λ before i. f i) n

-- two ways to work a list out that say the same of every entry below n
pub upwards_same : {A : Type 0} (f g : List A → ℕ → A) (n : ℕ) → ((before : List A) (i : ℕ) → i < n → f before i ≡ g before i) → upwards f n ≡ upwards g n
unfolding upwards
upwards_same f g zero h = refl
upwards_same f g (suc n) h = rw (upwards_same f g n (λ before i l. h before i (omega arith)), h (upwards g n) n (omega arith)) refl

pub each_same : {A : Type 0} (f g : ℕ → A) (n : ℕ) → ((i : ℕ) → i < n → f i ≡ g i) → each n f ≡ each n g
each_same f g n h = upwards_same (λ before i. f i) (λ before i. g i) n (λ before i l. h i l)

-- a list by its own entries
pub each_self : {A : Type 0} (xs : List A) (d : A) → each (length xs) (λ k. get_or xs k d) ≡ xs
each_self xs d = ext_get_or d (each (length xs) (λ k. get_or xs k d)) xs (each_length (λ k. get_or xs k d) (length xs)) (λ i l. each_at (λ k. get_or xs k d) d i (length xs) (rw (each_length (λ k. get_or xs k d) (length xs)) at l))

-- what holds of each entry, and of what stands past the last, holds of all
pub each_holds : {A : Type 0} (P : A → Type 0) (f : ℕ → A) (d : A) (n : ℕ) → P d → ((k : ℕ) → k < n → P (f k)) → (k : ℕ) → P (get_or (each n f) k d)
each_holds P f d n past all k = go (ltb k n) refl
  where
    go : (b : Bool) → ltb k n ≡ b → P (get_or (each n f) k d)
    go true e = rw (each_at f d k n (ltb-true k n e)) (all k (ltb-true k n e))
    go false e = rw (each_past f d k n (ltb-false k n e)) past
