-- The tied sets of two operands together: those of the second are tied, one by one, into those of the first.
use Prim.Native.Nat.{ℕ, zero, suc, ◌+◌, ◌^◌, ◌<◌}
use mathlib.Core.Path.{◌≡◌, refl, sym, ap, ◌∙◌}
use mathlib.Core.Bool.{Bool, true, false}
use mathlib.Core.List.{List}
use mathlib.Core.Logic.{◌⊎◌, inl, inr, ⊎_elim}
use native.Mathlib.Nat.{eq-or-lt_of_le, le_of_suc-le-suc}
use native.Mathlib.Numerals.{add-one}
use native.Mathlib.Omega.{arith}
use borrow.Author.Tests.{eqb-true}
use lib.Dec.{eqb}
use lib.ListN.{length, get_or}
use Rattle.std.specs.Prelude.{if◌then◌else◌}
use lib.Seq.{ext_get_or}
use Rattle.laws.proofs.Upwards.{each_length}
use Rattle.sets.specs.Sets.{In, member, meet, below}
use Rattle.sets.proofs.Members.{same_members, out_member, in_meet, in_none}
use Rattle.sets.proofs.Words.{in_below, below_lt, meet_lt}
use Rattle.run.specs.Linked.{Chain, one}
use Rattle.model.specs.Ties.{gathered, tie, merged, Classes}
use Rattle.model.proofs.Chains.{chain_join, chain_back, chain_through, chain_map, chain_low, chain_classes, same_classes, tie_kept, tie_classes}

-- a set with members below 64 alone is a word of 64 bits
word_of : (a : ℕ) → ((k : ℕ) → In k a → k < 64) → a < 2 ^ 64
word_of a f = rw e (meet_lt 64 (below 64 64) a (below_lt 64 64))
  where
    e : a ≡ meet (below 64 64) a
    e = same_members a (meet (below 64 64) a) (λ k h. (in_meet (below 64 64) a k).1 ((in_below 64 64 k).1 (f k h, f k h), h)) (λ k h. ((in_meet (below 64 64) a k).0 h).1)

-- tied sets are words of 64 bits
pub tied_word : (T : ℕ → Type 0) (t : List ℕ) → Classes T t → (i : ℕ) → get_or t i 0 < 2 ^ 64
tied_word T t C i = word_of (get_or t i 0) (λ k h. chain_low C.small (chain_back (C.linked i k h)))

-- tied in the first, or one of the second's tied sets below n
abbrev So : (ℕ → Type 0) → List ℕ → ℕ → ℕ → Type 0
So T u n m = T m ⊎ ((k : ℕ) × (k < n) × (m ≡ get_or u k 0))

module _ (T S : ℕ → Type 0) (t u : List ℕ) (C : Classes T t) (D : Classes S u) where
  -- a set more, whatever comes of tying it
  tied_more : (n : ℕ) → Classes (So T u n) (merged t u n) → Classes (So T u (suc n)) (tie (merged t u n) (get_or u n 0))
  tied_more n before =
      same_classes (λ m. (m ≡ get_or u n 0) ⊎ So T u n m) (So T u (suc n)) (tie (merged t u n) (get_or u n 0))
      (λ m. ⊎_elim (λ e. inr (n, omega arith, e)) (⊎_elim inl (λ r. inr (r.0, omega (arith, r.1), r.2))))
      (λ m.
      ⊎_elim (λ h. inr (inl h)) (λ r. ⊎_elim (λ q. inl (r.2 ∙ ap (λ (k : ℕ). get_or u k 0) q)) (λ l. inr (inr (r.0, l, r.2))) (eq-or-lt_of_le (le_of_suc-le-suc r.1))))
      (tie_classes (So T u n) (merged t u n) (get_or u n 0) before (tied_word S u D n))

  -- an empty one links nothing
  none_more : (n : ℕ) → get_or u n 0 ≡ 0 → Classes (So T u n) (merged t u n) → Classes (So T u (suc n)) (merged t u n)
  none_more n e before =
      chain_classes (So T u n) (So T u (suc n)) (merged t u n)
      (λ m. ⊎_elim (C.small m) (λ r. rw r.2 (tied_word S u D r.0)))
      (λ i j. chain_map (λ m. ⊎_elim inl (λ r. inr (r.0, omega (arith, r.1), r.2))))
      (λ i j. chain_through still)
      before
    where
      still : (m : ℕ) → So T u (suc n) m → (x y : ℕ) → In x m → In y m → Chain (So T u n) x y
      still m (inl h) x y hx hy = one (inl h) hx hy
      still m (inr r) x y hx hy =
          ⊎_elim
          (λ q. absurd (in_none x (rw (r.2 ∙ ap (λ (k : ℕ). get_or u k 0) q ∙ e) at hx)))
          (λ l. one (inr (r.0, l, r.2)) hx hy)
          (eq-or-lt_of_le (le_of_suc-le-suc r.1))

  merged_below : (n : ℕ) → Classes (So T u n) (merged t u n)
  unfolding merged
  merged_below zero = same_classes T (So T u 0) t (λ m. inl) (λ m. ⊎_elim (λ h. h) (λ r. absurd (omega (arith, r.1)))) C
  merged_below (suc n) = go (merged_below n) (eqb (get_or u n 0) 0) refl
    where
      go : Classes (So T u n) (merged t u n) → (b : Bool) → eqb (get_or u n 0) 0 ≡ b → Classes (So T u (suc n)) (if b then merged t u n else tie (merged t u n) (get_or u n 0))
      go before true q = none_more n (eqb-true (get_or u n 0) 0 q) before
      go before false q = tied_more n before

  -- the chains of the second's tied sets are those of the sets that were tied
  out : (m : ℕ) → So T u 64 m → (x y : ℕ) → In x m → In y m → Chain (λ m. T m ⊎ S m) x y
  out m (inl h) x y hx hy = one (inl h) hx hy
  out m (inr r) x y hx hy = chain_join (chain_back (from x (rw r.2 at hx))) (from y (rw r.2 at hy))
    where
      from : (z : ℕ) → In z (get_or u r.0 0) → Chain (λ m. T m ⊎ S m) r.0 z
      from z h = chain_map (λ m. inr) (D.linked r.0 z h)

  back : (m : ℕ) → T m ⊎ S m → (x y : ℕ) → In x m → In y m → Chain (So T u 64) x y
  back m (inl h) x y hx hy = one (inl h) hx hy
  back m (inr h) x y hx hy = one (inr (x, chain_low D.small (one h hx hx), refl)) (D.held x x (one h hx hx)) (D.held x y (one h hx hy))

-- together the tied sets have the classes of what was tied in either
pub merged_classes : (T S : ℕ → Type 0) (t u : List ℕ) → Classes T t → Classes S u → Classes (λ m. T m ⊎ S m) (merged t u 64)
merged_classes T S t u C D =
    chain_classes (So T u 64) (λ m. T m ⊎ S m) (merged t u 64) (λ m. ⊎_elim (C.small m) (D.small m))
    (λ i j. chain_through (out T S t u C D)) (λ i j. chain_through (back T S t u C D)) (merged_below T S t u C D 64)

-- tied sets are a list of 64
pub tie_length : (t : List ℕ) (s : ℕ) → length (tie t s) ≡ 64
unfolding tie
tie_length t s = each_length _ 64

pub merged_length : (t u : List ℕ) (n : ℕ) → length t ≡ 64 → length (merged t u n) ≡ 64
unfolding merged
merged_length t u zero e = e
merged_length t u (suc n) e = go (merged_length t u n e) (eqb (get_or u n 0) 0)
  where
    go : length (merged t u n) ≡ 64 → (b : Bool) → length (if b then merged t u n else tie (merged t u n) (get_or u n 0)) ≡ 64
    go before true = before
    go before false = tie_length (merged t u n) (get_or u n 0)

-- the empty set meets no tied set
gathered_empty : (t : List ℕ) (n : ℕ) → gathered t 0 n ≡ 0
unfolding gathered
gathered_empty t zero = refl
gathered_empty t (suc n) = rw (out_member 0 n (in_none n), gathered_empty t n) refl

-- so tying it changes nothing
pub tie_empty : (t : List ℕ) → length t ≡ 64 → tie t 0 ≡ t
tie_empty t e = ext_get_or 0 (tie t 0) t (tie_length t 0 ∙ sym e) (λ k l. tie_kept t 0 k (rw (tie_length t 0) at l) (nowhere k))
  where
    nowhere : (k : ℕ) → member (gathered t 0 64) k ≡ false
    nowhere k = rw (gathered_empty t 64) (out_member 0 k (in_none k))

-- so one tied set more is merged, empty or not
pub merged_more : (t u : List ℕ) (n : ℕ) → length t ≡ 64 → merged t u (n + 1) ≡ tie (merged t u n) (get_or u n 0)
unfolding merged
merged_more t u n e = rw add-one (go (eqb (get_or u n 0) 0) refl)
  where
    go : (b : Bool) → eqb (get_or u n 0) 0 ≡ b → (if b then merged t u n else tie (merged t u n) (get_or u n 0)) ≡ tie (merged t u n) (get_or u n 0)
    go true q = rw (eqb-true (get_or u n 0) 0 q) (sym (tie_empty (merged t u n) (merged_length t u n e)))
    go false q = refl

-- lists as long as each other with the same classes are the same
pub classes_same : (T : ℕ → Type 0) (t u : List ℕ) → Classes T t → Classes T u → length t ≡ length u → t ≡ u
classes_same T t u C D e =
    ext_get_or 0 t u e (λ i l. same_members (get_or t i 0) (get_or u i 0) (λ j h. D.held i j (C.linked i j h)) (λ j h. C.held i j (D.linked i j h)))
