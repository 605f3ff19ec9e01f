-- What the run reaches from an attribute is what chains of the ties of all nodes link with it.
use Prim.Native.Nat.{ℕ, zero, suc, ◌^◌, ◌<◌, ◌≤◌}
use mathlib.Core.Path.{◌≡◌, refl, sym}
use mathlib.Core.Bool.{Bool, true, false}
use mathlib.Core.List.{List, [], ◌∷◌}
use mathlib.Core.Logic.{◌⊎◌, inl, inr, ⊎_elim, ◌↔◌}
use native.Mathlib.Nat.{eq-or-lt_of_le, le_of_suc-le-suc}
use native.Mathlib.Omega.{arith}
use lib.Dec.{eqb}
use borrow.Author.Tests.{eqb-true, eqb-false}
use Rattle.std.specs.Prelude.{if◌then◌else◌}
use Rattle.sets.specs.Sets.{In, Within, union, apart, count_below}
use Rattle.sets.proofs.Members.{in_union, apart_exactly}
use Rattle.sets.proofs.Words.{in_single, single_lt, union_lt, not_apart, count_most, count_grows}
use Rattle.night.specs.Night.{Night, node_of}
use Rattle.night.specs.Kinds.{attribute}
use Rattle.night.specs.Promised.{Promised}
use Rattle.run.specs.Linked.{Chain, one, step}
use Rattle.model.specs.Tables.{ties, Listed, here}
use Rattle.run.specs.Run.{spread_over, spread, spread_times, reached}
use Rattle.model.proofs.Chains.{chain_low, chain_join}
use Rattle.model.proofs.Meaning.{tied_meaning}
use Rattle.model.proofs.PastLaws.{same_ties}

-- a set is tied by a node below n
abbrev pub TiedBelow : Night → ℕ → ℕ → Type 0
TiedBelow N n m = (j : ℕ) × (j < n) × Listed m (ties N (node_of N j))

-- y is in the set, or linked with a member of it
abbrev From : (ℕ → Type 0) → ℕ → ℕ → Type 0
From T s y = In y s ⊎ ((x : ℕ) × In x s × Chain T x y)

from_twice : (T : ℕ → Type 0) (r s y : ℕ) → ((x : ℕ) → In x r → From T s x) → From T r y → From T s y
from_twice T r s y f = ⊎_elim (f y) (λ w. ⊎_elim (λ h. inr (w.0, h, w.2)) (λ v. inr (v.0, v.1, chain_join v.2 w.2)) (f w.0 w.1))

-- a set with one more, if they meet
abbrev met : ℕ → ℕ → ℕ
met s t = if apart s t then s else union s t

met_keeps : (s t a : ℕ) → In a s → In a (met s t)
met_keeps s t a h = go (apart s t)
  where
    go : (b : Bool) → In a (if b then s else union s t)
    go true = h
    go false = (in_union s t a).1 (inl h)

met_adds : (s t x y : ℕ) → In x s → In x t → In y t → In y (met s t)
met_adds s t x y hs ht h = go (apart s t) refl
  where
    go : (b : Bool) → apart s t ≡ b → In y (if b then s else union s t)
    go true e = absurd ((apart_exactly s t).0 e x hs ht)
    go false e = (in_union s t y).1 (inr h)

met_from : (T : ℕ → Type 0) (s t y : ℕ) → T t → In y (met s t) → From T s y
met_from T s t y tied h = go (apart s t) refl h
  where
    go : (b : Bool) → apart s t ≡ b → In y (if b then s else union s t) → From T s y
    go true e h = inl h
    go false e h =
        let w = not_apart s t e in
        ⊎_elim inl (λ r. inr (w.0, w.1, one tied w.2 r)) ((in_union s t y).0 h)

met_lt : (s t : ℕ) → s < 2 ^ 64 → t < 2 ^ 64 → met s t < 2 ^ 64
met_lt s t hs ht = go (apart s t)
  where
    go : (b : Bool) → (if b then s else union s t) < 2 ^ 64
    go true = hs
    go false = union_lt 64 s t hs ht

-- over a list
over_keeps : (ts : List ℕ) (s a : ℕ) → In a s → In a (spread_over ts s)
unfolding spread_over
over_keeps [] s a h = h
over_keeps (t ∷ ts) s a h = over_keeps ts (met s t) a (met_keeps s t a h)

over_adds : (ts : List ℕ) (s t x y : ℕ) → Listed t ts → In x s → In x t → In y t → In y (spread_over ts s)
unfolding spread_over
over_adds [] s t x y q hs ht h = absurd q
over_adds (r ∷ ts) s t x y q hs ht h =
    ⊎_elim (λ e. over_keeps ts (met s r) y (met_adds s r x y hs (rw e at ht) (rw e at h))) (λ q. over_adds ts (met s r) t x y q (met_keeps s r x hs) ht h) q

over_from : (T : ℕ → Type 0) (ts : List ℕ) (s y : ℕ) → ((m : ℕ) → Listed m ts → T m) → In y (spread_over ts s) → From T s y
unfolding spread_over
over_from T [] s y f h = inl h
over_from T (t ∷ ts) s y f h = from_twice T (met s t) s y (λ x. met_from T s t x (f t (inl refl))) (over_from T ts (met s t) y (λ m q. f m (inr q)) h)

over_lt : (ts : List ℕ) (s : ℕ) → ((m : ℕ) → Listed m ts → m < 2 ^ 64) → s < 2 ^ 64 → spread_over ts s < 2 ^ 64
unfolding spread_over
over_lt [] s f h = h
over_lt (t ∷ ts) s f h = over_lt ts (met s t) (λ m q. f m (inr q)) (met_lt s t h (f t (inl refl)))

-- over the nodes below n
module _ (N : Night) where
  spread_more : (n s : ℕ) → spread N (suc n) s ≡ spread_over (ties N (node_of N n)) (spread N n s)
  unfolding spread
  spread_more n s = rw (same_ties N (node_of N n)) refl

  spread_none : (s : ℕ) → spread N 0 s ≡ s
  unfolding spread
  spread_none s = refl

  spread_keeps : (n s : ℕ) → Within s (spread N n s)
  spread_keeps zero s a h = rw (spread_none s) h
  spread_keeps (suc n) s a h = rw (spread_more n s) (over_keeps (ties N (node_of N n)) (spread N n s) a (spread_keeps n s a h))

  spread_adds : (n s t x y : ℕ) → TiedBelow N n t → In x s → In x t → In y t → In y (spread N n s)
  spread_adds zero s t x y w hs ht h = absurd (omega (arith, w.1))
  spread_adds (suc n) s t x y w hs ht h =
      rw (spread_more n s)
      (⊎_elim (λ e. over_adds (ties N (node_of N n)) (spread N n s) t x y (rw e at w.2) (spread_keeps n s x hs) ht h)
      (λ l. over_keeps (ties N (node_of N n)) (spread N n s) y (spread_adds n s t x y (w.0, l, w.2) hs ht h))
      (eq-or-lt_of_le (le_of_suc-le-suc w.1)))

  spread_from : (T : ℕ → Type 0) (n s y : ℕ) → ((m : ℕ) → TiedBelow N n m → T m) → In y (spread N n s) → From T s y
  spread_from T zero s y f h = inl (rw (spread_none s) at h)
  spread_from T (suc n) s y f h =
      from_twice T (spread N n s) s y (λ x. spread_from T n s x (λ m w. f m (w.0, omega (arith, w.1), w.2)))
      (over_from T (ties N (node_of N n)) (spread N n s) y (λ m q. f m (n, omega arith, q)) (rw (spread_more n s) at h))

  spread_lt : (n s : ℕ) → ((m : ℕ) → TiedBelow N n m → m < 2 ^ 64) → s < 2 ^ 64 → spread N n s < 2 ^ 64
  spread_lt zero s f h = rw (spread_none s) h
  spread_lt (suc n) s f h =
      rw (spread_more n s) (over_lt (ties N (node_of N n)) (spread N n s) (λ m q. f m (n, omega arith, q)) (spread_lt n s (λ m w. f m (w.0, omega (arith, w.1), w.2)) h))

module _ (N : Night) (sound : Promised N) where
  abbrev n : ℕ
  n = N.header.nodes

  pub tied_low : (m : ℕ) → TiedBelow N n m → m < 2 ^ 64
  tied_low m w = (tied_meaning N sound w.0 w.1).small m (here w.2)

  -- that many times over
  module _ (s : ℕ) (low : s < 2 ^ 64) where
    times_more : (k : ℕ) → spread_times N (suc k) s ≡ spread N n (spread_times N k s)
    unfolding spread_times
    times_more k = refl

    times_none : spread_times N 0 s ≡ s
    unfolding spread_times
    times_none = refl

    times_keeps : (k : ℕ) → Within s (spread_times N k s)
    times_keeps zero a h = rw times_none h
    times_keeps (suc k) a h = rw (times_more k) (spread_keeps N n (spread_times N k s) a (times_keeps k a h))

    times_from : (k y : ℕ) → In y (spread_times N k s) → From (TiedBelow N n) s y
    times_from zero y h = inl (rw times_none at h)
    times_from (suc k) y h =
        from_twice (TiedBelow N n) (spread_times N k s) s y (times_from k) (spread_from N (TiedBelow N n) n (spread_times N k s) y (λ m w. w) (rw (times_more k) at h))

    times_lt : (k : ℕ) → spread_times N k s < 2 ^ 64
    times_lt zero = rw times_none low
    times_lt (suc k) = rw (times_more k) (spread_lt N n (spread_times N k s) tied_low (times_lt k))

    -- it has come to rest, or one more time adds a member
    abbrev Rests : ℕ → Type 0
    Rests k = spread N n (spread_times N k s) ≡ spread_times N k s

    rests_on : (k : ℕ) → Rests k → Rests (suc k)
    rests_on k e = rw (times_more k, e) e

    adds_one : (k : ℕ) → (Rests k → ⊥) → count_below 64 (spread_times N k s) < count_below 64 (spread_times N (suc k) s)
    adds_one k f =
        rw (times_more k)
        (count_grows 64 (spread_times N k s) (spread N n (spread_times N k s)) (times_lt k) (spread_lt N n (spread_times N k s) tied_low (times_lt k))
        (spread_keeps N n (spread_times N k s)) (λ e. f (sym e)))

    rests_or_not : (k : ℕ) → Rests k ⊎ (Rests k → ⊥)
    rests_or_not k = go (eqb (spread N n (spread_times N k s)) (spread_times N k s)) refl
      where
        go : (b : Bool) → eqb (spread N n (spread_times N k s)) (spread_times N k s) ≡ b → Rests k ⊎ (Rests k → ⊥)
        go true e = inl (eqb-true _ _ e)
        go false e = inr (eqb-false _ _ e)

    rests_or_grows : (k : ℕ) → Rests k ⊎ (k ≤ count_below 64 (spread_times N k s))
    rests_or_grows zero = inr (omega arith)
    rests_or_grows (suc k) = ⊎_elim (λ e. inl (rests_on k e)) (λ f. ⊎_elim (λ e. inl (rests_on k e)) (λ c. inr (omega (arith, adds_one k f))) (rests_or_grows k)) (rests_or_not k)

    -- there are 64 attributes at most, so 64 times are enough
    rests : Rests 64
    rests =
        ⊎_elim (λ e. e)
        (λ f. ⊎_elim (λ e. e) (λ c. absurd (omega (arith, adds_one 64 f, count_most 64 (spread_times N 65 s)))) (rests_or_grows 64))
        (rests_or_not 64)

    -- what is linked with a member is one then
    closed : {x y : ℕ} → In x (spread_times N 64 s) → Chain (TiedBelow N n) x y → In y (spread_times N 64 s)
    closed h (one w hx hy) = rw rests at (spread_adds N n (spread_times N 64 s) _ _ _ w h hx hy)
    closed h (step c w hx hy) = rw rests at (spread_adds N n (spread_times N 64 s) _ _ _ w (closed h c) hx hy)

  -- the attribute itself, and what a chain links with it
  pub reached_exactly : (k j : ℕ) → In j (reached N k) ↔ (In j (attribute k) ⊎ Chain (TiedBelow N n) k j)
  unfolding reached
  reached_exactly k j = (
    λ h.
        ⊎_elim inl
        (λ w.
        let same : w.0 ≡ k = ((in_single 64 w.0 k).0 w.1).0 in
        inr (rw same at w.2))
        (times_from (attribute k) (single_lt 64 k) 64 j h),
    ⊎_elim (times_keeps (attribute k) (single_lt 64 k) 64 j)
        (λ c. closed (attribute k) (single_lt 64 k) (times_keeps (attribute k) (single_lt 64 k) 64 k ((in_single 64 k k).1 (refl, chain_low tied_low c))) c),
  )
