-- Chains of ties, and that tying a set keeps for each attribute just what the chains link with it.
use Prim.Native.Nat.{ℕ, zero, suc, ◌^◌, ◌<◌, ◌≤◌}
use mathlib.Core.Path.{◌≡◌, refl, ◌∙◌}
use mathlib.Core.Bool.{Bool, true, false}
use mathlib.Core.List.{List}
use mathlib.Core.Logic.{◌⊎◌, inl, inr, ⊎_elim}
use native.Mathlib.Nat.{lt_of_not-le, eq-or-lt_of_le, le_of_suc-le-suc}
use native.Mathlib.Omega.{arith}
use lib.Dec.{ltb}
use lib.ListN.{get_or, replicate}
use borrow.Author.Tests.{ltb-true, ltb-false}
use Rattle.std.specs.Prelude.{if◌then◌else◌}
use Rattle.laws.proofs.Upwards.{each_at, each_past}
use Rattle.sets.specs.Sets.{In, member, union, single}
use Rattle.sets.proofs.Members.{bit_beyond, same_members, member_in, in_member, not_member, in_union, in_none}
use Rattle.sets.proofs.Words.{in_single}
use Rattle.run.specs.Linked.{Chain, one, step}
use Rattle.model.specs.Ties.{untied, gathered, tie, Classes}

-- chains join
pub chain_join : {T : ℕ → Type 0} {i j k : ℕ} → Chain T i j → Chain T j k → Chain T i k
chain_join c (one t hj hk) = step c t hj hk
chain_join c (step d t hl hk) = step (chain_join c d) t hl hk

-- a chain is one backwards too
pub chain_back : {T : ℕ → Type 0} {i j : ℕ} → Chain T i j → Chain T j i
chain_back (one t hi hj) = one t hj hi
chain_back (step c t hj hk) = chain_join (one t hk hj) (chain_back c)

-- chains over sets whose members are linked by chains are chains
pub chain_through : {T S : ℕ → Type 0} {i j : ℕ} → ((m : ℕ) → T m → (x y : ℕ) → In x m → In y m → Chain S x y) → Chain T i j → Chain S i j
chain_through f (one t hi hj) = f _ t _ _ hi hj
chain_through f (step c t hj hk) = chain_join (chain_through f c) (f _ t _ _ hj hk)

-- where more sets were tied, what was linked still is
pub chain_map : {T S : ℕ → Type 0} {i j : ℕ} → ((m : ℕ) → T m → S m) → Chain T i j → Chain S i j
chain_map f c = chain_through (λ m t x y hx hy. one (f m t) hx hy) c

-- members of a word of 64 bits are below 64
pub in_word : (m i : ℕ) → m < 2 ^ 64 → In i m → i < 64
in_word m i h e = lt_of_not-le (λ g. omega (arith, bit_beyond 64 m i h g))

-- a chain starts at an attribute below 64, where only such were tied
pub chain_low : {T : ℕ → Type 0} {i j : ℕ} → ((m : ℕ) → T m → m < 2 ^ 64) → Chain T i j → i < 64
chain_low f (one t hi hj) = in_word _ _ (f _ t) hi
chain_low f (step c t hj hk) = chain_low f c

-- tied sets have the classes of whatever sets give the same chains
pub chain_classes : (T S : ℕ → Type 0) (t : List ℕ) → ((m : ℕ) → S m → m < 2 ^ 64) → ((i j : ℕ) → Chain T i j → Chain S i j)
    → ((i j : ℕ) → Chain S i j → Chain T i j) → Classes T t → Classes S t
chain_classes T S t low f g C = record { small = low; linked = λ i j h. f i j (C.linked i j h); held = λ i j c. C.held i j (g i j c) }

-- the classes are those of the sets that were tied, however that is said
pub same_classes : (T S : ℕ → Type 0) (t : List ℕ) → ((m : ℕ) → T m → S m) → ((m : ℕ) → S m → T m) → Classes T t → Classes S t
same_classes T S t f g C = chain_classes T S t (λ m s. C.small m (g m s)) (λ i j. chain_map f) (λ i j. chain_map g) C

-- where nothing is tied every tied set is empty
pub blank : (n k : ℕ) → ◌≡◌ {A = ℕ} (get_or (replicate n 0) k 0) 0
blank zero k = refl
blank (suc n) zero = refl
blank (suc n) (suc k) = blank n k

-- nothing is linked where nothing is tied, as at the start
pub unlinked : {i j : ℕ} → Chain (λ m. ⊥) i j → ⊥
unlinked (one t hi hj) = t
unlinked (step c t hj hk) = t

pub untied_classes : Classes (λ m. ⊥) untied
untied_classes = record { small = λ m t. absurd t; linked = λ i j h. absurd (in_none j (rw (blank 64 i) at h)); held = λ i j c. absurd (unlinked c) }

-- members of what is gathered: those of the set, and those of the tied sets that it meets
gathered_set : (t : List ℕ) (s n j : ℕ) → In j s → In j (gathered t s n)
unfolding gathered
gathered_set t s zero j h = h
gathered_set t s (suc n) j h = go (member s n) (gathered_set t s n j h)
  where
    go : (b : Bool) → In j (gathered t s n) → In j (if b then union (gathered t s n) (get_or t n 0) else gathered t s n)
    go true g = (in_union _ _ j).1 (inl g)
    go false g = g

gathered_met : (t : List ℕ) (s n j k : ℕ) → k < n → In k s → In j (get_or t k 0) → In j (gathered t s n)
unfolding gathered
gathered_met t s zero j k l hk h = omega arith
gathered_met t s (suc n) j k l hk h = go (member s n) refl (eq-or-lt_of_le (le_of_suc-le-suc l)) (gathered_met t s n j k)
  where
    go : (b : Bool) → member s n ≡ b → (k ≡ n) ⊎ (k < n) → (k < n → In k s → In j (get_or t k 0) → In j (gathered t s n))
        → In j (if b then union (gathered t s n) (get_or t n 0) else gathered t s n)
    go true e (inl q) f = (in_union _ _ j).1 (inr (rw q at h))
    go true e (inr q) f = (in_union _ _ j).1 (inl (f q hk h))
    go false e (inl q) f = absurd (not_member s n e (rw q at hk))
    go false e (inr q) f = f q hk h

pub gathered_in : (t : List ℕ) (s n j : ℕ) → In j (gathered t s n) → In j s ⊎ ((k : ℕ) × In k s × In j (get_or t k 0))
unfolding gathered
gathered_in t s zero j h = inl h
gathered_in t s (suc n) j h = go (member s n) refl h (gathered_in t s n j)
  where
    go : (b : Bool) → member s n ≡ b → In j (if b then union (gathered t s n) (get_or t n 0) else gathered t s n)
        → (In j (gathered t s n) → In j s ⊎ ((k : ℕ) × In k s × In j (get_or t k 0))) → In j s ⊎ ((k : ℕ) × In k s × In j (get_or t k 0))
    go true e h f = ⊎_elim f (λ r. inr (n, member_in s n e, r)) ((in_union _ _ j).0 h)
    go false e h f = f h

-- entries of a table with one more set tied
module _ (t : List ℕ) (s i : ℕ) where
  pub tie_met : i < 64 → In i (gathered t s 64) → get_or (tie t s) i 0 ≡ gathered t s 64
  unfolding tie
  tie_met l h = rw (each_at {A = ℕ} _ 0 i 64 l, in_member (gathered t s 64) i h) refl

  pub tie_kept : i < 64 → member (gathered t s 64) i ≡ false → get_or (tie t s) i 0 ≡ get_or t i 0
  unfolding tie
  tie_kept l e = rw (each_at {A = ℕ} _ 0 i 64 l, e) refl

  tie_past : 64 ≤ i → get_or (tie t s) i 0 ≡ 0
  unfolding tie
  tie_past l = each_past _ 0 i 64 l

-- tying one attribute: it stands with what it was tied with before
pub tie_single : (t : List ℕ) (a : ℕ) → a < 64 → get_or (tie t (single 64 a)) a 0 ≡ union (single 64 a) (get_or t a 0)
tie_single t a l = tie_met t (single 64 a) a l (gathered_set t (single 64 a) 64 a own) ∙ same_members _ _ there back
  where
    own : In a (single 64 a)
    own = (in_single 64 a a).1 (refl, l)

    there : (j : ℕ) → In j (gathered t (single 64 a) 64) → In j (union (single 64 a) (get_or t a 0))
    there j h =
        (in_union (single 64 a) (get_or t a 0) j).1
        (⊎_elim inl (λ w. inr (rw ((in_single 64 w.0 a).0 w.1).0 at w.2)) (gathered_in t (single 64 a) 64 j h))

    back : (j : ℕ) → In j (union (single 64 a) (get_or t a 0)) → In j (gathered t (single 64 a) 64)
    back j h = ⊎_elim (gathered_set t (single 64 a) 64 j) (gathered_met t (single 64 a) 64 j a l own) ((in_union (single 64 a) (get_or t a 0) j).0 h)

module _ (T : ℕ → Type 0) (t : List ℕ) (s : ℕ) (C : Classes T t) (low : s < 2 ^ 64) where
  abbrev Tied : ℕ → Type 0
  Tied m = (m ≡ s) ⊎ T m

  tied_low : (m : ℕ) → Tied m → m < 2 ^ 64
  tied_low m (inl e) = rw e low
  tied_low m (inr h) = C.small m h

  -- what is gathered is linked with a member of the set
  from_set : (j : ℕ) → In j (gathered t s 64) → (k : ℕ) × In k s × Chain Tied k j
  from_set j h = ⊎_elim (λ l. (j, l, one (inl refl) l l)) (λ r. (r.0, r.1, chain_map (λ m. inr) (C.linked _ _ r.2))) (gathered_in t s 64 j h)

  met : {j k : ℕ} → In k s → Chain T k j → In j (gathered t s 64)
  met {j} {k} h c = gathered_met t s 64 j k (in_word s k low h) h (C.held k j c)

  -- a chain that starts there stays there
  next : (j k : ℕ) {m : ℕ} → In j (gathered t s 64) → Tied m → In j m → In k m → In k (gathered t s 64)
  next j k g (inl e) hj hk = gathered_set t s 64 k (rw e at hk)
  next j k g (inr h) hj hk = ⊎_elim (λ l. met l (one h hj hk)) (λ r. met r.1 (step (C.linked _ _ r.2) h hj hk)) (gathered_in t s 64 j g)

  stays : {i j : ℕ} → In i (gathered t s 64) → Chain Tied i j → In j (gathered t s 64)
  stays g (one h hi hj) = next _ _ g h hi hj
  stays g (step c h hj hk) = next _ _ (stays g c) h hj hk

  -- a chain that starts elsewhere does without the set
  without : {i j : ℕ} → (In i (gathered t s 64) → ⊥) → Chain Tied i j → Chain T i j
  without {i} f (one (inl e) hi hj) = absurd (f (gathered_set t s 64 i (rw e at hi)))
  without f (one (inr h) hi hj) = one h hi hj
  without f (step c (inl e) hj hk) = absurd (f (met (rw e at hj) (chain_back (without f c))))
  without f (step c (inr h) hj hk) = step (without f c) h hj hk

  tie_linked : (i j : ℕ) → In j (get_or (tie t s) i 0) → Chain Tied i j
  tie_linked i j h = go (ltb i 64) (member (gathered t s 64) i) refl refl
    where
      go : (a b : Bool) → ltb i 64 ≡ a → member (gathered t s 64) i ≡ b → Chain Tied i j
      go false b d e = absurd (in_none j (rw (tie_past t s i (ltb-false i 64 d)) at h))
      go true false d e = chain_map (λ m. inr) (C.linked i j (rw (tie_kept t s i (ltb-true i 64 d) e) at h))
      go true true d e =
          let hi = member_in (gathered t s 64) i e in
          let x = from_set i hi in
          let y = from_set j (rw (tie_met t s i (ltb-true i 64 d) hi) at h) in
          chain_join (chain_back x.2) (chain_join (one (inl refl) x.1 y.1) y.2)

  tie_held : (i j : ℕ) → Chain Tied i j → In j (get_or (tie t s) i 0)
  tie_held i j c = go (member (gathered t s 64) i) refl (chain_low tied_low c)
    where
      go : (b : Bool) → member (gathered t s 64) i ≡ b → i < 64 → In j (get_or (tie t s) i 0)
      go true e l =
          let hi = member_in (gathered t s 64) i e in
          rw (tie_met t s i l hi) (stays hi c)
      go false e l = rw (tie_kept t s i l e) (C.held i j (without (not_member (gathered t s 64) i e) c))

-- with one more set tied, the classes are those of it and the sets before
pub tie_classes : (T : ℕ → Type 0) (t : List ℕ) (s : ℕ) → Classes T t → s < 2 ^ 64 → Classes (λ m. (m ≡ s) ⊎ T m) (tie t s)
tie_classes T t s C low = record { small = tied_low T t s C low; linked = tie_linked T t s C low; held = tie_held T t s C low }
