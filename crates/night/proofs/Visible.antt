-- What is visible after a node comes from its operands, and is an attribute of the night.
use Prim.Native.Nat.{ℕ, zero, suc, ◌<◌, ◌≤◌}
use mathlib.Core.Path.{◌≡◌, refl, sym, ◌∙◌}
use mathlib.Core.Bool.{Bool, true, false}
use mathlib.Core.Logic.{◌⊎◌, inl, inr, ⊎_elim}
use native.Mathlib.Omega.{arith}
use lib.Dec.{eqb}
use lib.ListN.{get_or}
use borrow.Author.Tests.{eqb-true, ne_eqb}
use Rattle.std.specs.Prelude.{if◌then◌else◌}
use Rattle.laws.specs.Choose.{any_of}
use Rattle.laws.specs.Upwards.{upwards}
use Rattle.laws.proofs.Upwards.{upwards_at}
use Rattle.sets.specs.Sets.{In, union, minus}
use Rattle.sets.proofs.Members.{in_union, in_minus, in_none, in_unions}
use Rattle.sets.proofs.Words.{in_single}
use Rattle.night.specs.declared.Node.{Node}
use Rattle.night.specs.declared.Pair.{Pair}
use Rattle.night.specs.Night.{Night, node_of}
use Rattle.night.specs.Kinds.{uses_left, uses_right, uses_x, uses_set, uses_pairs, attribute, its_pair, both_of, pairs_read, reads, visible_after, visible_step, visibles, visible}
use Rattle.night.specs.Promised.{Promised}

-- where an attribute that is visible after a node comes from
pub data From (v : Node) (left right k : ℕ) : Type 0 where
  leaf : v.kind ≡ 0 → In k v.set → From v left right k
  kept : (v.kind ≡ 0 → ⊥) → uses_set v.kind ≡ true → In k v.set → From v left right k
  of-left : (v.kind ≡ 0 → ⊥) → In k left → From v left right k
  of-right : uses_right v.kind ≡ true → In k right → From v left right k
  of_x : (v.kind ≡ 0 → ⊥) → uses_x v.kind ≡ true → k ≡ v.x → From v left right k

-- a choice by the kind
pub pick : (v : Node) (n a b k : ℕ) → In k (if eqb v.kind n then a else b) → ((v.kind ≡ n) × In k a) ⊎ In k b
pick v n a b k h = go (eqb v.kind n) refl h
  where
    go : (t : Bool) → eqb v.kind n ≡ t → In k (if t then a else b) → ((v.kind ≡ n) × In k a) ⊎ In k b
    go true e h = inl (eqb-true v.kind n e, h)
    go false e h = inr h

pub visible_from : (v : Node) (left right k : ℕ) → In k (visible_after v left right) → From v left right k
unfolding visible_after uses_set uses_right uses_x any_of
visible_from v left right k h =
    ⊎_elim (λ w. leaf w.0 w.1) (λ h.
    ⊎_elim (λ w. kept (λ z. omega (arith, w.0)) (rw w.0 refl) w.1) (λ h.
    ⊎_elim (λ w. of-left (λ z. omega (arith, w.0)) w.1) (λ h.
    ⊎_elim (λ w. of-left (λ z. omega (arith, w.0)) w.1) (λ h.
    ⊎_elim (λ w. both (λ z. omega (arith, w.0)) (rw w.0 refl) w.1) (λ h.
    ⊎_elim (λ w. both (λ z. omega (arith, w.0)) (rw w.0 refl) w.1) (λ h.
    ⊎_elim (λ w. or_x v.set (λ q. kept (λ z. omega (arith, w.0)) (rw w.0 refl) q) (λ z. omega (arith, w.0)) (rw w.0 refl) w.1) (λ h.
    ⊎_elim (λ w. kept (λ z. omega (arith, w.0)) (rw w.0 refl) w.1) (λ h.
    ⊎_elim (λ w. or_x (minus left v.set) (λ q. of-left (λ z. omega (arith, w.0)) ((in_minus left v.set k).0 q).0) (λ z. omega (arith, w.0)) (rw w.0 refl) w.1) (λ h.
    ⊎_elim (λ w. both (λ z. omega (arith, w.0)) (rw w.0 refl) w.1) (λ h. absurd (in_none k h))
    (pick v 9 _ _ k h)) (pick v 8 _ _ k h)) (pick v 7 _ _ k h)) (pick v 6 _ _ k h)) (pick v 5 _ _ k h)) (pick v 4 _ _ k h)) (pick v 3 _ _ k h)) (pick v 2 _ _ k h)) (pick v 1 _ _ k h)) (pick v 0 _ _ k h)
  where
    both : (v.kind ≡ 0 → ⊥) → uses_right v.kind ≡ true → In k (union left right) → From v left right k
    both s u q = ⊎_elim (λ l. of-left s l) (λ r. of-right u r) ((in_union left right k).0 q)

    or_x : (a : ℕ) → (In k a → From v left right k) → (v.kind ≡ 0 → ⊥) → uses_x v.kind ≡ true → In k (union a (attribute v.x)) → From v left right k
    or_x a f s u q = ⊎_elim f (λ r. of_x s u ((in_single 64 k v.x).0 r).0) ((in_union a (attribute v.x) k).0 q)

-- a step has a left operand
pub step_uses_left : (kind : ℕ) → (kind ≡ 0 → ⊥) → uses_left kind ≡ true
unfolding uses_left
step_uses_left kind s = rw (ne_eqb kind 0 s) refl

module _ (N : Night) (sound : Promised N) where
  abbrev n : ℕ
  n = N.header.nodes

  -- what an operand shows was worked out before
  operand_visible : (i c : ℕ) → c < i → i ≤ n → get_or (upwards (visible_step N) i) c 0 ≡ visible N c
  unfolding visibles
  operand_visible i c l m = upwards_at (visible_step N) 0 c i l ∙ sym (upwards_at (visible_step N) 0 c n (omega arith))

  -- an attribute that is visible after node i comes from it, as visible after its operands
  pub visible-step : (i k : ℕ) → i < n → In k (visible N i) → From (node_of N i) (visible N (node_of N i).left) (visible N (node_of N i).right) k
  unfolding visibles visible_step
  visible-step i k l h = go (visible_from v (get_or (upwards (visible_step N) i) v.left 0) (get_or (upwards (visible_step N) i) v.right 0) k (rw (upwards_at (visible_step N) 0 i n l) at h))
    where
      v : Node
      v = node_of N i

      go : From v (get_or (upwards (visible_step N) i) v.left 0) (get_or (upwards (visible_step N) i) v.right 0) k → From v (visible N v.left) (visible N v.right) k
      go (leaf z q) = leaf z q
      go (kept s u q) = kept s u q
      go (of-left s q) = of-left s (rw (operand_visible i v.left ((sound.node i l).left_lower (step_uses_left v.kind s)) (omega arith)) at q)
      go (of-right u q) = of-right u (rw (operand_visible i v.right ((sound.node i l).right_lower u) (omega arith)) at q)
      go (of_x s u q) = of_x s u q

  -- by what it comes from, if that is so of the operands
  from_below : (i k : ℕ) → i < n → ((c j : ℕ) → c < i → In j (visible N c) → j < N.header.attributes)
      → From (node_of N i) (visible N (node_of N i).left) (visible N (node_of N i).right) k → k < N.header.attributes
  from_below i k l lower (leaf z q) = (sound.relation (node_of N i).x ((sound.node i l).leaf_relation z)).below_a k ((sound.node i l).leaf_within z k q)
  from_below i k l lower (kept s u q) = lower (node_of N i).left k ((sound.node i l).left_lower (step_uses_left _ s)) ((sound.node i l).set_visible s u k q)
  from_below i k l lower (of-left s q) = lower (node_of N i).left k ((sound.node i l).left_lower (step_uses_left _ s)) q
  from_below i k l lower (of-right u q) = lower (node_of N i).right k ((sound.node i l).right_lower u) q
  from_below i k l lower (of_x s u q) = rw q (lower (node_of N i).left (node_of N i).x ((sound.node i l).left_lower (step_uses_left _ s)) ((sound.node i l).x_visible s u))

  all_below : (m i k : ℕ) → i < m → i < n → In k (visible N i) → k < N.header.attributes
  all_below zero i k below l h = absurd (omega arith)
  all_below (suc m) i k below l h = from_below i k l (λ c j q g. all_below m c j (omega arith) (omega arith) g) (visible-step i k l h)

  -- what is visible is an attribute of the night
  pub visible_below : (i k : ℕ) → i < n → In k (visible N i) → k < N.header.attributes
  visible_below i k l h = all_below (suc i) i k (omega arith) l h

-- who reads is a step
pub reads_step : (N : Night) (v : Node) (k : ℕ) → In k (reads N v) → v.kind ≡ 0 → ⊥
unfolding reads
reads_step N v k h e = in_none k (rw e at h)

-- what is in a pair is one of its two attributes
pub in_both : (q : Pair) (k : ℕ) → In k (both_of q) → (k ≡ q.left) ⊎ (k ≡ q.right)
unfolding both_of
in_both q k h = ⊎_elim (λ l. inl ((in_single 64 k q.left).0 l).0) (λ r. inr ((in_single 64 k q.right).0 r).0) ((in_union (attribute q.left) (attribute q.right) k).0 h)

-- it is so of a step's left operand, or of the right one that it has
abbrev pub OfOperand : Night → ℕ → (ℕ → Type 0) → Type 0
OfOperand N i Q = Q (node_of N i).left ⊎ ((uses_right (node_of N i).kind ≡ true) × Q (node_of N i).right)

-- where there is no right operand, it doesn't matter what is visible in it
pub left_alone : (v : Node) (left right other : ℕ) → uses_right v.kind ≡ false → visible_after v left right ≡ visible_after v left other
unfolding visible_after uses_right any_of
left_alone v left right other e = go (eqb v.kind 4) (eqb v.kind 5) (eqb v.kind 9) e
  where
    rest : ℕ → ℕ
    rest more =
        if eqb v.kind 6 then union v.set (attribute v.x) else
        if eqb v.kind 7 then v.set else
        if eqb v.kind 8 then union (minus left v.set) (attribute v.x) else
        more

    start : ℕ → ℕ
    start more = if eqb v.kind 0 then v.set else if eqb v.kind 1 then v.set else if eqb v.kind 2 then left else if eqb v.kind 3 then left else more

    go : (a b c : Bool) → (if a then true else if b then true else if c then true else false) ≡ false
        → start (if a then union left right else if b then union left right else rest (if c then union left right else 0))
        ≡ start (if a then union left other else if b then union left other else rest (if c then union left other else 0))
    go true b c e = absurd (let z : ◌≡◌ {A = ℕ} 0 1 = cc in omega arith)
    go false true c e = absurd (let z : ◌≡◌ {A = ℕ} 0 1 = cc in omega arith)
    go false false true e = absurd (let z : ◌≡◌ {A = ℕ} 0 1 = cc in omega arith)
    go false false false e = refl

module _ (N : Night) (sound : Promised N) (i : ℕ) (l : i < N.header.nodes) where
  abbrev v : Node
  v = node_of N i

  -- what is visible after a leaf is its set
  pub visible_leaf : v.kind ≡ 0 → visible N i ≡ v.set
  unfolding visibles visible_step visible_after
  visible_leaf e = upwards_at (visible_step N) 0 i N.header.nodes l ∙ rw e refl

  -- what is visible after a step, from what is visible after its operands
  pub visible_made : (v.kind ≡ 0 → ⊥) → (right : ℕ) → (uses_right v.kind ≡ true → right ≡ visible N v.right) → visible N i ≡ visible_after v (visible N v.left) right
  unfolding visibles visible_step
  visible_made s right f =
      upwards_at (visible_step N) 0 i N.header.nodes l
      ∙ rw (operand_visible N sound i v.left ((sound.node i l).left_lower (step_uses_left v.kind s)) (omega arith)) (go (uses_right v.kind) refl)
    where
      go : (b : Bool) → uses_right v.kind ≡ b → visible_after v (visible N v.left) (get_or (upwards (visible_step N) i) v.right 0) ≡ visible_after v (visible N v.left) right
      go true u = rw (operand_visible N sound i v.right ((sound.node i l).right_lower u) (omega arith), f u) refl
      go false u = left_alone v (visible N v.left) _ right u

  module _ (s : v.kind ≡ 0 → ⊥) where
    -- what is so of one operand, where it follows at every lower node
    pub operand_map : {Q R : ℕ → Type 0} → ((c : ℕ) → c < i → Q c → R c) → OfOperand N i Q → OfOperand N i R
    operand_map f =
        ⊎_elim (λ h. inl (f v.left ((sound.node i l).left_lower (step_uses_left v.kind s)) h)) (λ h. inr (h.0, f v.right ((sound.node i l).right_lower h.0) h.1))

    -- what is so of one operand, used with what holds of that one
    pub at_operand : {H Q : ℕ → Type 0} {A : Type 0} → H v.left → (uses_right v.kind ≡ true → H v.right) → ((c : ℕ) → c < i → H c → Q c → A) → OfOperand N i Q → A
    at_operand left right f = ⊎_elim (f _ ((sound.node i l).left_lower (step_uses_left v.kind s)) left) (λ h. f _ ((sound.node i l).right_lower h.0) (right h.0) h.1)

    -- what is visible after a step is visible in one of its operands
    pub visible_operand : (k : ℕ) → In k (visible N i) → OfOperand N i (λ c. In k (visible N c))
    visible_operand k h = go (visible-step N sound i k l h)
      where
        go : From v (visible N v.left) (visible N v.right) k → OfOperand N i (λ c. In k (visible N c))
        go (leaf z q) = absurd (s z)
        go (kept s u q) = inl ((sound.node i l).set_visible s u k q)
        go (of-left s q) = inl q
        go (of-right u q) = inr (u, q)
        go (of_x s u q) = inl (rw q ((sound.node i l).x_visible s u))

    -- and so is what it reads
    pub reads_operand : (k : ℕ) → In k (reads N v) → OfOperand N i (λ c. In k (visible N c))
    unfolding reads pairs_read uses_set uses_right uses_x uses_pairs any_of
    reads_operand k h =
        ⊎_elim (λ w. only (rw w.0 refl) w.1) (λ h.
        ⊎_elim (λ w. pair (rw w.0 refl) (λ q. inl (rw q ((sound.node i l).y_visible_left w.0))) w.1) (λ h.
        ⊎_elim (λ w. pair (rw w.0 refl) (λ q. inr (rw w.0 refl, rw q ((sound.node i l).y_visible_right w.0))) w.1) (λ h.
        ⊎_elim (λ w. ⊎_elim (set (rw w.0 refl)) (only (rw w.0 refl)) ((in_union v.set (attribute v.x) k).0 w.1)) (λ h.
        ⊎_elim (λ w. set (rw w.0 refl) w.1) (λ h.
        ⊎_elim (λ w. set (rw w.0 refl) w.1) (λ h.
        ⊎_elim (λ w. paired (rw w.0 refl) (rw w.0 refl) ((in_unions (λ j. both_of (its_pair N v j)) v.count k).0 w.1)) (λ h. absurd (in_none k h))
        (pick v 9 _ _ k h)) (pick v 8 _ _ k h)) (pick v 7 _ _ k h)) (pick v 6 _ _ k h)) (pick v 5 _ _ k h)) (pick v 3 _ _ k h)) (pick v 2 _ _ k h)
      where
        only : uses_x v.kind ≡ true → In k (attribute v.x) → OfOperand N i (λ c. In k (visible N c))
        only u q = inl (rw ((in_single 64 k v.x).0 q).0 ((sound.node i l).x_visible s u))

        set : uses_set v.kind ≡ true → In k v.set → OfOperand N i (λ c. In k (visible N c))
        set u q = inl ((sound.node i l).set_visible s u k q)

        pair : uses_x v.kind ≡ true → (k ≡ v.y → OfOperand N i (λ c. In k (visible N c))) → In k (union (attribute v.x) (attribute v.y)) → OfOperand N i (λ c. In k (visible N c))
        pair u f q = ⊎_elim (only u) (λ r. f ((in_single 64 k v.y).0 r).0) ((in_union (attribute v.x) (attribute v.y) k).0 q)

        paired : uses_pairs v.kind ≡ true → uses_right v.kind ≡ true → ((j : ℕ) × (j < v.count) × In k (both_of (its_pair N v j))) → OfOperand N i (λ c. In k (visible N c))
        paired u r (j, below, q) =
            ⊎_elim (λ e. inl (rw e ((sound.node i l).pair_visible_left u j below))) (λ e. inr (r, rw e ((sound.node i l).pair_visible_right u j below))) (in_both (its_pair N v j) k q)
