-- Every node but the last is a child of exactly one node.
use Prim.Native.Nat.{ℕ, zero, suc, ◌+◌, ◌-◌, ◌<◌, ◌≤◌}
use mathlib.Core.Path.{◌≡◌, refl, sym, ◌∙◌}
use mathlib.Core.Bool.{Bool, true, false}
use mathlib.Core.Logic.{◌⊎◌, inl, inr, ⊎_elim}
use native.Mathlib.Nat.{le_antisymm}
use native.Mathlib.Omega.{arith}
use lib.Dec.{ltb, eqb}
use borrow.Author.Tests.{ltb-true, ltb-false, eqb-true, eq-eqb, ne_eqb}
use Rattle.std.specs.Prelude.{if◌then◌else◌}
use Rattle.laws.specs.Choose.{any_of}
use Rattle.laws.specs.First.{somewhere}
use Rattle.laws.specs.Sums.{sum}
use Rattle.laws.proofs.Cases.{clash}
use Rattle.laws.proofs.First.{somewhere_true, somewhere_false}
use Rattle.laws.proofs.Sums.{sum_last, sum_le, sum_same, sum_add, sum_zero, sum_pick, sum_swap}
use Rattle.night.specs.declared.Node.{Node}
use Rattle.night.specs.Night.{Night, node_of}
use Rattle.night.specs.Kinds.{uses_left, uses_right, is_child}
use Rattle.night.specs.Promised.{Promised}
use Rattle.night.proofs.Children.{is-child}

-- f at the children of node i, added up
unfoldable pub children : Night → (ℕ → ℕ) → ℕ → ℕ
children N f i =
    (if uses_left (node_of N i).kind then f (node_of N i).left else 0) + (if uses_right (node_of N i).kind then f (node_of N i).right else 0)

-- f at c where c is a child of node i
share : Night → (ℕ → ℕ) → ℕ → ℕ → ℕ
share N f i c = if is_child (node_of N i) c then f c else 0

-- an operand that is used is a child
pub child_left : (v : Node) → uses_left v.kind ≡ true → is_child v v.left ≡ true
unfolding is_child any_of
child_left v u = rw (u, eq-eqb v.left v.left refl) refl

pub child_right : (v : Node) → uses_right v.kind ≡ true → is_child v v.right ≡ true
unfolding is_child any_of
child_right v u = rw (u, eq-eqb v.right v.right refl) (go (if uses_left v.kind then eqb v.left v.right else false))
  where
    go : (b : Bool) → (if b then true else true) ≡ true
    go true = refl
    go false = refl

-- children added up, child by child
module _ (N : Night) (i : ℕ) where
  pub children_add : (f g : ℕ → ℕ) → children N (λ k. f k + g k) i ≡ children N f i + children N g i
  unfolding children
  children_add f g = go (uses_left (node_of N i).kind) (uses_right (node_of N i).kind) (node_of N i).left (node_of N i).right
    where
      go : (a b : Bool) (l r : ℕ)
          → (if a then f l + g l else 0) + (if b then f r + g r else 0)
          ≡ (if a then f l else 0) + (if b then f r else 0) + ((if a then g l else 0) + (if b then g r else 0))
      go true true l r = omega arith
      go true false l r = omega arith
      go false true l r = omega arith
      go false false l r = omega arith

  pub children_le : (f g : ℕ → ℕ) → ((k : ℕ) → is_child (node_of N i) k ≡ true → f k ≤ g k) → children N f i ≤ children N g i
  unfolding children
  children_le f g h = go (uses_left (node_of N i).kind) (uses_right (node_of N i).kind) (λ u. h _ (child_left (node_of N i) u)) (λ u. h _ (child_right (node_of N i) u))
    where
      go : (a b : Bool) → (a ≡ true → f (node_of N i).left ≤ g (node_of N i).left) → (b ≡ true → f (node_of N i).right ≤ g (node_of N i).right)
          → (if a then f (node_of N i).left else 0) + (if b then f (node_of N i).right else 0)
          ≤ (if a then g (node_of N i).left else 0) + (if b then g (node_of N i).right else 0)
      go true true p q = omega (arith, p refl, q refl)
      go true false p q = omega (arith, p refl)
      go false true p q = omega (arith, q refl)
      go false false p q = omega arith

  pub children_same : (f g : ℕ → ℕ) → ((k : ℕ) → is_child (node_of N i) k ≡ true → f k ≡ g k) → children N f i ≡ children N g i
  children_same f g h = le_antisymm (children_le f g (λ k e. omega (arith, h k e))) (children_le g f (λ k e. omega (arith, h k e)))

  -- one child's difference is at most that of the sums
  pub children_tight : (f g : ℕ → ℕ) (k : ℕ) → is_child (node_of N i) k ≡ true → ((j : ℕ) → is_child (node_of N i) j ≡ true → f j ≤ g j)
      → children N f i + g k ≤ children N g i + f k
  unfolding children
  children_tight f g k e h =
      ⊎_elim
      (λ w. rw (w.0, w.1) (right (uses_right (node_of N i).kind) (λ u. h _ (child_right (node_of N i) u))))
      (λ w. rw (w.0, w.1) (left (uses_left (node_of N i).kind) (λ u. h _ (child_left (node_of N i) u))))
      (is-child (node_of N i) k e)
    where
      right : (b : Bool) → (b ≡ true → f (node_of N i).right ≤ g (node_of N i).right)
          → f k + (if b then f (node_of N i).right else 0) + g k ≤ g k + (if b then g (node_of N i).right else 0) + f k
      right true p = omega (arith, p refl)
      right false p = omega arith

      left : (a : Bool) → (a ≡ true → f (node_of N i).left ≤ g (node_of N i).left)
          → (if a then f (node_of N i).left else 0) + f k + g k ≤ (if a then g (node_of N i).left else 0) + g k + f k
      left true p = omega (arith, p refl)
      left false p = omega arith

-- one operand's share
operand_share : (f : ℕ → ℕ) (k m : ℕ) (a : Bool) → (a ≡ true → k < m) → sum (λ c. if a then (if eqb k c then f c else 0) else 0) m ≡ (if a then f k else 0)
operand_share f k m true l = sum_pick (λ c. if eqb k c then f c else 0) k m (l refl) (λ c h q. rw (ne_eqb k c (λ e. q (sym e))) refl) ∙ rw (eq-eqb k k refl) refl
operand_share f k m false l = sum_zero (λ c. 0) m (λ c h. refl)

-- the root is a node
pub root_there : (N : Night) → Promised N → N.header.nodes - 1 < N.header.nodes
root_there N sound = omega (arith, sound.counts.nodes_some)

module _ (N : Night) (sound : Promised N) where
  -- a child is lower
  pub child_lower : (i k : ℕ) → i < N.header.nodes → is_child (node_of N i) k ≡ true → k < i
  child_lower i k l e = ⊎_elim (λ w. rw w.1 at ((sound.node i l).left_lower w.0)) (λ w. rw w.1 at ((sound.node i l).right_lower w.0)) (is-child (node_of N i) k e)

  -- no two nodes have the same child
  pub one_parent : (i j k : ℕ) → i < N.header.nodes → j < N.header.nodes → is_child (node_of N i) k ≡ true → is_child (node_of N j) k ≡ true → (i ≡ j → ⊥) → ⊥
  one_parent i j k li lj p q differ = go (ltb i j) refl
    where
      go : (b : Bool) → ltb i j ≡ b → ⊥
      go true e = (sound.node j lj).children_once i k (ltb-true i j e) p q
      go false e = (sound.node i li).children_once j k (omega (arith, ltb-false i j e)) q p

  module _ (f : ℕ → ℕ) where
    -- a node's shares are f at its children
    share_split : (i c : ℕ) → i < N.header.nodes
        → share N f i c
        ≡ (if uses_left (node_of N i).kind then (if eqb (node_of N i).left c then f c else 0) else 0)
        + (if uses_right (node_of N i).kind then (if eqb (node_of N i).right c then f c else 0) else 0)
    unfolding share is_child any_of
    share_split i c l =
        go (uses_left (node_of N i).kind) (eqb (node_of N i).left c) (uses_right (node_of N i).kind) (eqb (node_of N i).right c)
        (λ r p q. (sound.node i l).children_differ r (eqb-true (node_of N i).right c q ∙ sym (eqb-true (node_of N i).left c p)))
      where
        go : (a b x y : Bool) → (x ≡ true → b ≡ true → y ≡ true → ⊥)
            → (if (if (if a then b else false) then true else if (if x then y else false) then true else false) then f c else 0)
            ≡ (if a then (if b then f c else 0) else 0) + (if x then (if y then f c else 0) else 0)
        go true true true true h = absurd (h refl refl refl)
        go true true true false h = omega arith
        go true true false y h = omega arith
        go true false true true h = omega arith
        go true false true false h = omega arith
        go true false false y h = omega arith
        go false b true true h = omega arith
        go false b true false h = omega arith
        go false b false y h = omega arith

    shares_of_node : (i m : ℕ) → i < N.header.nodes → i ≤ m → sum (λ c. share N f i c) m ≡ children N f i
    unfolding children
    shares_of_node i m l h =
        let v = node_of N i in
        sum_same (λ c. share N f i c) _ m (λ c q. share_split i c l)
        ∙ sum_add (λ c. if uses_left v.kind then (if eqb v.left c then f c else 0) else 0) (λ c. if uses_right v.kind then (if eqb v.right c then f c else 0) else 0) m
        ∙ rw
        (operand_share f v.left m (uses_left v.kind) (λ u. omega (arith, (sound.node i l).left_lower u)), operand_share f v.right m (uses_right v.kind) (λ u. omega (arith, (sound.node i l).right_lower u)))
        refl

    -- the shares in c: f at c once, or none
    shares_in : (c m : ℕ) → m ≤ N.header.nodes → (sum (λ i. share N f i c) m ≡ f c) ⊎ ((i : ℕ) → i < m → is_child (node_of N i) c ≡ false)
    unfolding share
    shares_in c m h = go (somewhere (λ i. is_child (node_of N i) c) m) refl
      where
        at_other : (i j : ℕ) (b : Bool) → i < m → j < m → (i ≡ j → ⊥) → is_child (node_of N j) c ≡ true → is_child (node_of N i) c ≡ b → (if b then f c else 0) ≡ 0
        at_other i j true li lj q e p = absurd (one_parent i j c (omega arith) (omega arith) p e q)
        at_other i j false li lj q e p = refl

        go : (b : Bool) → somewhere (λ i. is_child (node_of N i) c) m ≡ b
            → (sum (λ i. if is_child (node_of N i) c then f c else 0) m ≡ f c) ⊎ ((i : ℕ) → i < m → is_child (node_of N i) c ≡ false)
        go true e =
            let w = somewhere_true (λ i. is_child (node_of N i) c) m e in
            inl
            (sum_pick (λ i. if is_child (node_of N i) c then f c else 0) w.0 m w.1 (λ i l q. at_other i w.0 (is_child (node_of N i) c) l w.1 q w.2 refl) ∙ rw w.2 refl)
        go false e = inr (somewhere_false (λ i. is_child (node_of N i) c) m e)

    shares_none : (c m : ℕ) → ((i : ℕ) → i < m → is_child (node_of N i) c ≡ false) → sum (λ i. share N f i c) m ≡ 0
    unfolding share
    shares_none c m h = sum_zero (λ i. if is_child (node_of N i) c then f c else 0) m (λ i l. rw (h i l) refl)

    -- the first p nodes and node p hand over what the nodes before p have
    handed_up : (p : ℕ) → p < N.header.nodes → sum (children N f) (suc p) ≡ sum (λ c. sum (λ i. share N f i c) (suc p)) p
    handed_up p l =
        sum_same (children N f) (λ i. sum (λ c. share N f i c) (suc p)) (suc p) (λ i h. sym (shares_of_node i (suc p) (omega arith) (omega arith)))
        ∙ sum_swap (share N f) (suc p) (suc p)
        ∙ sum_last (λ c. sum (λ i. share N f i c) (suc p)) p
        ∙ omega (arith, shares_none p (suc p) (λ i h. top i (is_child (node_of N i) p) h refl))
      where
        top : (i : ℕ) (b : Bool) → i < suc p → is_child (node_of N i) p ≡ b → b ≡ false
        top i true h e = absurd (omega (arith, child_lower i p (omega arith) e))
        top i false h e = refl

    -- up to node p, at most everything before p is handed over
    pub once_below : (p : ℕ) → p < N.header.nodes → sum (children N f) (suc p) + f p ≤ sum f (suc p)
    once_below p l =
        omega (
          arith,
          handed_up p l,
          sum_last f p,
          sum_le (λ c. sum (λ i. share N f i c) (suc p)) f p (λ c h. ⊎_elim (λ e. omega arith) (λ none. omega (arith, shares_none c (suc p) none)) (shares_in c (suc p) l)),
        )

    -- over all nodes, everything but the last
    pub once : sum (children N f) N.header.nodes + f (N.header.nodes - 1) ≡ sum f N.header.nodes
    once = go N.header.nodes refl
      where
        parent : (p c : ℕ) → N.header.nodes ≡ suc p → c < p → ((i : ℕ) → i < suc p → is_child (node_of N i) c ≡ false) → ⊥
        parent p c e h none =
            let w = sound.parent c (omega arith) in
            clash (sym w.2 ∙ none w.0 (omega (arith, w.1)))

        go : (m : ℕ) → N.header.nodes ≡ m → sum (children N f) m + f (m - 1) ≡ sum f m
        go zero e = absurd (omega (arith, sound.counts.nodes_some))
        go (suc p) e =
            let last : suc p - 1 ≡ p = omega arith in
            rw last
            (omega (
              arith,
              handed_up p (omega arith),
              sum_last f p,
              sum_same (λ c. sum (λ i. share N f i c) (suc p)) f p (λ c h. ⊎_elim (λ q. q) (λ none. absurd (parent p c e h none)) (shares_in c (suc p) (omega arith))),
            ))
