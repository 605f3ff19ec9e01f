-- What the trials of nodes leave true where they pass.
use Prim.Native.Nat.{ℕ, ◌+◌, ◌-◌, ◌<◌, ◌≤◌}
use mathlib.Core.Path.{◌≡◌, refl}
use mathlib.Core.Bool.{Bool, true, false, not}
use mathlib.Core.List.{List, [], ◌∷◌, map}
use mathlib.Core.Logic.{◌⊎◌, inl, inr, ⊎_elim}
use native.Mathlib.Omega.{arith}
use lib.Dec.{eqb, ltb}
use borrow.Author.Tests.{ltb-true, ltb-false, eqb-true, eqb-false, eq-eqb, ne_eqb, not-false}
use Rattle.std.specs.Prelude.{if◌then◌else◌}
use Rattle.laws.specs.Choose.{any_of}
use Rattle.laws.specs.Trials.{Passes}
use Rattle.laws.proofs.Cases.{NoneOf, none-of}
use Rattle.laws.proofs.First.{somewhere_false, somewhere_true}
use Rattle.laws.proofs.Trials.{passes_row}
use Rattle.sets.specs.Sets.{In, Within, Apart, within, apart}
use Rattle.sets.proofs.Members.{within_exactly, apart_exactly, member_in, not_member}
use Rattle.night.specs.declared.Header.{Header}
use Rattle.night.specs.declared.Node.{Node}
use Rattle.night.specs.declared.Pair.{Pair}
use Rattle.night.specs.Night.{Night, relation_of, node_of}
use Rattle.night.specs.Kinds.{uses_left, uses_right, uses_x, uses_set, uses_pairs, its_pair, reads, read_together, visible, is_child, taken}
use Rattle.night.specs.Promised.{SoundNode, AllOrNone}
use Rattle.night.proofs.Children.{is-child}
use Rattle.trials.specs.Rules.{child_bad, left_bad, right_bad, shape_bad, leaf_bad, x_bad, y_bad, set_bad, place_bad, step_bad, pair_bad, pairs_bad, half, needed_bad}
use Rattle.trials.specs.Trials.{is_leaf_of, leaf_before, attributes_bad, count_in, trials_of, section}
use Rattle.trials.specs.declared.Section.TheVariants.{Nodes, Parents}

-- a child that is not bad is lower, and no earlier node has it
child_fine : (N : Night) (i c : ℕ) → child_bad i (taken N i c) c ≡ false → (c < i) × ((j : ℕ) → j < i → is_child (node_of N j) c ≡ false)
unfolding child_bad taken
child_fine N i c e =
    let q = none-of _ e in
    (ltb-true c i (not-false _ q.0), somewhere_false (λ j. is_child (node_of N j) c) i q.1.0)

-- a set that is not half needed is needed whole or not at all
half_fine : (needed t : ℕ) → half needed t ≡ false → Apart needed t ⊎ Within t needed
unfolding half
half_fine needed t e = go (apart needed t) refl e
  where
    go : (b : Bool) → apart needed t ≡ b → (if b then false else not (within t needed)) ≡ false → Apart needed t ⊎ Within t needed
    go true q e = inl ((apart_exactly needed t).0 q)
    go false q e = inr ((within_exactly t needed).0 (not-false _ e))

whole : (needed : ℕ) (ts : List ℕ) → NoneOf (map (half needed) ts) → AllOrNone needed ts
whole needed [] q = tt
whole needed (t ∷ ts) q = (half_fine needed t q.0, whole needed ts q.1)

needed_fine : (N : Night) (v : Node) → needed_bad N v ≡ false → Within v.needed (reads N v) × AllOrNone v.needed (read_together N v)
unfolding needed_bad
needed_fine N v e = go (within v.needed (reads N v)) refl e
  where
    go : (b : Bool) → within v.needed (reads N v) ≡ b → (if b then any_of (map (half v.needed) (read_together N v)) else true) ≡ false
        → Within v.needed (reads N v) × AllOrNone v.needed (read_together N v)
    go true q e = ((within_exactly v.needed (reads N v)).0 q, whole v.needed (read_together N v) (none-of (map (half v.needed) (read_together N v)) e))
    go false q e = absurd (let z : ◌≡◌ {A = ℕ} 0 1 = cc in omega arith)

module _ (h : Header) (v : Node) (i : ℕ) (a b : Bool) (e : shape_bad h v i a b ≡ false) where
  left_fine : uses_left v.kind ≡ true → child_bad i a v.left ≡ false
  unfolding shape_bad left_bad
  left_fine u = rw u at (none-of _ e).1.0

  right_fine : uses_right v.kind ≡ true → NoneOf (eqb v.right v.left ∷ child_bad i b v.right ∷ [])
  unfolding shape_bad right_bad
  right_fine u = none-of _ (rw u at (none-of _ e).1.1.0)

  size_fine : v.size ≤ 1000000
  unfolding shape_bad
  size_fine = ltb-false 1000000 v.size (none-of _ e).1.1.1.1.1.1.1.1.0

module _ (v : Node) (left right : ℕ) (e : step_bad v left right ≡ false) where
  x_fine : uses_x v.kind ≡ true → In v.x left
  unfolding step_bad x_bad
  x_fine u = member_in left v.x (not-false _ (rw u at (none-of _ e).0))

  y_left : v.kind ≡ 3 → In v.y left
  unfolding step_bad y_bad
  y_left k = member_in left v.y (not-false _ (rw (eq-eqb v.kind 3 k) at (none-of _ e).1.0))

  y_right : v.kind ≡ 5 → In v.y right
  unfolding step_bad y_bad
  y_right k = member_in right v.y (not-false _ (rw (ne_eqb v.kind 3 (λ z. omega arith), eq-eqb v.kind 5 k) at (none-of _ e).1.0))

  set_fine : uses_set v.kind ≡ true → NoneOf (not (within v.set left) ∷ (if eqb v.kind 6 then false else eqb v.set 0) ∷ [])
  unfolding step_bad set_bad
  set_fine u = none-of _ (rw u at (none-of _ e).1.1.0)

  outside_fine : v.kind ≡ 6 → In v.x v.set → ⊥
  unfolding step_bad place_bad
  outside_fine k = not_member v.set v.x (rw (eq-eqb v.kind 6 k) at (none-of _ e).1.1.1.0)

  inside_fine : v.kind ≡ 8 → In v.x v.set
  unfolding step_bad place_bad
  inside_fine k = member_in v.set v.x (not-false _ (rw (ne_eqb v.kind 6 (λ z. omega arith), eq-eqb v.kind 8 k) at (none-of _ e).1.1.1.0))

-- a pair that is not bad is visible on its sides
pair_fine : (q : Pair) (left right : ℕ) → pair_bad q left right ≡ false → In q.left left × In q.right right
unfolding pair_bad
pair_fine q left right e =
    let f = none-of _ e in
    (member_in left q.left (not-false _ f.0), member_in right q.right (not-false _ f.1.0))

-- a leaf's trial, and a step's
leaf_fine : (N : Night) (i : ℕ) → attributes_bad N i ≡ false → (node_of N i).kind ≡ 0
    → NoneOf
    (not (ltb (node_of N i).x N.header.relations) ∷ leaf_before N i (node_of N i).x ∷ eqb (node_of N i).set 0
    ∷ not (within (node_of N i).set (relation_of N (node_of N i).x).set) ∷ [])
unfolding attributes_bad leaf_bad
leaf_fine N i e k = none-of _ (rw (eq-eqb (node_of N i).kind 0 k) at e)

step_fine : (N : Night) (i : ℕ) → attributes_bad N i ≡ false → ((node_of N i).kind ≡ 0 → ⊥)
    → (step_bad (node_of N i) (visible N (node_of N i).left) (visible N (node_of N i).right) ≡ false)
    × (pairs_bad N (node_of N i) (visible N (node_of N i).left) (visible N (node_of N i).right) ≡ false)
unfolding attributes_bad
step_fine N i e k =
    let f = none-of _ (rw (ne_eqb (node_of N i).kind 0 k) at e) in
    (f.0, f.1.0)

-- the pairs that a step names
pairs_fine : (N : Night) (i : ℕ) → attributes_bad N i ≡ false → uses_pairs (node_of N i).kind ≡ true → (k : ℕ) → k < (node_of N i).count
    → In (its_pair N (node_of N i) k).left (visible N (node_of N i).left) × In (its_pair N (node_of N i) k).right (visible N (node_of N i).right)
unfolding pairs_bad uses_pairs
pairs_fine N i e u k l =
    let v = node_of N i in
    let kind = eqb-true v.kind 9 u in
    let all = rw u at (step_fine N i e (λ z. omega (arith, kind))).1 in
    pair_fine (its_pair N v k) _ _ (somewhere_false (λ k. pair_bad (its_pair N v k) (visible N v.left) (visible N v.right)) v.count all k l)

-- no earlier leaf has the relation
leaf-alone : (N : Night) (i j r : ℕ) → leaf_before N i r ≡ false → j < i → (node_of N j).kind ≡ 0 → (node_of N j).x ≡ r → ⊥
unfolding leaf_before is_leaf_of
leaf-alone N i j r e l k q =
    let h : (if eqb (node_of N j).kind 0 then eqb (node_of N j).x r else false) ≡ false = somewhere_false (λ j. is_leaf_of (node_of N j) r) i e j l in
    eqb-false (node_of N j).x r (rw (eq-eqb (node_of N j).kind 0 k) at h) q

-- no earlier node has a child of node i
child_alone : (N : Night) (i : ℕ) → shape_bad N.header (node_of N i) i (taken N i (node_of N i).left) (taken N i (node_of N i).right) ≡ false
    → (j c : ℕ) → j < i → is_child (node_of N j) c ≡ true → is_child (node_of N i) c ≡ true → ⊥
child_alone N i e j c l before here =
    ⊎_elim (λ w. clash (node_of N i).left w.1 ((child_fine N i (node_of N i).left (left_fine _ _ _ _ _ e w.0)).1 j l))
    (λ w. clash (node_of N i).right w.1 ((child_fine N i (node_of N i).right (right_fine _ _ _ _ _ e w.0).1.0).1 j l))
    (is-child (node_of N i) c here)
  where
    clash : (k : ℕ) → k ≡ c → is_child (node_of N j) k ≡ false → ⊥
    clash k q f =
        let g : is_child (node_of N j) c ≡ false = rw q at f in
        let z : ◌≡◌ {A = ℕ} 0 1 = cc in
        omega arith

-- a used set is not empty, other than in kind 6
set_not_empty : (N : Night) (i : ℕ) → attributes_bad N i ≡ false → uses_set (node_of N i).kind ≡ true → ((node_of N i).kind ≡ 6 → ⊥) → (node_of N i).set ≡ 0 → ⊥
set_not_empty N i e u k = go (eqb (node_of N i).kind 0) refl
  where
    go : (b : Bool) → eqb (node_of N i).kind 0 ≡ b → (node_of N i).set ≡ 0 → ⊥
    go true q = eqb-false (node_of N i).set 0 (leaf_fine N i e (eqb-true (node_of N i).kind 0 q)).1.1.0
    go false q =
        eqb-false (node_of N i).set 0
        (rw (ne_eqb (node_of N i).kind 6 k) at (set_fine _ _ _ (step_fine N i e (eqb-false (node_of N i).kind 0 q)).0 u).1.0)

pub node_sound : (N : Night) → Passes (section N Nodes) → (i : ℕ) → i < N.header.nodes → SoundNode N i
unfolding section count_in trials_of
node_sound N p i l =
    let v = node_of N i in
    let t = passes_row (trials_of N Nodes) N.header.nodes i l p in
    let e = t.0 in
    let q = t.1.0 in
    let w = needed_fine N v t.1.1.0 in
    let left = visible N v.left in
    record {
      left_lower = λ u. (child_fine N i v.left (left_fine _ _ _ _ _ e u)).0;
      right_lower = λ u. (child_fine N i v.right (right_fine _ _ _ _ _ e u).1.0).0;
      children_differ = λ u. eqb-false v.right v.left (right_fine _ _ _ _ _ e u).0;
      children_once = child_alone N i e;
      size_most = size_fine _ _ _ _ _ e;
      leaf_relation = λ k. ltb-true v.x N.header.relations (not-false _ (leaf_fine N i q k).0);
      leaf_within = λ k. (within_exactly v.set (relation_of N v.x).set).0 (not-false _ (leaf_fine N i q k).1.1.1.0);
      leaf_once = λ j m k g same. leaf-alone N i j v.x (leaf_fine N i q k).1.0 m g same;
      set_some = set_not_empty N i q;
      x_visible = λ k u. x_fine _ _ _ (step_fine N i q k).0 u;
      y_visible_left = λ k. y_left _ _ _ (step_fine N i q (λ z. omega arith)).0 k;
      y_visible_right = λ k. y_right _ _ _ (step_fine N i q (λ z. omega arith)).0 k;
      set_visible = λ k u. (within_exactly v.set left).0 (not-false _ (set_fine _ _ _ (step_fine N i q k).0 u).0);
      x_outside = λ k. outside_fine _ _ _ (step_fine N i q (λ z. omega arith)).0 k;
      x_inside = λ k. inside_fine _ _ _ (step_fine N i q (λ z. omega arith)).0 k;
      pair_visible_left = λ u k l. (pairs_fine N i q u k l).0;
      pair_visible_right = λ u k l. (pairs_fine N i q u k l).1;
      needed_read = w.0;
      needed_together = w.1;
    }

-- every node but the last has a parent
pub parent_sound : (N : Night) → Passes (section N Parents) → (c : ℕ) → c + 1 < N.header.nodes → (i : ℕ) × (i < N.header.nodes) × (is_child (node_of N i) c ≡ true)
unfolding section count_in trials_of taken
parent_sound N p c l =
    somewhere_true (λ j. is_child (node_of N j) c) N.header.nodes (not-false _ (passes_row (trials_of N Parents) (N.header.nodes - 1) c (omega arith) p).0)
