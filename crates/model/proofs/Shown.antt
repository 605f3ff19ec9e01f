-- What a node's table shows is what is visible after the node; of a step's, the needed attributes are clear and the others sealed.
use Prim.Native.Nat.{ℕ, zero, suc, ◌<◌}
use mathlib.Core.Path.{◌≡◌, refl, sym, ◌∙◌}
use mathlib.Core.Bool.{Bool, true, false}
use mathlib.Core.Logic.{◌⊎◌, inl, inr, ⊎_elim, ◌↔◌}
use native.Mathlib.Omega.{arith}
use lib.Dec.{eqb}
use borrow.Author.Tests.{eqb-true, eqb-false, lt-ltb}
use Rattle.std.specs.Prelude.{if◌then◌else◌}
use Rattle.laws.proofs.Cases.{clash}
use Rattle.sets.specs.Sets.{In, union, meet, minus}
use Rattle.sets.proofs.Members.{same_members, in_or_not, in_union, in_meet, in_minus, in_none}
use Rattle.night.specs.declared.Node.{Node}
use Rattle.night.specs.Night.{Night, node_of}
use Rattle.night.specs.Kinds.{uses_right, attribute, reads, visible}
use Rattle.night.specs.Promised.{Promised}
use Rattle.night.proofs.Visible.{OfOperand, pick, step_uses_left, visible_leaf, visible_made, visible_operand, reads_operand}
use Rattle.model.specs.declared.Table.{Table}
use Rattle.model.specs.Tables.{shown, least_view, joined, result, tests, leaf_table, step_table, table_of}
use Rattle.model.proofs.TableLaws.{table_leaf, table-step, operand_of, both, union_none}

-- a part of the left one, or of the right one where there is one
abbrev OfBoth : Bool → Type 0 → Type 0 → Type 0
OfBoth b L R = L ⊎ ((b ≡ true) × R)

-- a union over both
in_both : (b : Bool) (x y a : ℕ) → In a (if b then union x y else x) ↔ OfBoth b (In a x) (In a y)
in_both true x y a = (λ h. ⊎_elim inl (λ r. inr (refl, r)) ((in_union x y a).0 h), λ h. (in_union x y a).1 (⊎_elim inl (λ r. inr r.1) h))
in_both false x y a = (inl, ⊎_elim (λ h. h) (λ r. absurd (clash (sym r.0))))

-- what tables are, part by part
module _ (needed : ℕ) (l r : Table) where
  both_clear : (b : Bool) → (both b needed l r).clear ≡ (if b then union (meet needed (shown l)) (meet needed (shown r)) else meet needed (shown l))
  unfolding joined least_view
  both_clear true = refl
  both_clear false = refl

  both_sealed : (b : Bool) → (both b needed l r).sealed ≡ (if b then union (minus (shown l) needed) (minus (shown r) needed) else minus (shown l) needed)
  unfolding joined least_view
  both_sealed true = refl
  both_sealed false = refl

  both_tested : (b : Bool) → (both b needed l r).tested ≡ (if b then union l.tested r.tested else l.tested)
  unfolding joined least_view
  both_tested true = refl
  both_tested false = refl

  both_hidden : (b : Bool) → (both b needed l r).hidden ≡ (if b then union l.hidden r.hidden else l.hidden)
  unfolding joined least_view
  both_hidden true = refl
  both_hidden false = refl

  in_both_clear : (b : Bool) (a : ℕ) → In a (both b needed l r).clear ↔ (In a needed × OfBoth b (In a (shown l)) (In a (shown r)))
  in_both_clear b a = rw (both_clear b) (
    λ h. ⊎_elim (λ x. let w = (in_meet needed (shown l) a).0 x in (w.0, inl w.1)) (λ x. let w = (in_meet needed (shown r) a).0 x.1 in (w.0, inr (x.0, w.1))) ((in_both b _ _ a).0 h),
    λ h. (in_both b _ _ a).1 (⊎_elim (λ x. inl ((in_meet needed (shown l) a).1 (h.0, x))) (λ x. inr (x.0, (in_meet needed (shown r) a).1 (h.0, x.1))) h.1),
  )

  in_both_sealed : (b : Bool) (a : ℕ) → In a (both b needed l r).sealed ↔ ((In a needed → ⊥) × OfBoth b (In a (shown l)) (In a (shown r)))
  in_both_sealed b a = rw (both_sealed b) (
    λ h. ⊎_elim (λ x. let w = (in_minus (shown l) needed a).0 x in (w.1, inl w.0))
        (λ x. let w = (in_minus (shown r) needed a).0 x.1 in (w.1, inr (x.0, w.0))) ((in_both b _ _ a).0 h),
    λ h. (in_both b _ _ a).1 (⊎_elim (λ x. inl ((in_minus (shown l) needed a).1 (x, h.0))) (λ x. inr (x.0, (in_minus (shown r) needed a).1 (x.1, h.0))) h.1),
  )

-- what a step tests it reads
pub tests_read : (N : Night) (v : Node) (a : ℕ) → In a (tests v) → In a (reads N v)
unfolding tests reads
tests_read N v a h =
    ⊎_elim (λ w. rw w.0 w.1) (λ h.
    ⊎_elim (λ w. rw w.0 ((in_union v.set (attribute v.x) a).1 (inl w.1))) (λ h.
    ⊎_elim (λ w. rw w.0 w.1) (λ h. absurd (in_none a h))
    (pick v 7 _ _ a h)) (pick v 6 _ _ a h)) (pick v 2 _ _ a h)

module _ (N : Night) (sound : Promised N) (i : ℕ) (l : i < N.header.nodes) where
  abbrev v : Node
  v = node_of N i

  -- a leaf's set is clear, and nothing is implicit
  pub leaf_clear : v.kind ≡ 0 → (table_of N i).clear ≡ visible N i
  unfolding leaf_table
  leaf_clear e = rw (table_leaf N i l e, visible_leaf N sound i l e) refl

  leaf_sealed : v.kind ≡ 0 → (table_of N i).sealed ≡ 0
  unfolding leaf_table
  leaf_sealed e = rw (table_leaf N i l e) refl

  pub leaf_tested : v.kind ≡ 0 → (table_of N i).tested ≡ 0
  unfolding leaf_table
  leaf_tested e = rw (table_leaf N i l e) refl

  pub leaf_hidden : v.kind ≡ 0 → (table_of N i).hidden ≡ 0
  unfolding leaf_table
  leaf_hidden e = rw (table_leaf N i l e) refl

  -- a step's table, if its operands show what is visible after them
  module _ (s : v.kind ≡ 0 → ⊥) (lower : (c : ℕ) → c < i → shown (table_of N c) ≡ visible N c) where
    abbrev u : Bool
    u = uses_right v.kind

    abbrev b : Table
    b = both u v.needed (table_of N v.left) (table_of N v.right)

    left_lower : v.left < i
    left_lower = (sound.node i l).left_lower (step_uses_left v.kind s)

    table_made : table_of N i ≡ result N v (visible N i) b
    unfolding step_table
    table_made =
        table-step N i l s
        ∙ rw
        (lt-ltb v.left i left_lower, lower v.left left_lower, ← visible_made N sound i l s (shown (operand_of N i v.right)) right_shown)
        (go (uses_right v.kind) refl)
      where
        right_shown : uses_right v.kind ≡ true → shown (operand_of N i v.right) ≡ visible N v.right
        right_shown e = rw (lt-ltb v.right i ((sound.node i l).right_lower e)) (lower v.right ((sound.node i l).right_lower e))

        go : (t : Bool) → uses_right v.kind ≡ t
            → result N v (visible N i) (both t v.needed (table_of N v.left) (operand_of N i v.right))
            ≡ result N v (visible N i) (both t v.needed (table_of N v.left) (table_of N v.right))
        go true e = rw (lt-ltb v.right i ((sound.node i l).right_lower e)) refl
        go false e = refl

    -- what it has of its operands shows what is visible in them
    seen : (a : ℕ) → OfBoth u (In a (shown (table_of N v.left))) (In a (shown (table_of N v.right))) ↔ OfOperand N i (λ c. In a (visible N c))
    seen a = (
      ⊎_elim (λ h. inl (rw (lower v.left left_lower) at h)) (λ h. inr (h.0, rw (lower v.right ((sound.node i l).right_lower h.0)) at h.1)),
      ⊎_elim (λ h. inl (rw (lower v.left left_lower) h)) (λ h. inr (h.0, rw (lower v.right ((sound.node i l).right_lower h.0)) h.1)),
    )

    made_clear : (table_of N i).clear ≡ meet v.needed (visible N i)
    unfolding result
    made_clear =
        rw table_made
        (same_members (meet b.clear (visible N i)) (meet v.needed (visible N i))
        (λ a h.
        let w = (in_meet b.clear (visible N i) a).0 h in
        (in_meet v.needed (visible N i) a).1 (((in_both_clear v.needed _ _ u a).0 w.0).0, w.1))
        (λ a h.
        let w = (in_meet v.needed (visible N i) a).0 h in
        (in_meet b.clear (visible N i) a).1 ((in_both_clear v.needed _ _ u a).1 (w.0, (seen a).1 (visible_operand N sound i l s a w.1)), w.1)))

    made_sealed : (table_of N i).sealed ≡ minus (visible N i) v.needed
    unfolding result
    made_sealed =
        rw table_made
        (same_members (meet b.sealed (visible N i)) (minus (visible N i) v.needed)
        (λ a h.
        let w = (in_meet b.sealed (visible N i) a).0 h in
        (in_minus (visible N i) v.needed a).1 (w.1, ((in_both_sealed v.needed _ _ u a).0 w.0).0))
        (λ a h.
        let w = (in_minus (visible N i) v.needed a).0 h in
        (in_meet b.sealed (visible N i) a).1 ((in_both_sealed v.needed _ _ u a).1 (w.1, (seen a).1 (visible_operand N sound i l s a w.0)), w.0)))

    made_tested : (a : ℕ) → In a (table_of N i).tested ↔ (OfOperand N i (λ c. In a (table_of N c).tested) ⊎ (In a (tests v) × In a v.needed))
    unfolding result
    made_tested a = rw table_made (
      λ h.
          ⊎_elim (λ x. inl ((in_both u _ _ a).0 (rw (both_tested v.needed _ _ u) at x)))
          (λ x.
          let w = (in_meet (tests v) b.clear a).0 x in
          inr (w.0, ((in_both_clear v.needed _ _ u a).0 w.1).0))
          ((in_union b.tested _ a).0 h),
      λ h.
          (in_union b.tested _ a).1
          (⊎_elim (λ x. inl (rw (both_tested v.needed (table_of N v.left) (table_of N v.right) u) ((in_both u _ _ a).1 x)))
          (λ x. inr ((in_meet (tests v) b.clear a).1 (x.0, (in_both_clear v.needed _ _ u a).1 (x.1, (seen a).1 (reads_operand N sound i l s a (tests_read N v a x.0))))))
          h),
    )

    made_hidden : (a : ℕ) → In a (table_of N i).hidden ↔ (OfOperand N i (λ c. In a (table_of N c).hidden) ⊎ (In a (tests v) × (In a v.needed → ⊥)))
    unfolding result
    made_hidden a = rw table_made (
      λ h.
          ⊎_elim (λ x. inl ((in_both u _ _ a).0 (rw (both_hidden v.needed _ _ u) at x)))
          (λ x.
          let w = (in_meet (tests v) b.sealed a).0 x in
          inr (w.0, ((in_both_sealed v.needed _ _ u a).0 w.1).0))
          ((in_union b.hidden _ a).0 h),
      λ h.
          (in_union b.hidden _ a).1
          (⊎_elim (λ x. inl (rw (both_hidden v.needed (table_of N v.left) (table_of N v.right) u) ((in_both u _ _ a).1 x)))
          (λ x. inr ((in_meet (tests v) b.sealed a).1 (x.0, (in_both_sealed v.needed _ _ u a).1 (x.1, (seen a).1 (reads_operand N sound i l s a (tests_read N v a x.0))))))
          h),
    )

    made_shown : shown (table_of N i) ≡ visible N i
    made_shown =
        rw (made_clear, made_sealed)
        (same_members (union (meet v.needed (visible N i)) (minus (visible N i) v.needed)) (visible N i)
        (λ a h. ⊎_elim (λ x. ((in_meet v.needed (visible N i) a).0 x).1) (λ x. ((in_minus (visible N i) v.needed a).0 x).0) ((in_union _ _ a).0 h))
        (λ a h. (in_union _ _ a).1 (⊎_elim (λ x. inl ((in_meet v.needed (visible N i) a).1 (x, h))) (λ x. inr ((in_minus (visible N i) v.needed a).1 (h, x))) (in_or_not a v.needed))))

  leaf_shown : v.kind ≡ 0 → shown (table_of N i) ≡ visible N i
  leaf_shown e = rw (leaf_clear e, leaf_sealed e) (union_none (visible N i))

all_shown : (N : Night) → Promised N → (m i : ℕ) → i < m → i < N.header.nodes → shown (table_of N i) ≡ visible N i
all_shown N sound zero i q l = absurd (omega arith)
all_shown N sound (suc m) i q l = go (eqb (node_of N i).kind 0) refl (λ c h. all_shown N sound m c (omega arith) (omega arith))
  where
    go : (b : Bool) → eqb (node_of N i).kind 0 ≡ b → ((c : ℕ) → c < i → shown (table_of N c) ≡ visible N c) → shown (table_of N i) ≡ visible N i
    go true e lower = leaf_shown N sound i l (eqb-true (node_of N i).kind 0 e)
    go false e lower = made_shown N sound i l (eqb-false (node_of N i).kind 0 e) lower

module _ (N : Night) (sound : Promised N) (i : ℕ) (l : i < N.header.nodes) where
  -- what a node's table shows
  pub shown_visible : shown (table_of N i) ≡ visible N i
  shown_visible = all_shown N sound (suc i) i (omega arith) l

  module _ (s : (node_of N i).kind ≡ 0 → ⊥) where
    lower : (c : ℕ) → c < i → shown (table_of N c) ≡ visible N c
    lower c h = all_shown N sound (suc c) c (omega arith) (omega arith)

    -- a step's table: what is needed is clear, the rest sealed; what is tested joins the implicit parts of its operands in its form
    pub step_clear : (table_of N i).clear ≡ meet (node_of N i).needed (visible N i)
    step_clear = made_clear N sound i l s lower

    pub step_sealed : (table_of N i).sealed ≡ minus (visible N i) (node_of N i).needed
    step_sealed = made_sealed N sound i l s lower

    pub step_tested : (a : ℕ) → In a (table_of N i).tested ↔ (OfOperand N i (λ c. In a (table_of N c).tested) ⊎ (In a (tests (node_of N i)) × In a (node_of N i).needed))
    step_tested = made_tested N sound i l s lower

    pub step_hidden : (a : ℕ) → In a (table_of N i).hidden ↔ (OfOperand N i (λ c. In a (table_of N c).hidden) ⊎ (In a (tests (node_of N i)) × (In a (node_of N i).needed → ⊥)))
    step_hidden = made_hidden N sound i l s lower
