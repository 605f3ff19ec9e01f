-- The tied sets of every node's table are what the chains of ties made so far link.
use Prim.Native.Nat.{ℕ, zero, suc, ◌^◌, ◌<◌}
use mathlib.Core.Path.{◌≡◌, refl, sym, ◌∙◌}
use mathlib.Core.Bool.{Bool, true, false}
use mathlib.Core.List.{List, [], ◌∷◌}
use mathlib.Core.Logic.{◌⊎◌, inl, inr, ⊎_elim}
use native.Mathlib.Omega.{arith}
use lib.Dec.{eqb}
use borrow.Author.Tests.{eqb-true, eqb-false, lt-ltb}
use Rattle.std.specs.Prelude.{if◌then◌else◌}
use Rattle.laws.specs.Choose.{any_of}
use Rattle.laws.proofs.Cases.{clash}
use Rattle.sets.specs.Sets.{In}
use Rattle.sets.proofs.Words.{members_lt}
use Rattle.night.specs.declared.Node.{Node}
use Rattle.night.specs.Night.{Night, node_of}
use Rattle.night.specs.Kinds.{uses_left, uses_right, read_together}
use Rattle.night.specs.Promised.{Promised}
use Rattle.night.proofs.Visible.{operand_map, step_uses_left, visible_below, reads_step, reads_operand}
use Rattle.model.specs.Ties.{Classes, tie}
use Rattle.model.specs.Tables.{least_view, joined, result, leaf_table, step_table, table_of, ties, tie_all, Listed, TiedAt, here, under_left, under_right, TiedMeaning}
use Rattle.model.proofs.Together.{some_listed, together_read}
use Rattle.model.proofs.Chains.{untied_classes, tie_classes, same_classes}
use Rattle.model.proofs.Merged.{merged_classes}
use Rattle.model.proofs.TableLaws.{table_leaf, table-step, operand_of}

-- several sets tied
tie_all_classes : (T : ℕ → Type 0) (t ss : List ℕ) → ((m : ℕ) → Listed m ss → m < 2 ^ 64) → Classes T t → Classes (λ m. Listed m ss ⊎ T m) (tie_all t ss)
tie_all_classes T t [] small c = same_classes T _ t (λ m h. inr h) (λ m. ⊎_elim (λ h. absurd h) (λ h. h)) c
tie_all_classes T t (s ∷ ss) small c =
    same_classes _ _ (tie_all (tie t s) ss)
    (λ m. ⊎_elim (λ h. inl (inr h)) (⊎_elim (λ h. inl (inl h)) (λ h. inr h)))
    (λ m. ⊎_elim (⊎_elim (λ h. inr (inl h)) (λ h. inl h)) (λ h. inr (inr h)))
    (tie_all_classes (λ m. (m ≡ s) ⊎ T m) (tie t s) ss (λ m h. small m (inr h)) (tie_classes T t s c (small s (inl refl))))

-- how a set came to be tied
pub tied-by : (N : Night) (i m : ℕ) → TiedAt N i m
    → Listed m (ties N (node_of N i)) ⊎ (((uses_left (node_of N i).kind ≡ true) × TiedAt N (node_of N i).left m) ⊎ ((uses_right (node_of N i).kind ≡ true) × TiedAt N (node_of N i).right m))
tied-by N i m (here h) = inl h
tied-by N i m (under_left u h) = inr (inl (u, h))
tied-by N i m (under_right u h) = inr (inr (u, h))

-- what a node ties fits a word
module _ (N : Night) (sound : Promised N) (i : ℕ) (l : i < N.header.nodes) where
  abbrev v : Node
  v = node_of N i

  tied_small : (m : ℕ) → Listed m (ties N v) → m < 2 ^ 64
  unfolding ties
  tied_small m h = members_lt 64 m small
    where
      small : (k : ℕ) → In k m → k < 64
      small k q =
          let r = together_read N v m ((some_listed m (read_together N v)).1 h) k q in
          let s = reads_step N v k r in
          let below = operand_map N sound i l s {R = λ c. k < N.header.attributes} (λ c b x. visible_below N sound c k (omega arith) x) (reads_operand N sound i l s k r) in
          omega (arith, ⊎_elim (λ x. x) (λ x. x.1) below, sound.counts.attributes_most)

  -- a leaf has tied nothing
  pub leaf_untied : v.kind ≡ 0 → (m : ℕ) → TiedAt N i m → ⊥
  unfolding ties read_together uses_left uses_right any_of
  leaf_untied e m h = ⊎_elim no_ties (⊎_elim (λ w. clash (sym w.0 ∙ rw e refl)) (λ w. clash (sym w.0 ∙ rw e refl))) (tied-by N i m h)
    where
      no_ties : Listed m (ties N v) → ⊥
      no_ties h = rw e at h

  leaf_classes : v.kind ≡ 0 → Classes (TiedAt N i) (table_of N i).tied
  unfolding leaf_table
  leaf_classes e = rw (table_leaf N i l e) (same_classes (λ m. ⊥) (TiedAt N i) _ (λ m h. absurd h) (leaf_untied e) untied_classes)

  -- a step has tied what its operands have, and what it ties itself
  step_classes : (v.kind ≡ 0 → ⊥) → ((c : ℕ) → c < i → Classes (TiedAt N c) (table_of N c).tied) → Classes (TiedAt N i) (table_of N i).tied
  unfolding step_table result least_view joined
  step_classes s lower = rw (table-step N i l s, lt-ltb v.left i left_lower) (go (uses_right v.kind) refl)
    where
      uses : uses_left v.kind ≡ true
      uses = step_uses_left v.kind s

      left_lower : v.left < i
      left_lower = (sound.node i l).left_lower uses

      go : (b : Bool) → uses_right v.kind ≡ b
          → Classes (TiedAt N i)
          (tie_all
          (if b then joined (least_view v.needed (table_of N v.left)) (least_view v.needed (operand_of N i v.right)) else least_view v.needed (table_of N v.left)).tied
          (ties N v))
      go true e =
          let right_lower : v.right < i = (sound.node i l).right_lower e in
          rw (lt-ltb v.right i right_lower)
          (same_classes _ (TiedAt N i) _ (λ m. ⊎_elim here (⊎_elim (under_left uses) (under_right e)))
          (λ m h. ⊎_elim inl (⊎_elim (λ w. inr (inl w.1)) (λ w. inr (inr w.1))) (tied-by N i m h))
          (tie_all_classes _ _ (ties N v) tied_small (merged_classes _ _ _ _ (lower v.left left_lower) (lower v.right right_lower))))
      go false e =
          same_classes _ (TiedAt N i) _ (λ m. ⊎_elim here (under_left uses))
          (λ m h. ⊎_elim inl (⊎_elim (λ w. inr w.1) (λ w. absurd (clash (sym w.0 ∙ e)))) (tied-by N i m h))
          (tie_all_classes _ _ (ties N v) tied_small (lower v.left left_lower))

below_classes : (N : Night) → Promised N → (m i : ℕ) → i < m → i < N.header.nodes → Classes (TiedAt N i) (table_of N i).tied
below_classes N sound zero i q l = absurd (omega arith)
below_classes N sound (suc m) i q l = go (eqb (node_of N i).kind 0) refl (λ c h. below_classes N sound m c (omega arith) (omega arith))
  where
    go : (b : Bool) → eqb (node_of N i).kind 0 ≡ b → ((c : ℕ) → c < i → Classes (TiedAt N c) (table_of N c).tied) → Classes (TiedAt N i) (table_of N i).tied
    go true e lower = leaf_classes N sound i l (eqb-true (node_of N i).kind 0 e)
    go false e lower = step_classes N sound i l (eqb-false (node_of N i).kind 0 e) lower

pub tied_meaning : TiedMeaning
tied_meaning N sound i l = below_classes N sound (suc i) i (omega arith) l
