-- What a table's past tested and tied: what its operands' pasts did, and what the step itself did.
use Prim.Native.Nat.{ℕ, zero, suc, ◌<◌}
use mathlib.Core.Path.{◌≡◌, refl, sym, ◌∙◌}
use mathlib.Core.Bool.{Bool, true, false}
use mathlib.Core.List.{List, [], ◌∷◌, ◌++◌}
use mathlib.Core.Logic.{◌⊎◌, inl, inr, ⊎_elim, ◌↔◌}
use native.Mathlib.Omega.{arith}
use lib.Dec.{eqb}
use borrow.Author.Tests.{eqb-true, eqb-false}
use Rattle.std.specs.Prelude.{if◌then◌else◌}
use Rattle.laws.specs.Choose.{any_of}
use Rattle.laws.specs.Upwards.{each}
use Rattle.laws.proofs.Cases.{clash}
use Rattle.sets.specs.Sets.{In, member}
use Rattle.sets.proofs.Members.{in_member}
use Rattle.night.specs.declared.Node.{Node}
use Rattle.night.specs.Night.{Night, node_of}
use Rattle.night.specs.Kinds.{uses_left, uses_right, attribute, its_pair, both_of, reads, read_together}
use Rattle.night.specs.Promised.{Promised}
use Rattle.night.proofs.Visible.{OfOperand, step_uses_left}
use Rattle.run.specs.Keys.{Plan}
use Rattle.model.specs.Ties.{Classes}
use Rattle.model.specs.Tables.{table_of, tests, ties, Listed, TiedAt, here, under_left, under_right}
use Rattle.run.specs.Run.{Form, absent, Past, Held, tested_by, tied_by, Some, Tested, Tied, leaving, opened_by, together, leaf_held, result_over, result_of, left_opened, right_opened, opened}
use Rattle.model.proofs.Together.{some_append, some_listed}
use Rattle.model.proofs.Shown.{tests_read}
use Rattle.model.proofs.Chains.{same_classes}
use Rattle.model.proofs.Meaning.{tied-by, leaf_untied, tied_meaning}
use Rattle.model.proofs.HeldLaws.{held_leaf, held-step, left_comes, right_comes, right_none}

-- the step that node i adds to the past
abbrev step_past : Night → Plan → ℕ → Past
step_past N p i = record { node = i; kind = (node_of N i).kind; read = λ a. if member (reads N (node_of N i)) a then (opened N p i).column a else absent }

module _ (N : Night) (p : Plan) where
  -- sealing and opening leave a past as it is
  pub leaving_past : (k : ℕ) (t : Held) → (leaving N p k t).past ≡ t.past
  unfolding leaving
  leaving_past k t = refl

  pub opened_by_past : (i : ℕ) (t : Held) → (opened_by p i t).past ≡ t.past
  unfolding opened_by
  opened_by_past i t = refl

  -- the pasts of a step's operands
  pub left_past : (i : ℕ) → ((node_of N i).kind ≡ 0 → ⊥) → (left_opened N p i).past ≡ (result_of N p (node_of N i).left).past
  unfolding left_opened opened_by leaving
  left_past i s = rw (left_comes N p i (step_uses_left _ s)) refl

  pub right_past : (i : ℕ) → uses_right (node_of N i).kind ≡ true → (right_opened N p i).past ≡ (result_of N p (node_of N i).right).past
  unfolding right_opened opened_by leaving
  right_past i u = rw (right_comes N p i u) refl

  no_past : (i : ℕ) → uses_right (node_of N i).kind ≡ false → (right_opened N p i).past ≡ []
  unfolding right_opened opened_by
  no_past i u = rw (right_none N p i u) refl

  module _ (Q : Past → Type 0) where
    opened_past : (i : ℕ) → ((node_of N i).kind ≡ 0 → ⊥) → Some Q (opened N p i).past ↔ OfOperand N i (λ c. Some Q (result_of N p c).past)
    unfolding opened together
    opened_past i s = go (uses_right (node_of N i).kind) refl
      where
        go : (b : Bool) → uses_right (node_of N i).kind ≡ b → Some Q ((left_opened N p i).past ++ (right_opened N p i).past) ↔ OfOperand N i (λ c. Some Q (result_of N p c).past)
        go true u =
            rw (left_past i s, right_past i u) (
              λ h. ⊎_elim inl (λ q. inr (u, q)) ((some_append Q (result_of N p (node_of N i).left).past (result_of N p (node_of N i).right).past).0 h),
              λ h. (some_append Q (result_of N p (node_of N i).left).past (result_of N p (node_of N i).right).past).1 (⊎_elim inl (λ q. inr q.1) h),
            )
        go false u =
            rw (left_past i s, no_past i u) (
              λ h. ⊎_elim inl (λ q. absurd q) ((some_append Q (result_of N p (node_of N i).left).past []).0 h),
              λ h. (some_append Q (result_of N p (node_of N i).left).past []).1 (⊎_elim inl (λ q. absurd (clash (sym q.0 ∙ u))) h),
            )

    step-past : Promised N → (i : ℕ) → i < N.header.nodes → ((node_of N i).kind ≡ 0 → ⊥)
        → Some Q (result_of N p i).past ↔ (OfOperand N i (λ c. Some Q (result_of N p c).past) ⊎ Q (step_past N p i))
    unfolding result_over
    step-past sound i l s =
        rw (held-step N p sound i l s) (
          λ h. ⊎_elim (λ q. inl ((opened_past i s).0 q)) (⊎_elim inr (λ q. absurd q)) ((some_append Q (opened N p i).past (step_past N p i ∷ [])).0 h),
          λ h. (some_append Q (opened N p i).past (step_past N p i ∷ [])).1 (⊎_elim (λ q. inl ((opened_past i s).1 q)) (λ q. inr (inl q)) h),
        )

    leaf_past : (i : ℕ) → i < N.header.nodes → (node_of N i).kind ≡ 0 → Some Q (result_of N p i).past → ⊥
    unfolding leaf_held
    leaf_past i l e h = rw (held_leaf N p i l e) at h

-- what a step tests, and what it ties, in the run's words and in the profile's
pub same_tests : (v : Node) → tested_by v.kind v ≡ tests v
unfolding tested_by tests any_of
same_tests v = go (eqb v.kind 2) (eqb v.kind 6) (eqb v.kind 7)
  where
    go : (a b c : Bool)
        → (if a then attribute v.x else if (if b then true else if c then true else false) then v.set else 0)
        ≡ (if a then attribute v.x else if b then v.set else if c then v.set else 0)
    go true b c = refl
    go false true c = refl
    go false false true = refl
    go false false false = refl

pub same_ties : (N : Night) (v : Node) → tied_by N v.kind v ≡ ties N v
unfolding tied_by ties read_together any_of
same_ties N v = go (eqb v.kind 3) (eqb v.kind 5) (eqb v.kind 8)
  where
    pairs : List ℕ
    pairs = if eqb v.kind 9 then each v.count (λ k. both_of (its_pair N v k)) else []

    go : (a b c : Bool)
        → (if (if a then true else if b then true else if c then true else false) then reads N v ∷ [] else pairs)
        ≡ (if a then reads N v ∷ [] else if b then reads N v ∷ [] else if c then reads N v ∷ [] else pairs)
    go true b c = refl
    go false true c = refl
    go false false true = refl
    go false false false = refl

module _ (N : Night) (p : Plan) (sound : Promised N) where
  -- a leaf's past is none; a step's past tested what its operands' did, and what the step tests, in the form that it then had
  pub leaf_untested : (i a : ℕ) (f : Form) → i < N.header.nodes → (node_of N i).kind ≡ 0 → Tested N (result_of N p i).past a f → ⊥
  unfolding Tested
  leaf_untested i a f l e h = leaf_past N p _ i l e h

  pub step_tested_past : (i a : ℕ) (f : Form) → i < N.header.nodes → ((node_of N i).kind ≡ 0 → ⊥)
      → Tested N (result_of N p i).past a f ↔ (OfOperand N i (λ c. Tested N (result_of N p c).past a f) ⊎ (In a (tests (node_of N i)) × ((opened N p i).column a ≡ f)))
  unfolding Tested
  step_tested_past i a f l s = (
    λ h.
        ⊎_elim inl
        (λ q.
        let t : In a (tests v) = rw (same_tests v) at q.0 in
        inr (t, sym (read t) ∙ q.1))
        ((step-past N p _ sound i l s).0 h),
    λ h. (step-past N p _ sound i l s).1 (⊎_elim inl (λ q. inr (rw (same_tests v) q.0, read q.0 ∙ q.1)) h),
  )
    where
      v : Node
      v = node_of N i

      read : In a (tests v) → (step_past N p i).read a ≡ (opened N p i).column a
      read t = rw (in_member (reads N v) a (tests_read N v a t)) refl

  -- what a node's past tied is what it or a node under it ties
  module _ (i m : ℕ) (l : i < N.header.nodes) where
    abbrev v : Node
    v = node_of N i

    leaf_tied : v.kind ≡ 0 → Tied N (result_of N p i).past m ↔ TiedAt N i m
    unfolding Tied
    leaf_tied e = (λ h. absurd (leaf_past N p _ i l e h), λ h. absurd (leaf_untied N sound i l e m h))

    step_tied : (v.kind ≡ 0 → ⊥) → ((c : ℕ) → c < i → Tied N (result_of N p c).past m ↔ TiedAt N c m) → Tied N (result_of N p i).past m ↔ TiedAt N i m
    unfolding Tied
    step_tied s lower = (
      λ h.
          ⊎_elim (⊎_elim (λ q. under_left uses ((lower _ left_lower).0 q)) (λ q. under_right q.0 ((lower _ ((sound.node i l).right_lower q.0)).0 q.1))) (λ q. here (own.0 q))
          ((step-past N p _ sound i l s).0 h),
      λ h.
          (step-past N p _ sound i l s).1
          (⊎_elim (λ q. inr (own.1 q)) (⊎_elim (λ q. inl (inl ((lower _ left_lower).1 q.1))) (λ q. inl (inr (q.0, (lower _ ((sound.node i l).right_lower q.0)).1 q.1))))
          (tied-by N i m h)),
    )
      where
        own : Some (λ t. m ≡ t) (tied_by N v.kind v) ↔ Listed m (ties N v)
        own = rw (same_ties N v) (some_listed m (ties N v))

        uses : uses_left v.kind ≡ true
        uses = step_uses_left v.kind s

        left_lower : v.left < i
        left_lower = (sound.node i l).left_lower uses

  all_tied : (k i m : ℕ) → i < k → i < N.header.nodes → Tied N (result_of N p i).past m ↔ TiedAt N i m
  all_tied zero i m q l = absurd (omega arith)
  all_tied (suc k) i m q l = go (eqb (node_of N i).kind 0) refl (λ c x. all_tied k c m (omega arith) (omega arith))
    where
      go : (b : Bool) → eqb (node_of N i).kind 0 ≡ b → ((c : ℕ) → c < i → Tied N (result_of N p c).past m ↔ TiedAt N c m) → Tied N (result_of N p i).past m ↔ TiedAt N i m
      go true e lower = leaf_tied i m l (eqb-true _ 0 e)
      go false e lower = step_tied i m l (eqb-false _ 0 e) lower

  pub past_tied : (i m : ℕ) → i < N.header.nodes → Tied N (result_of N p i).past m ↔ TiedAt N i m
  past_tied i m l = all_tied (suc i) i m (omega arith) l

  -- so the tied sets of a node's table are the chains of ties in its past
  pub past_classes : (i : ℕ) → i < N.header.nodes → Classes (Tied N (result_of N p i).past) (table_of N i).tied
  past_classes i l = same_classes (TiedAt N i) (Tied N (result_of N p i).past) _ (λ m. (past_tied i m l).1) (λ m. (past_tied i m l).0) (tied_meaning N sound i l)
