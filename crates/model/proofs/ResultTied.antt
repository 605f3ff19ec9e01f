-- Of the result only condition 3 can be the first to fail.
use Prim.Native.Nat.{ℕ, zero, suc, ◌<◌}
use mathlib.Core.Path.{◌≡◌, refl}
use mathlib.Core.Bool.{true}
use mathlib.Core.Logic.{◌⊎◌, inl, inr, ⊎_elim}
use native.Mathlib.Omega.{arith}
use Rattle.sets.specs.Sets.{In}
use Rattle.sets.proofs.Members.{in_minus, in_meet}
use Rattle.night.specs.Night.{Night, node_of}
use Rattle.night.specs.Kinds.{uses_right, visible}
use Rattle.night.specs.Promised.{Promised}
use Rattle.night.proofs.Visible.{OfOperand, at_operand, visible_operand, reads_operand}
use Rattle.model.specs.declared.Table.{Table}
use Rattle.model.specs.Tables.{shown, least_view, tests, table_of}
use Rattle.model.specs.Reasons.{of_left, of_right, of_result, looked_at, ClearLies, SealedLies, Holds, ResultTied}
use Rattle.model.proofs.Shown.{shown_visible, tests_read, step_clear, step_sealed, step_tested, step_hidden}

-- of a form, clear or sealed: what is visible or implicit in it satisfies S
abbrev pub Lies : (Table → ℕ) → (Table → ℕ) → (ℕ → Type 0) → Table → Type 0
Lies column implicit S t = (a : ℕ) → In a (column t) ⊎ In a (implicit t) → S a

module _ (N : Night) (sound : Promised N) (i : ℕ) (l : i < N.header.nodes) (s : (node_of N i).kind ≡ 0 → ⊥) (P E : ℕ) where
  -- the least view of operand c
  abbrev pub view : ℕ → Table
  view c = least_view (node_of N i).needed (table_of N c)

  -- what the result has in a form an operand's least view has in it: F says of an attribute that the step gives it this form
  module _ (column implicit : Table → ℕ) (F S : ℕ → Type 0)
      (shows : (a c : ℕ) → c < i → F a → In a (visible N c) → In a (column (view c)))
      (keeps : (a c : ℕ) → In a (implicit (table_of N c)) → In a (implicit (view c)))
      (made : (a : ℕ) → In a (column (table_of N i)) → F a × In a (visible N i))
      (tested : (a : ℕ) → In a (implicit (table_of N i)) → OfOperand N i (λ c. In a (implicit (table_of N c))) ⊎ (In a (tests (node_of N i)) × F a)) where
    result_lies : Lies column implicit S (view (node_of N i).left) → (uses_right (node_of N i).kind ≡ true → Lies column implicit S (view (node_of N i).right))
        → Lies column implicit S (table_of N i)
    result_lies left right a =
        ⊎_elim (λ h. let w = made a h in was_shown w.0 (visible_operand N sound i l s a w.1))
        (λ h. ⊎_elim (from (λ c b lies q. lies a (inr (keeps a c q)))) (λ w. was_shown w.1 (reads_operand N sound i l s a (tests_read N (node_of N i) a w.0))) (tested a h))
      where
        from : {Q : ℕ → Type 0} → ((c : ℕ) → c < i → Lies column implicit S (view c) → Q c → S a) → OfOperand N i Q → S a
        from = at_operand N sound i l s {H = λ c. Lies column implicit S (view c)} left right

        was_shown : F a → OfOperand N i (λ c. In a (visible N c)) → S a
        was_shown f = from (λ c b lies q. lies a (inl (shows a c b f q)))

  pub result_clear : ClearLies (view (node_of N i).left) P E → (uses_right (node_of N i).kind ≡ true → ClearLies (view (node_of N i).right) P E)
      → ClearLies (table_of N i) P E
  unfolding least_view
  result_clear =
      result_lies (λ t. t.clear) (λ t. t.tested) (λ a. In a (node_of N i).needed) (λ a. In a P)
      (λ a c b needs seen. (in_meet _ (shown (table_of N c)) a).1 (needs, rw (shown_visible N sound c (omega arith)) seen))
      (λ a c h. h)
      (λ a h. (in_meet _ (visible N i) a).0 (rw (step_clear N sound i l s) at h))
      (λ a. (step_tested N sound i l s a).0)

  pub result_sealed : SealedLies (view (node_of N i).left) P E → (uses_right (node_of N i).kind ≡ true → SealedLies (view (node_of N i).right) P E)
      → SealedLies (table_of N i) P E
  unfolding least_view
  result_sealed =
      result_lies (λ t. t.sealed) (λ t. t.hidden) (λ a. In a (node_of N i).needed → ⊥) (λ a. In a P ⊎ In a E)
      (λ a c b spare seen. (in_minus (shown (table_of N c)) _ a).1 (rw (shown_visible N sound c (omega arith)) seen, spare))
      (λ a c h. h)
      (λ a h. let w = (in_minus (visible N i) _ a).0 (rw (step_sealed N sound i l s) at h) in (w.1, w.0))
      (λ a. (step_hidden N sound i l s a).0)

-- so of the result only condition 3 can be the first to fail
pub result_tied : ResultTied
unfolding looked_at
result_tied N sound i l s P E c w = go c w.fails
  where
    -- a condition of an operand's least view
    left : (d : ℕ) → Holds d (looked_at N i of_left) P E
    left d = w.tables_before of_left d (inl refl) (omega arith)

    right : (d : ℕ) → uses_right (node_of N i).kind ≡ true → Holds d (looked_at N i of_right) P E
    right d u = w.tables_before of_right d (inr (inl (refl, u))) (omega arith)

    first_holds : ClearLies (table_of N i) P E
    first_holds = result_clear N sound i l s P E ((left 1).0 refl) (λ u. (right 1 u).0 refl)

    second_holds : SealedLies (table_of N i) P E
    second_holds = result_sealed N sound i l s P E ((left 2).1 refl) (λ u. (right 2 u).1 refl)

    go : (d : ℕ) → (Holds d (looked_at N i of_result) P E → ⊥) → d ≡ 3
    go zero fails = absurd (fails (λ e. absurd (omega arith), λ e. absurd (omega arith), λ e. absurd (omega arith)))
    go (suc zero) fails = absurd (fails (λ e. first_holds, λ e. absurd (omega arith), λ e. absurd (omega arith)))
    go (suc (suc zero)) fails = absurd (fails (λ e. absurd (omega arith), λ e. second_holds, λ e. absurd (omega arith)))
    go (suc (suc (suc zero))) fails = refl
    go (suc (suc (suc (suc d)))) fails = absurd (fails (λ e. absurd (omega arith), λ e. absurd (omega arith), λ e. absurd (omega arith)))
