-- No table of the built plan's run is forbidden to a step's subject that is one of its candidates.
use Prim.Native.Nat.{ℕ, zero, suc, ◌<◌}
use mathlib.Core.Path.{◌≡◌, refl, sym, ◌∙◌}
use mathlib.Core.Bool.{Bool, true, false}
use mathlib.Core.Logic.{◌⊎◌, inl, inr, ⊎_elim}
use native.Mathlib.Omega.{arith}
use lib.Dec.{eqb}
use borrow.Author.Tests.{eqb-true, eqb-false}
use Rattle.sets.specs.Sets.{In}
use Rattle.sets.proofs.Members.{out_member, in_or_not, in_union, in_meet, in_minus}
use Rattle.night.specs.Night.{Night, node_of}
use Rattle.night.specs.Kinds.{uses_left, uses_right, visible}
use Rattle.night.specs.Promised.{Promised}
use Rattle.night.proofs.Visible.{operand_map, reads_operand}
use Rattle.model.specs.declared.Table.{Table}
use Rattle.model.specs.Ties.{Classes}
use Rattle.model.specs.Tables.{shown, least_view, table_of}
use Rattle.model.specs.Candidates.{May, Candidate}
use Rattle.model.specs.Choice.{Choice}
use Rattle.run.specs.Keys.{Plan}
use Rattle.model.specs.Plan.{built}
use Rattle.run.specs.Run.{absent, clear, sealed, Held, Tested, Tied, key_of, leaving, opened_by, result_of, left_arrives, right_arrives, left_opened, right_opened, Forbidden, clear_column, clear_test, sealed_column, sealed_test, tied_apart}
use Rattle.model.proofs.Chains.{chain_low}
use Rattle.model.proofs.Shown.{shown_visible, tests_read, step_tested, step_hidden}
use Rattle.run.proofs.Forms.{absent_clear, absent_sealed, sealed_clear}
use Rattle.model.proofs.HeldLaws.{left_comes, right_comes, held_absent}
use Rattle.model.proofs.PastLaws.{leaving_past, opened_by_past, leaf_untested, step_tested_past, past_classes}
use Rattle.model.proofs.Sees.{Sees, may_sees}
use Rattle.model.proofs.BuiltColumns.{formed, leaves-sealed, leaves_absent, opened_wanted, opened_absent, needed_clear, other_sealed}

module _ (N : Night) (sound : Promised N) (c : Choice) where
  abbrev n : ℕ
  n = N.header.nodes

  abbrev p : Plan
  p = built N c

  -- what the past tested in clear, or sealed, is in the implicit part of that form
  tested_built : (m i : ℕ) → i < m → i < n → (a : ℕ) → Tested N (result_of N p i).past a clear → In a (table_of N i).tested
  tested_built zero i q l a h = absurd (omega arith)
  tested_built (suc m) i q l a h = go (eqb (node_of N i).kind 0) refl (λ k x. tested_built m k (omega arith) (omega arith) a)
    where
      go : (b : Bool) → eqb (node_of N i).kind 0 ≡ b → ((k : ℕ) → k < i → Tested N (result_of N p k).past a clear → In a (table_of N k).tested) → In a (table_of N i).tested
      go true e lower = absurd (leaf_untested N p sound i a clear l (eqb-true _ 0 e) h)
      go false e lower =
          let s = eqb-false (node_of N i).kind 0 e in
          (step_tested N sound i l s a).1
          (⊎_elim (λ x. inl (operand_map N sound i l s lower x))
          (λ x.
          let came = reads_operand N sound i l s a (tests_read N _ a x.0) in
          inr (x.0, ⊎_elim (λ y. y) (λ y. absurd (sealed_clear (sym (other_sealed N sound c i l s a y came) ∙ x.1))) (in_or_not a (node_of N i).needed)))
          ((step_tested_past N p sound i a clear l s).0 h))

  hidden_built : (m i : ℕ) → i < m → i < n → (a key : ℕ) → Tested N (result_of N p i).past a (sealed key) → In a (table_of N i).hidden
  hidden_built zero i q l a key h = absurd (omega arith)
  hidden_built (suc m) i q l a key h = go (eqb (node_of N i).kind 0) refl (λ k x. hidden_built m k (omega arith) (omega arith) a key)
    where
      go : (b : Bool) → eqb (node_of N i).kind 0 ≡ b → ((k : ℕ) → k < i → Tested N (result_of N p k).past a (sealed key) → In a (table_of N k).hidden) → In a (table_of N i).hidden
      go true e lower = absurd (leaf_untested N p sound i a (sealed key) l (eqb-true _ 0 e) h)
      go false e lower =
          let s = eqb-false (node_of N i).kind 0 e in
          (step_hidden N sound i l s a).1
          (⊎_elim (λ x. inl (operand_map N sound i l s lower x))
          (λ x. inr (x.0, λ y. sealed_clear (sym x.1 ∙ needed_clear N sound c i l s a y (reads_operand N sound i l s a (tests_read N _ a x.0)))))
          ((step_tested_past N p sound i a (sealed key) l s).0 h))

  -- a table with node k's past, where the subject sees its columns and a profile with node k's implicit and tied parts
  module _ (k : ℕ) (l : k < n) (h : Held) (t : Table) (P E : ℕ) where
    not_forbidden : h.past ≡ (result_of N p k).past → t.tested ≡ (table_of N k).tested → t.hidden ≡ (table_of N k).hidden → t.tied ≡ (table_of N k).tied → Sees t P E
        → ((a : ℕ) → h.column a ≡ clear → In a P) → ((a key : ℕ) → h.column a ≡ sealed key → In a P ⊎ In a E) → Forbidden N h P E → ⊥
    not_forbidden past tested hidden tied sees see-clear see-sealed (clear_column a e out) = out (see-clear a e)
    not_forbidden past tested hidden tied sees see-clear see-sealed (clear_test a e out) = out (sees.tested a (rw tested (tested_built (suc k) k (omega arith) l a (rw past at e))))
    not_forbidden past tested hidden tied sees see-clear see-sealed (sealed_column a key e out off) = ⊎_elim out off (see-sealed a key e)
    not_forbidden past tested hidden tied sees see-clear see-sealed (sealed_test a key e out off) =
        ⊎_elim out off (sees.hidden a (rw hidden (hidden_built (suc k) k (omega arith) l a key (rw past at e))))
    not_forbidden past tested hidden tied sees see-clear see-sealed (tied_apart a b d x y out off) =
        sees.tied a b d (chain_low classes.small x) (classes.held a b x) (classes.held a d y) out off
      where
        classes : Classes (Tied N h.past) t.tied
        classes = rw (past, tied) (past_classes N p sound k l)

  -- operand k of node i, on arrival and after opening, where the subject may have its least view
  module _ (i k P E : ℕ) (l : i < n) (low : k < i) (may : May (least_view (node_of N i).needed (table_of N k)) P E) where
    abbrev view : Table
    view = least_view (node_of N i).needed (table_of N k)

    abbrev sent : Held
    sent = leaving N p k (result_of N p k)

    sees : Sees view P E
    sees = may_sees view P E may

    in_shown : (a : ℕ) → In a (visible N k) → In a (shown (table_of N k))
    in_shown a h = rw (shown_visible N sound k (omega arith)) h

    needed_seen : (a : ℕ) → In a (visible N k) → In a (node_of N i).needed → In a P
    unfolding least_view
    needed_seen a h q = sees.clear a ((in_meet (node_of N i).needed (shown (table_of N k)) a).1 (q, in_shown a h))

    seen : (a : ℕ) → In a (visible N k) → In a P ⊎ In a E
    unfolding least_view
    seen a h = ⊎_elim (λ q. inl (needed_seen a h q)) (λ q. sees.sealed a ((in_minus (shown (table_of N k)) (node_of N i).needed a).1 (in_shown a h, q))) (in_or_not a (node_of N i).needed)

    -- its columns
    sent_sealed : (a : ℕ) → In a (visible N k) → sent.column a ≡ sealed (key_of N p a)
    sent_sealed a h = leaves-sealed N sound c k a (omega arith) (formed N sound c k a (omega arith) h)

    sent_absent : (a : ℕ) → (In a (visible N k) → ⊥) → sent.column a ≡ absent
    sent_absent a h = leaves_absent N sound c k a (omega arith) h

    arrives_allowed : (h : Held) → h ≡ sent → Forbidden N h P E → ⊥
    unfolding least_view
    arrives_allowed h e =
        rw e
        (not_forbidden k (omega arith) sent view P E (leaving_past N p k (result_of N p k)) refl refl refl sees
        (λ a q. ⊎_elim (λ x. absurd (sealed_clear (sym (sent_sealed a x) ∙ q))) (λ x. absurd (absent_clear (sym (sent_absent a x) ∙ q))) (in_or_not a (visible N k)))
        (λ a key q. ⊎_elim (seen a) (λ x. absurd (absent_sealed (sym (sent_absent a x) ∙ q))) (in_or_not a (visible N k))))

    opened_clear : (a : ℕ) → In a (visible N k) → (opened_by p i sent).column a ≡ clear → In a P
    opened_clear a h e = ⊎_elim (needed_seen a h) (λ x. absurd (sealed_clear (sym (closed x) ∙ e))) (in_or_not a (node_of N i).needed)
      where
        closed : (In a (node_of N i).needed → ⊥) → (opened_by p i sent).column a ≡ sealed (key_of N p a)
        closed x = opened_wanted N sound c i a l sent (sent_sealed a h) ∙ rw (out_member (node_of N i).needed a x) refl

    none_opened : (a : ℕ) → (In a (visible N k) → ⊥) → (opened_by p i sent).column a ≡ absent
    none_opened a h = opened_absent N sound c i a sent (sent_absent a h)

    opened_allowed : (h : Held) → h ≡ sent → Forbidden N (opened_by p i h) P E → ⊥
    unfolding least_view
    opened_allowed h e =
        rw e
        (not_forbidden k (omega arith) (opened_by p i sent) view P E (opened_by_past N p i sent ∙ leaving_past N p k (result_of N p k)) refl refl refl sees
        (λ a q. ⊎_elim (λ x. opened_clear a x q) (λ x. absurd (absent_clear (sym (none_opened a x) ∙ q))) (in_or_not a (visible N k)))
        (λ a key q. ⊎_elim (seen a) (λ x. absurd (absent_sealed (sym (none_opened a x) ∙ q))) (in_or_not a (visible N k))))

  -- a node's result, where the subject may have its table
  pub result_allowed : (i P E : ℕ) → i < n → May (table_of N i) P E → Forbidden N (result_of N p i) P E → ⊥
  result_allowed i P E l may =
      not_forbidden i l (result_of N p i) (table_of N i) P E refl refl refl refl sees
      (λ a q.
      ⊎_elim (λ x. ⊎_elim (λ w. sees.clear a w.0) (λ w. absurd (sealed_clear (sym w.1 ∙ q))) (formed N sound c i a l x))
      (λ x. absurd (absent_clear (sym (held_absent N p sound i a l x) ∙ q)))
      (in_or_not a (visible N i)))
      (λ a key q.
      ⊎_elim (λ x. ⊎_elim (λ w. inl (sees.clear a w)) (sees.sealed a) ((in_union (table_of N i).clear (table_of N i).sealed a).0 (rw (shown_visible N sound i l) x)))
      (λ x. absurd (absent_sealed (sym (held_absent N p sound i a l x) ∙ q)))
      (in_or_not a (visible N i)))
    where
      sees : Sees (table_of N i) P E
      sees = may_sees (table_of N i) P E may

  -- a step's operands
  module _ (i P E : ℕ) (l : i < n) (can : Candidate N i P E) where
    left_lower : uses_left (node_of N i).kind ≡ true → (node_of N i).left < i
    left_lower u = (sound.node i l).left_lower u

    pub left_arrives_allowed : uses_left (node_of N i).kind ≡ true → Forbidden N (left_arrives N p i) P E → ⊥
    left_arrives_allowed u = arrives_allowed i (node_of N i).left P E l (left_lower u) can.left (left_arrives N p i) (left_comes N p i u)

    pub left_opened_allowed : uses_left (node_of N i).kind ≡ true → Forbidden N (left_opened N p i) P E → ⊥
    unfolding left_opened
    left_opened_allowed u = opened_allowed i (node_of N i).left P E l (left_lower u) can.left (left_arrives N p i) (left_comes N p i u)

    pub right_arrives_allowed : uses_right (node_of N i).kind ≡ true → Forbidden N (right_arrives N p i) P E → ⊥
    right_arrives_allowed u = arrives_allowed i (node_of N i).right P E l ((sound.node i l).right_lower u) (can.right u) (right_arrives N p i) (right_comes N p i u)

    pub right_opened_allowed : uses_right (node_of N i).kind ≡ true → Forbidden N (right_opened N p i) P E → ⊥
    unfolding right_opened
    right_opened_allowed u = opened_allowed i (node_of N i).right P E l ((sound.node i l).right_lower u) (can.right u) (right_arrives N p i) (right_comes N p i u)
