-- Where a plan runs clean, each step's subject is one of its candidates.
use Prim.Native.Nat.{ℕ, zero, suc, ◌<◌}
use mathlib.Core.Path.{◌≡◌, refl, sym, ◌∙◌}
use mathlib.Core.Bool.{Bool, true, false}
use mathlib.Core.Logic.{◌⊎◌, inl, inr, ⊎_elim}
use native.Mathlib.Omega.{arith}
use lib.Dec.{eqb}
use borrow.Author.Tests.{eqb-true, eqb-false}
use Rattle.std.specs.Prelude.{if◌then◌else◌}
use Rattle.sets.specs.Sets.{In, member, Within}
use Rattle.sets.proofs.Members.{in_or_not, in_meet, in_minus, in_none}
use Rattle.night.specs.Night.{Night, node_of}
use Rattle.night.specs.Kinds.{uses_left, uses_right, visible}
use Rattle.night.specs.Views.{clear_of, sealed_of}
use Rattle.night.specs.Promised.{Promised}
use Rattle.night.proofs.Visible.{OfOperand, operand_map, step_uses_left, reads_operand}
use Rattle.model.specs.declared.Table.{Table}
use Rattle.model.specs.Ties.{Classes}
use Rattle.model.specs.Tables.{shown, least_view, tests, table_of}
use Rattle.model.specs.Candidates.{May, Candidate}
use Rattle.run.specs.Keys.{Plan}
use Rattle.model.specs.Demand.{Assigned, FromCandidates}
use Rattle.run.specs.Run.{Form, absent, clear, sealed, Held, Tested, Tied, unsealed, beside, opened_by, together, result_of, left_opened, right_opened, opened, Stuck, needs_unclear, Forbidden, clear_column, clear_test, sealed_column, sealed_test, tied_apart, left-opened, right-opened, result_made, Clean}
use Rattle.model.proofs.May.{set_exactly}
use Rattle.model.proofs.Shown.{shown_visible, tests_read, leaf_tested, leaf_hidden, step_clear, step_sealed, step_tested, step_hidden}
use Rattle.run.proofs.Forms.{absent_clear, sealed_clear}
use Rattle.model.proofs.HeldLaws.{There, right_none, left_there, right_there, held_there, operand_there}
use Rattle.model.proofs.PastLaws.{left_past, right_past, step_tested_past, past_classes}
use Rattle.model.proofs.Sees.{sees_may}

-- a column is clear or not
clear_or_not : (f : Form) → (f ≡ clear) ⊎ (f ≡ clear → ⊥)
clear_or_not absent = inr absent_clear
clear_or_not clear = inl refl
clear_or_not (sealed k) = inr sealed_clear

-- a clear column comes from one of the two
one_clear : (f g : Form) → beside f g ≡ clear → (f ≡ clear) ⊎ (g ≡ clear)
one_clear absent g e = inr e
one_clear clear g e = inl refl
one_clear (sealed k) g e = inl e

-- an attribute is tested, in one form or another
abbrev Ever : Night → Plan → ℕ → ℕ → Type 0
Ever N p i a = Tested N (result_of N p i).past a clear ⊎ ((key : ℕ) × Tested N (result_of N p i).past a (sealed key))

-- what isn't forbidden to a subject is seen by it
module _ (N : Night) (h : Held) (P E : ℕ) (fine : Forbidden N h P E → ⊥) where
  column_seen : (a : ℕ) → h.column a ≡ clear → In a P
  column_seen a e = ⊎_elim (λ q. q) (λ q. absurd (fine (clear_column a e q))) (in_or_not a P)

  test_seen : (a : ℕ) → Tested N h.past a clear → In a P
  test_seen a e = ⊎_elim (λ q. q) (λ q. absurd (fine (clear_test a e q))) (in_or_not a P)

  sealed_seen : (a key : ℕ) → h.column a ≡ sealed key → In a P ⊎ In a E
  sealed_seen a key e = ⊎_elim inl (λ q. ⊎_elim inr (λ r. absurd (fine (sealed_column a key e q r))) (in_or_not a E)) (in_or_not a P)

  hidden_seen : (a key : ℕ) → Tested N h.past a (sealed key) → In a P ⊎ In a E
  hidden_seen a key e = ⊎_elim inl (λ q. ⊎_elim inr (λ r. absurd (fine (sealed_test a key e q r))) (in_or_not a E)) (in_or_not a P)

  there_seen : (a : ℕ) → There (h.column a) → In a P ⊎ In a E
  there_seen a t = go (h.column a) refl t
    where
      go : (f : Form) → h.column a ≡ f → There f → In a P ⊎ In a E
      go absent e t = absurd t
      go clear e t = inl (column_seen a e)
      go (sealed k) e t = sealed_seen a k e

module _ (N : Night) (p : Plan) (sound : Promised N) (free : (i : ℕ) → i < N.header.nodes → Stuck N p i → ⊥) where
  abbrev n : ℕ
  n = N.header.nodes

  -- what is needed is clear when it is opened
  needed_opened : (i a : ℕ) → i < n → In a (node_of N i).needed → (opened N p i).column a ≡ clear
  needed_opened i a l h = ⊎_elim (λ q. q) (λ q. absurd (free i l (needs_unclear a h q))) (clear_or_not ((opened N p i).column a))

  -- the implicit parts of a node's table were tested by the past: in clear, or at all
  tested_run : (m i : ℕ) → i < m → i < n → (a : ℕ) → In a (table_of N i).tested → Tested N (result_of N p i).past a clear
  tested_run zero i q l a h = absurd (omega arith)
  tested_run (suc m) i q l a h = go (eqb (node_of N i).kind 0) refl (λ c x. tested_run m c (omega arith) (omega arith) a)
    where
      go : (b : Bool) → eqb (node_of N i).kind 0 ≡ b → ((c : ℕ) → c < i → In a (table_of N c).tested → Tested N (result_of N p c).past a clear) → Tested N (result_of N p i).past a clear
      go true e lower = absurd (in_none a (rw (leaf_tested N sound i l (eqb-true _ 0 e)) at h))
      go false e lower =
          let s = eqb-false (node_of N i).kind 0 e in
          (step_tested_past N p sound i a clear l s).1
          (⊎_elim (λ x. inl (operand_map N sound i l s lower x)) (λ x. inr (x.0, needed_opened i a l x.1)) ((step_tested N sound i l s a).0 h))

  hidden_run : (m i : ℕ) → i < m → i < n → (a : ℕ) → In a (table_of N i).hidden → Ever N p i a
  hidden_run zero i q l a h = absurd (omega arith)
  hidden_run (suc m) i q l a h = go (eqb (node_of N i).kind 0) refl (λ c x. hidden_run m c (omega arith) (omega arith) a)
    where
      go : (b : Bool) → eqb (node_of N i).kind 0 ≡ b → ((c : ℕ) → c < i → In a (table_of N c).hidden → Ever N p c a) → Ever N p i a
      go true e lower = absurd (in_none a (rw (leaf_hidden N sound i l (eqb-true _ 0 e)) at h))
      go false e lower =
          ⊎_elim (λ x. above (operand_map N sound i l s lower x))
          (λ x. own x.0 ((opened N p i).column a) refl (operand_there N p sound i a l s (reads_operand N sound i l s a (tests_read N _ a x.0))))
          ((step_hidden N sound i l s a).0 h)
        where
          s : (node_of N i).kind ≡ 0 → ⊥
          s = eqb-false (node_of N i).kind 0 e

          put : (f : Form) → OfOperand N i (λ c. Tested N (result_of N p c).past a f) ⊎ (In a (tests (node_of N i)) × ((opened N p i).column a ≡ f)) → Tested N (result_of N p i).past a f
          put f = (step_tested_past N p sound i a f l s).1

          above : OfOperand N i (λ c. Ever N p c a) → Ever N p i a
          above = ⊎_elim (⊎_elim (λ y. inl (put clear (inl (inl y)))) (λ y. inr (y.0, put (sealed y.0) (inl (inl y.1)))))
              (λ w. ⊎_elim (λ y. inl (put clear (inl (inr (w.0, y))))) (λ y. inr (y.0, put (sealed y.0) (inl (inr (w.0, y.1))))) w.1)

          own : In a (tests (node_of N i)) → (f : Form) → (opened N p i).column a ≡ f → There f → Ever N p i a
          own t absent e there = absurd there
          own t clear e there = inl (put clear (inr (t, e)))
          own t (sealed k) e there = inr (k, put (sealed k) (inr (t, e)))

  -- a table that isn't forbidden may be had with less shown: a profile with node k's implicit and tied parts
  module _ (k : ℕ) (l : k < n) (h : Held) (t : Table) (P E : ℕ) where
    less_may : h.past ≡ (result_of N p k).past → t.tested ≡ (table_of N k).tested → t.hidden ≡ (table_of N k).hidden → t.tied ≡ (table_of N k).tied
        → Within t.clear P → ((a : ℕ) → In a t.sealed → There (h.column a)) → (Forbidden N h P E → ⊥) → May t P E
    less_may past tested hidden tied seen there fine =
        sees_may t P E
        (record {
          clear = seen;
          tested = λ a q. test_seen N h P E fine a (rw past (tested_run (suc k) k (omega arith) l a (rw tested at q)));
          sealed = λ a q. there_seen N h P E fine a (there a q);
          hidden = λ a q.
              ⊎_elim (λ x. inl (test_seen N h P E fine a (rw past x))) (λ x. hidden_seen N h P E fine a x.0 (rw past x.1)) (hidden_run (suc k) k (omega arith) l a (rw hidden at q));
          tied = λ a b c low hb hc out off. fine (tied_apart a b c (classes.linked a b hb) (classes.linked a c hc) out off);
        })
      where
        classes : Classes (Tied N h.past) t.tied
        classes = rw (past, tied) (past_classes N p sound k l)

-- a right operand that isn't there has no clear column
no_right : (N : Night) (p : Plan) (i a : ℕ) → uses_right (node_of N i).kind ≡ false → (right_opened N p i).column a ≡ absent
unfolding right_opened opened_by
no_right N p i a u = rw (right_none N p i u) (go (member (p.opens i) a))
  where
    go : (b : Bool) → (if b then unsealed absent else absent) ≡ absent
    go true = refl
    go false = refl

module _ (N : Night) (p : Plan) (sound : Promised N) (clean : Clean N p) (i : ℕ) (l : i < N.header.nodes) (s : (node_of N i).kind ≡ 0 → ⊥) where
  abbrev P : ℕ
  P = clear_of N (p.subject i)

  abbrev E : ℕ
  E = sealed_of N (p.subject i)

  abbrev uses : uses_left (node_of N i).kind ≡ true
  uses = step_uses_left (node_of N i).kind s

  -- its operands after opening and its result aren't forbidden to its subject
  left_fine : Forbidden N (left_opened N p i) P E → ⊥
  left_fine f = clean.allowed i l (left-opened uses f)

  right_fine : uses_right (node_of N i).kind ≡ true → Forbidden N (right_opened N p i) P E → ⊥
  right_fine u f = clean.allowed i l (right-opened u f)

  result_fine : Forbidden N (result_of N p i) P E → ⊥
  result_fine f = clean.allowed i l (result_made s f)

  -- the step's subject sees in clear what it needs
  needed_seen : Within (node_of N i).needed P
  unfolding opened together
  needed_seen a h =
      ⊎_elim (column_seen N (left_opened N p i) P E left_fine a) (right (uses_right (node_of N i).kind) refl)
      (one_clear ((left_opened N p i).column a) ((right_opened N p i).column a) (needed_opened N p sound clean.free i a l h))
    where
      right : (b : Bool) → uses_right (node_of N i).kind ≡ b → (right_opened N p i).column a ≡ clear → In a P
      right true u e = column_seen N (right_opened N p i) P E (right_fine u) a e
      right false u e = absurd (absent_clear (sym (no_right N p i a u) ∙ e))

  -- so it may have an operand's least view, where that isn't forbidden to it after opening
  least_may : (k : ℕ) → k < N.header.nodes → (h : Held) → h.past ≡ (result_of N p k).past → ((a : ℕ) → There ((result_of N p k).column a) → There (h.column a))
      → (Forbidden N h P E → ⊥) → May (least_view (node_of N i).needed (table_of N k)) P E
  unfolding least_view
  least_may k q h past there fine =
      less_may N p sound clean.free k q h (least_view (node_of N i).needed (table_of N k)) P E past refl refl refl
      (λ a x. needed_seen a ((in_meet (node_of N i).needed (shown (table_of N k)) a).0 x).0)
      (λ a x. there a (held_there N p sound k a q (rw (shown_visible N sound k q) at ((in_minus (shown (table_of N k)) (node_of N i).needed a).0 x).0)))
      fine

  result_may : May (table_of N i) P E
  result_may =
      less_may N p sound clean.free i l (result_of N p i) (table_of N i) P E refl refl refl refl
      (λ a x. needed_seen a ((in_meet (node_of N i).needed (visible N i) a).0 (rw (step_clear N sound i l s) at x)).0)
      (λ a x. held_there N p sound i a l ((in_minus (visible N i) (node_of N i).needed a).0 (rw (step_sealed N sound i l s) at x)).0)
      result_fine

  candidate : Candidate N i P E
  candidate =
      record {
        step = s;
        left =
            least_may (node_of N i).left (omega (arith, (sound.node i l).left_lower uses)) (left_opened N p i) (left_past N p i s)
            (left_there N p sound i s) left_fine;
        right = λ u.
            least_may (node_of N i).right (omega (arith, (sound.node i l).right_lower u)) (right_opened N p i) (right_past N p i u)
            (λ a. right_there N p sound i s a u) (right_fine u);
        result = result_may;
      }

pub run_candidates : (N : Night) (p : Plan) → Promised N → Assigned N p.subject → Clean N p → FromCandidates N p.subject
run_candidates N p sound assigned clean i l s = (set_exactly N i (p.subject i) sound.counts.subjects_most).1 (assigned.there i l, candidate N p sound clean i l s)
