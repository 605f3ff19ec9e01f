-- One test in place of three tables: 1 and 2 are asked of the operands' least views joined, 3 of the result.
use Prim.Native.Nat.{ℕ}
use mathlib.Core.Path.{◌≡◌, refl, sym, ◌∙◌}
use mathlib.Core.Bool.{Bool, true, false}
use mathlib.Core.List.{List}
use mathlib.Core.Logic.{◌⊎◌, inl, inr, ⊎_elim, ◌↔◌}
use native.Mathlib.Omega.{arith}
use lib.ListN.{get_or}
use borrow.Author.Tests.{eqb-true, eq-eqb}
use Rattle.std.specs.Prelude.{if◌then◌else◌}
use Rattle.laws.proofs.Cases.{clash}
use Rattle.sets.specs.Sets.{In, union, minus, single, unions}
use Rattle.sets.proofs.Members.{same_members, in_union, in_minus}
use Rattle.night.specs.declared.Node.{Node}
use Rattle.night.specs.Night.{Night, node_of}
use Rattle.night.specs.Kinds.{uses_right}
use Rattle.night.specs.Views.{clear_of, sealed_of}
use Rattle.night.proofs.Visible.{step_uses_left}
use Rattle.model.specs.declared.Table.{Table}
use Rattle.model.specs.Tables.{least_view, joined, table_of, Keeps}
use Rattle.model.specs.Candidates.{clear_offends, sealed_offends, tied_offends, ClearHolds, SealedHolds, TiedHolds, May, candidate_set}
use Rattle.model.specs.OneTest.{taken_by, OneTest, splits, WholeAll, out_of, passes_both, OneTestSet}
use Rattle.model.specs.Reasons.{ClearLies, SealedLies}
use Rattle.model.proofs.Kept.{never_removed}
use Rattle.model.proofs.Lowest.{not_holds}
use Rattle.model.proofs.May.{both_true, in_chosen, set_exactly}
use Rattle.model.proofs.OutLaws.{whole_part, none_splits, out_of_exactly}
use Rattle.model.proofs.ResultTied.{Lies, result_clear, result_sealed}
use Rattle.model.proofs.Sees.{clear_lies, sealed_lies}
use Rattle.model.proofs.TableLaws.{both, left_view, right_view}

-- of a form, clear or sealed, of which two tables joined have what either has
module _ (column implicit : Table → ℕ) (S : ℕ → Type 0)
    (columns : (t u : Table) → column (joined t u) ≡ union (column t) (column u))
    (implicits : (t u : Table) → implicit (joined t u) ≡ union (implicit t) (implicit u)) where
  -- what lies so joined lies so in each, and the other way round
  joined_lies : (t u : Table) → Lies column implicit S (joined t u) ↔ (Lies column implicit S t × Lies column implicit S u)
  joined_lies t u = (
    λ h. (
      λ a. ⊎_elim (λ m. h a (inl ((shows a).1 (inl m)))) (λ m. h a (inr ((hides a).1 (inl m)))),
      λ a. ⊎_elim (λ m. h a (inl ((shows a).1 (inr m)))) (λ m. h a (inr ((hides a).1 (inr m)))),
    ),
    λ w a.
        ⊎_elim (λ m. ⊎_elim (λ x. w.0 a (inl x)) (λ x. w.1 a (inl x)) ((shows a).0 m))
        (λ m. ⊎_elim (λ x. w.0 a (inr x)) (λ x. w.1 a (inr x)) ((hides a).0 m)),
  )
    where
      shows : (a : ℕ) → In a (column (joined t u)) ↔ (In a (column t) ⊎ In a (column u))
      shows a = rw (columns t u) (in_union (column t) (column u) a)

      hides : (a : ℕ) → In a (implicit (joined t u)) ↔ (In a (implicit t) ⊎ In a (implicit u))
      hides a = rw (implicits t u) (in_union (implicit t) (implicit u) a)

  -- so of what a step has of its operands
  both_lies : (b : Bool) (needed : ℕ) (l r : Table)
      → Lies column implicit S (both b needed l r) ↔ (Lies column implicit S (least_view needed l) × (b ≡ true → Lies column implicit S (least_view needed r)))
  both_lies true needed l r =
      let w = joined_lies (least_view needed l) (least_view needed r) in
      (λ h. ((w.0 h).0, λ e. (w.0 h).1), λ x. w.1 (x.0, x.1 refl))
  both_lies false needed l r = (λ h. (h, λ e. absurd (clash (sym e))), λ x. x.0)

-- condition 3 of a table is that of its tied sets
pub holds_whole : (t : Table) (P E : ℕ) → TiedHolds t P E ↔ WholeAll t.tied P E
unfolding tied_offends splits
holds_whole t P E = (λ h. h, λ h. h)

-- it holds of an operand's least view where it holds of a table that keeps the operand's tied sets
operand_tied : (needed : ℕ) (t u : Table) (P E : ℕ) → Keeps t u → TiedHolds u P E → TiedHolds (least_view needed t) P E
unfolding least_view
operand_tied needed t u P E kept all =
    (holds_whole (least_view needed t) P E).1 (λ k l. whole_part (get_or t.tied k 0) (get_or u.tied k 0) P E (kept.tied k) ((holds_whole u P E).0 all k l))

module _ (N : Night) (i P E : ℕ) where
  abbrev v : Node
  v = node_of N i

  -- 1 and 2 of what a step has of its operands
  taken_clear : ClearLies (taken_by N i) P E ↔ (ClearLies (left_view N i) P E × (uses_right v.kind ≡ true → ClearLies (right_view N i) P E))
  unfolding taken_by joined
  taken_clear =
      both_lies (λ t. t.clear) (λ t. t.tested) (λ a. In a P) (λ t u. refl) (λ t u. refl)
      (uses_right v.kind) v.needed (table_of N v.left) (table_of N v.right)

  taken_sealed : SealedLies (taken_by N i) P E ↔ (SealedLies (left_view N i) P E × (uses_right v.kind ≡ true → SealedLies (right_view N i) P E))
  unfolding taken_by joined
  taken_sealed =
      both_lies (λ t. t.sealed) (λ t. t.hidden) (λ a. In a P ⊎ In a E) (λ t u. refl) (λ t u. refl)
      (uses_right v.kind) v.needed (table_of N v.left) (table_of N v.right)

-- all three by members, and 3 by its test
may_lies : (t : Table) (P E : ℕ) → ClearLies t P E → SealedLies t P E → TiedHolds t P E → May t P E
may_lies t P E clear sealed tied = record { first = (clear_lies t P E).1 clear; second = (sealed_lies t P E).1 sealed; third = tied }

pub one_test : OneTest
one_test N sound i l s P E = (
  λ c. (
    (clear_lies (taken_by N i) P E).1 ((taken_clear N i P E).1 ((clear_lies _ P E).0 c.left.first, λ u. (clear_lies _ P E).0 (c.right u).first)),
    (sealed_lies (taken_by N i) P E).1 ((taken_sealed N i P E).1 ((sealed_lies _ P E).0 c.left.second, λ u. (sealed_lies _ P E).0 (c.right u).second)),
    c.result.third,
  ),
  λ w.
      let clear = (taken_clear N i P E).0 ((clear_lies (taken_by N i) P E).0 w.0) in
      let sealed = (taken_sealed N i P E).0 ((sealed_lies (taken_by N i) P E).0 w.1) in
      let kept = never_removed N sound i l in
      let needed = (node_of N i).needed in
      record {
        step = s;
        left = may_lies _ P E clear.0 sealed.0 (operand_tied needed _ _ P E (kept.0 (step_uses_left (node_of N i).kind s)) w.2);
        right = λ u. may_lies _ P E (clear.1 u) (sealed.1 u) (operand_tied needed _ _ P E (kept.1 u) w.2);
        result = may_lies _ P E (result_clear N sound i l s P E clear.0 clear.1) (result_sealed N sound i l s P E sealed.0 sealed.1) w.2;
      },
)

-- the test of 1 and 2
pub passes_exactly : (t : Table) (P E : ℕ) → (passes_both t P E ≡ true) ↔ (ClearHolds t P E × SealedHolds t P E)
unfolding passes_both
passes_exactly t P E = (
  λ e. let w = both_true _ _ e in (eqb-true (clear_offends t P E) 0 w.0, eqb-true (sealed_offends t P E) 0 w.1),
  λ w. rw (eq-eqb (clear_offends t P E) 0 w.0, eq-eqb (sealed_offends t P E) 0 w.1) refl,
)

-- so the candidates as a set
pub one_test_set : OneTestSet
one_test_set N sound i l s = same_members (candidate_set N i) (minus pass (out_of N tied)) there back
  where
    tied : List ℕ
    tied = (table_of N i).tied

    test : ℕ → Bool
    test p = passes_both (taken_by N i) (clear_of N p) (sealed_of N p)

    pass : ℕ
    pass = unions (λ p. if test p then single 16 p else 0) N.header.subjects

    there : (p : ℕ) → In p (candidate_set N i) → In p (minus pass (out_of N tied))
    there p h =
        let w = (set_exactly N i p sound.counts.subjects_most).0 h in
        let x = (one_test N sound i l s (clear_of N p) (sealed_of N p)).0 w.1 in
        (in_minus pass (out_of N tied) p).1 (
          (in_chosen test N.header.subjects p).1 (w.0, omega (arith, w.0, sound.counts.subjects_most), (passes_exactly _ _ _).1 (x.0, x.1)),
          λ m. clash (sym ((out_of_exactly N tied p).0 m).2 ∙ (none_splits tied _ _).1 ((holds_whole (table_of N i) _ _).0 x.2)),
        )

    back : (p : ℕ) → In p (minus pass (out_of N tied)) → In p (candidate_set N i)
    back p h =
        let w = (in_minus pass (out_of N tied) p).0 h in
        let x = (in_chosen test N.header.subjects p).0 w.0 in
        let y = (passes_exactly (taken_by N i) (clear_of N p) (sealed_of N p)).0 x.2 in
        let whole = (none_splits tied (clear_of N p) (sealed_of N p)).0 (not_holds _ (λ e. w.1 ((out_of_exactly N tied p).1 (x.0, x.1, e)))) in
        (set_exactly N i p sound.counts.subjects_most).1
        (x.0, (one_test N sound i l s (clear_of N p) (sealed_of N p)).1 (y.0, y.1, (holds_whole (table_of N i) (clear_of N p) (sealed_of N p)).1 whole))
