-- What is delivered sealed by the built plan is what the root's table has sealed, since the root seals nothing.
use Prim.Native.Nat.{ℕ, ◌+◌, ◌-◌, ◌<◌}
use mathlib.Core.Path.{◌≡◌, refl, sym, ◌∙◌}
use mathlib.Core.Bool.{Bool, true, false}
use mathlib.Core.Logic.{inr, ⊎_elim}
use native.Mathlib.Omega.{arith}
use lib.Dec.{eqb}
use borrow.Author.Tests.{eqb-true, eqb-false, eq-eqb}
use Rattle.std.specs.Prelude.{if◌then◌else◌}
use Rattle.laws.proofs.Cases.{clash}
use Rattle.sets.specs.Sets.{In}
use Rattle.sets.proofs.Members.{same_members, in_or_not, out_member, in_union, in_minus, in_meet, in_none, in_unions}
use Rattle.sets.proofs.Words.{in_single}
use Rattle.night.specs.Night.{Night, node_of}
use Rattle.night.specs.Kinds.{attribute, visible}
use Rattle.night.specs.Promised.{Promised}
use Rattle.night.proofs.Visible.{visible_below}
use Rattle.run.specs.Run.{is_sealed, result_of, leaving, delivered, sealed_in}
use Rattle.model.specs.Tables.{leaf_table, table_of}
use Rattle.model.specs.Choice.{Choice}
use Rattle.model.specs.Plan.{sealings, built}
use Rattle.model.proofs.Parents.{root_there}
use Rattle.model.proofs.TableLaws.{table_leaf}
use Rattle.model.proofs.Shown.{shown_visible, step_clear, step_sealed}
use Rattle.model.proofs.HeldLaws.{held_absent}
use Rattle.model.proofs.Built.{seals_clear}
use Rattle.model.proofs.BuiltColumns.{formed}

-- a test of a column chooses its attribute
in_chosen : (b : Bool) (a k : ℕ) → In a (if b then attribute k else 0) → (b ≡ true) × (a ≡ k)
in_chosen true a k h = (refl, ((in_single 64 a k).0 h).0)
in_chosen false a k h = absurd (in_none a h)

module _ (N : Night) (sound : Promised N) (c : Choice) where
  abbrev n : ℕ
  n = N.header.nodes

  last : n - 1 < n
  last = root_there N sound

  -- the root hands over its result as it is
  as_made : (a : ℕ) → (delivered N (built N c)).column a ≡ (result_of N (built N c) (n - 1)).column a
  unfolding delivered leaving
  as_made a = rw (seals_none, out_member 0 a (in_none a)) refl
    where
      end : n - 1 + 1 ≡ n
      end = omega (arith, sound.counts.nodes_some)

      seals_none : sealings N (n - 1) ≡ 0
      seals_none = seals_clear N sound (n - 1) last ∙ rw (eq-eqb (n - 1 + 1) n end) refl

  -- what a table has sealed it doesn't have in clear
  not_clear : (a : ℕ) → In a (table_of N (n - 1)).sealed → In a (table_of N (n - 1)).clear → ⊥
  unfolding leaf_table
  not_clear a h k = go (eqb (node_of N (n - 1)).kind 0) refl
    where
      go : (b : Bool) → eqb (node_of N (n - 1)).kind 0 ≡ b → ⊥
      go true e = in_none a (rw (table_leaf N (n - 1) last (eqb-true _ 0 e)) at h)
      go false e =
          let s = eqb-false (node_of N (n - 1)).kind 0 e in
          ((in_minus (visible N (n - 1)) (node_of N (n - 1)).needed a).0 (rw (step_sealed N sound (n - 1) last s) at h)).1
          ((in_meet (node_of N (n - 1)).needed (visible N (n - 1)) a).0 (rw (step_clear N sound (n - 1) last s) at k)).0

  -- a column that is sealed is one that the table has so
  from_column : (a : ℕ) → is_sealed ((delivered N (built N c)).column a) ≡ true → In a (table_of N (n - 1)).sealed
  from_column a e = ⊎_elim seen (λ out. absurd (clash (sym (rw (as_made a, held_absent N (built N c) sound (n - 1) a last out) at e)))) (in_or_not a (visible N (n - 1)))
    where
      seen : In a (visible N (n - 1)) → In a (table_of N (n - 1)).sealed
      seen h =
          ⊎_elim (λ w. absurd (clash (sym (rw (as_made a, w.1) at e))))
          (λ w. ⊎_elim (λ k. absurd (w.0 k)) (λ k. k) ((in_union (table_of N (n - 1)).clear (table_of N (n - 1)).sealed a).0 (rw (← shown_visible N sound (n - 1) last) at h)))
          (formed N sound c (n - 1) a last h)

  to_column : (a : ℕ) → In a (visible N (n - 1)) → In a (table_of N (n - 1)).sealed → is_sealed ((delivered N (built N c)).column a) ≡ true
  to_column a v h = ⊎_elim (λ w. absurd (not_clear a h w.0)) (λ w. rw (as_made a, w.1) refl) (formed N sound c (n - 1) a last v)

  pub delivered_sealed : sealed_in N (delivered N (built N c)) ≡ (table_of N (n - 1)).sealed
  unfolding sealed_in
  delivered_sealed =
      same_members _ (table_of N (n - 1)).sealed
      (λ a h.
      let w = (in_unions (λ k. if is_sealed ((delivered N (built N c)).column k) then attribute k else 0) N.header.attributes a).0 h in
      let q = in_chosen (is_sealed ((delivered N (built N c)).column w.0)) a w.0 w.2 in
      rw q.1 (from_column w.0 q.0))
      (λ a h.
      let v : In a (visible N (n - 1)) = rw (← shown_visible N sound (n - 1) last) ((in_union (table_of N (n - 1)).clear (table_of N (n - 1)).sealed a).1 (inr h)) in
      let below = visible_below N sound (n - 1) a last v in
      (in_unions (λ k. if is_sealed ((delivered N (built N c)).column k) then attribute k else 0) N.header.attributes a).1
      (a, below, rw (to_column a v h) ((in_single 64 a a).1 (refl, omega (arith, sound.counts.attributes_most)))))
