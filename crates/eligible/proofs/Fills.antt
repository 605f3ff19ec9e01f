-- Rooms that a walk fills: an entry stored is right, and what was right stays so.
use Prim.Native.Nat.{ℕ, ◌<◌}
use mathlib.Core.Path.{◌≡◌, refl, ◌∙◌}
use mathlib.Core.Bool.{Bool, true, false}
use mathlib.Core.List.{List}
use mathlib.Core.Logic.{◌⊎◌, inl, inr, ⊎_elim}
use native.Mathlib.Omega.{arith}
use lib.Dec.{eqb}
use lib.ListN.{length, length-set, get_or, set}
use lib.Seq.{get_or-set_same, get_or-set_other}
use borrow.Author.Tests.{eqb-true, eqb-false}
use Rattle.night.specs.Night.{Night, node_of}
use Rattle.night.specs.Kinds.{uses_right}
use Rattle.model.specs.OneTest.{Under, here, by_left, by_right}
use Rattle.model.proofs.Kept.{left_step, right_step}
use Rattle.eligible.specs.Walk.{Fills}

module _ (right : ℕ → ℕ) where
  -- one entry stored, rightly
  stored : (room : List ℕ) (i x k : ℕ) → i < length room → x ≡ right i → (k ≡ i) ⊎ (get_or room k 0 ≡ right k) → get_or (set room i x) k 0 ≡ right k
  stored room i x k l e was = go (eqb k i) refl
    where
      go : (b : Bool) → eqb k i ≡ b → get_or (set room i x) k 0 ≡ right k
      go true q = rw (eqb-true k i q) (get_or-set_same room i x 0 l ∙ e)
      go false q = get_or-set_other room i k x 0 (eqb-false k i q) ∙ ⊎_elim (λ same. absurd (eqb-false k i q same)) (λ h. h) was

  -- nothing is reached and nothing changes
  pub fills_none : (Reached : ℕ → Type 0) (room : List ℕ) → length room ≡ 64 → ((k : ℕ) → Reached k → ⊥) → Fills right Reached room room
  fills_none Reached room long none = record { long = long; kept = λ k h. h; filled = λ k r. absurd (none k r) }

  -- node i after the left part and the right one
  pub fills_node : (N : Night) (i x : ℕ) {Left Right : ℕ → Type 0} (before between after : List ℕ) → i < 64 → x ≡ right i
      → Fills right Left before between → Fills right Right between after
      → ((k : ℕ) → Under N i k → (k ≡ i) ⊎ (Left k ⊎ Right k)) → Fills right (Under N i) before (set after i x)
  fills_node N i x before between after l e F G parts =
      let inside : i < length after = omega (arith, G.long) in
      record {
        long = length-set after i x ∙ G.long;
        kept = λ k h. stored after i x k inside e (inr (G.kept k (F.kept k h)));
        filled = λ k u. stored after i x k inside e (⊎_elim inl (λ p. inr (⊎_elim (λ h. G.kept k (F.filled k h)) (G.filled k) p)) (parts k u));
      }

-- a leaf has nothing under it; under a step lie its operands
pub under_leaf : (N : Night) (i k : ℕ) → (node_of N i).kind ≡ 0 → Under N i k → k ≡ i
under_leaf N i k e here = refl
under_leaf N i k e (by_left u h) = absurd (left_step (node_of N i).kind u e)
under_leaf N i k e (by_right u h) = absurd (right_step (node_of N i).kind u e)

pub under_step : (N : Night) (i k : ℕ) → Under N i k
    → (k ≡ i) ⊎ (Under N (node_of N i).left k ⊎ ((uses_right (node_of N i).kind ≡ true) × Under N (node_of N i).right k))
under_step N i k here = inl refl
under_step N i k (by_left u h) = inr (inl h)
under_step N i k (by_right u h) = inr (inr (u, h))
