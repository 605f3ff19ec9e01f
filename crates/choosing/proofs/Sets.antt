-- The subjects of every node as the code holds them.
use Prim.Native.Nat.{ℕ, zero, suc, ◌^◌, ◌<◌, ◌≤◌}
use mathlib.Core.Path.{◌≡◌, refl, sym, ◌∙◌}
use mathlib.Core.Bool.{Bool, true, false}
use mathlib.Core.List.{List, [], ◌∷◌}
use native.Mathlib.Omega.{arith}
use lib.Dec.{eqb}
use lib.ListN.{length, get_or}
use lib.Count.{ones-le}
use borrow.Author.Tests.{ne_eqb}
use Rattle.std.specs.Prelude.{if◌then◌else◌}
use Rattle.laws.proofs.Upwards.{each_at}
use Rattle.sets.specs.Sets.{single, size}
use Rattle.sets.proofs.Words.{members_lt}
use Rattle.night.specs.declared.Node.{Node}
use Rattle.night.specs.Night.{Night, node_of}
use Rattle.night.specs.Kinds.{uses_left, uses_right}
use Rattle.night.specs.Promised.{Promised}
use Rattle.model.specs.Candidates.{candidate_set}
use Rattle.model.specs.Choice.{owner_of, weight}
use Rattle.model.specs.Dp.{subjects_of}
use Rattle.model.proofs.May.{set_exactly}
use Rattle.verdicts.specs.Refusals.{without_candidate}
use Rattle.choosing.specs.Held.{HasSets}

-- a set of w bits has at most w members
pub size_most : (w S : ℕ) → S < 2 ^ w → size S ≤ w
unfolding size
size_most w S h = ones-le w S h

-- the entry of a list at a place that it has, whatever stands past its end
pub same_default : {A : Type 0} (xs : List A) (k : ℕ) (d e : A) → k < length xs → get_or xs k d ≡ get_or xs k e
same_default [] k d e l = absurd (omega arith)
same_default (x ∷ xs) zero d e l = refl
same_default (x ∷ xs) (suc k) d e l = same_default xs k d e (omega arith)

module _ (N : Night) (sets : List ℕ) (i : ℕ) (has : HasSets N sets) (l : i < 64) where
  pub set_at : get_or sets i 0 ≡ subjects_of N i
  set_at = rw has (each_at (subjects_of N) 0 i 64 l)

  -- of a step they are its candidates
  pub without_at : without_candidate N i ≡ (if eqb (node_of N i).kind 0 then false else eqb (get_or sets i 0) 0)
  unfolding without_candidate subjects_of
  without_at = rw set_at (go (eqb (node_of N i).kind 0))
    where
      go : (b : Bool) → (if b then false else eqb (candidate_set N i) 0) ≡ (if b then false else eqb (if b then single 16 (owner_of N i) else candidate_set N i) 0)
      go true = refl
      go false = refl

  pub weight_at : weight N i ≡ (if eqb (node_of N i).kind 0 then 1 else size (get_or sets i 0))
  unfolding weight subjects_of
  weight_at = rw set_at (go (eqb (node_of N i).kind 0))
    where
      go : (b : Bool) → (if b then 1 else size (candidate_set N i)) ≡ (if b then 1 else size (if b then single 16 (owner_of N i) else candidate_set N i))
      go true = refl
      go false = refl

-- node i as it is read
module _ (N : Night) (i : ℕ) (v : Node) (read : v ≡ node_of N i) where
  pub subjects_step : (v.kind ≡ 0 → ⊥) → subjects_of N i ≡ candidate_set N i
  unfolding subjects_of
  subjects_step e = rw (← read, ne_eqb v.kind 0 e) refl

  -- its children are lower, and so within the arrays
  module _ (sound : Promised N) (l : i < N.header.nodes) (used : Bool) where
    pub left_there : used ≡ uses_left v.kind → used ≡ true → v.left < i
    left_there e u = rw read ((sound.node i l).left_lower (rw read at (sym e ∙ u)))

    pub right_there : used ≡ uses_right v.kind → used ≡ true → v.right < i
    right_there e u = rw read ((sound.node i l).right_lower (rw read at (sym e ∙ u)))

-- for `search`
pub ruleset children_there = (left_there, right_there)

-- the subjects of a step are few, and so are those that may run any node
pub candidates_fit : (N : Night) → Promised N → (i : ℕ) → candidate_set N i < 2 ^ 16
candidates_fit N sound i =
    members_lt 16 (candidate_set N i) (λ p q. omega (arith, ((set_exactly N i p sound.counts.subjects_most).0 q).0, sound.counts.subjects_most))

pub weight_most : (N : Night) → Promised N → (i : ℕ) → weight N i ≤ 16
unfolding weight
weight_most N sound i = go (eqb (node_of N i).kind 0)
  where
    go : (b : Bool) → (if b then 1 else size (candidate_set N i)) ≤ 16
    go true = omega arith
    go false = size_most 16 (candidate_set N i) (candidates_fit N sound i)
