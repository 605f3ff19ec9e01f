-- The rows of least costs: who may be a node's subject, what a row holds, and what a choice costs by the children.
use Prim.Native.Nat.{ℕ, ◌+◌, ◌*◌, ◌<◌, ◌≤◌}
use mathlib.Core.Path.{◌≡◌, refl, sym, ap, ◌∙◌}
use mathlib.Core.Bool.{Bool, true, false}
use mathlib.Core.List.{List}
use native.Mathlib.Omega.{arith}
use lib.Dec.{eqb, ltb}
use lib.ListN.{get_or}
use borrow.Author.Tests.{ltb-true, ltb-false, eqb-true, eqb-false, eq-eqb, ne_eqb}
use Rattle.std.specs.Prelude.{if◌then◌else◌}
use Rattle.laws.specs.Upwards.{upwards, each}
use Rattle.laws.proofs.Upwards.{upwards_at, each_at, each_past}
use Rattle.sets.specs.Sets.{In, member, single}
use Rattle.sets.proofs.Members.{in_member}
use Rattle.sets.proofs.Words.{in_single}
use Rattle.night.specs.Night.{Night, node_of, step_price, link_price}
use Rattle.night.specs.Kinds.{uses_left, uses_right}
use Rattle.night.specs.Promised.{Promised}
use Rattle.model.specs.Candidates.{candidate_set}
use Rattle.model.specs.Choice.{Choice, Admissible, owner_of, handed, cost_at}
use Rattle.model.specs.Dp.{subjects_of, least_of, handed_on, best_of, no_row, best_child, row_entry, row_step, cost_rows}
use Rattle.model.proofs.May.{set_exactly}
use Rattle.model.proofs.Parents.{children}
use Rattle.model.proofs.Lowest.{Found, best_found}

-- the price of node i itself
unfoldable pub paid : Night → ℕ → ℕ → ℕ
paid N i s = if eqb (node_of N i).kind 0 then 0 else step_price N i s

-- the least cost of node i with all under it, done by subject s; and of child k done and handed to subject s
unfoldable pub cost_of : Night → ℕ → ℕ → ℕ
cost_of N i s = get_or (get_or (cost_rows N) i no_row) s 0

unfoldable pub least_child : Night → ℕ → ℕ → ℕ
least_child N k s = least_of (best_child N (cost_rows N) k s)

-- what a node costs, by its children
pub cost_children : (N : Night) (c : Choice) (i : ℕ) → cost_at N c i ≡ paid N i (c i) + children N (λ k. handed N c i k) i
unfolding cost_at paid children
cost_children N c i = omega arith

-- rows that are worked out stay
pub row_known : (N : Night) (k i : ℕ) → k < i → i ≤ N.header.nodes → get_or (upwards (row_step N) i) k no_row ≡ get_or (cost_rows N) k no_row
unfolding cost_rows
row_known N k i h l = upwards_at (row_step N) no_row k i h ∙ sym (upwards_at (row_step N) no_row k N.header.nodes (omega arith))

module _ (N : Night) (sound : Promised N) (i : ℕ) (l : i < N.header.nodes) where
  -- a subject of node i is one of the night's
  pub subject-there : (t : ℕ) → In t (subjects_of N i) → t < N.header.subjects
  unfolding subjects_of
  subject-there t h = go (eqb (node_of N i).kind 0) refl h
    where
      go : (b : Bool) → eqb (node_of N i).kind 0 ≡ b → In t (if b then single 16 (owner_of N i) else candidate_set N i) → t < N.header.subjects
      go true e h = rw ((in_single 16 t (owner_of N i)).0 h).0 (sound.relation (node_of N i).x ((sound.node i l).leaf_relation (eqb-true (node_of N i).kind 0 e))).owner_there
      go false e h = ((set_exactly N i t sound.counts.subjects_most).0 h).0

  pub subject_low : (t : ℕ) → In t (subjects_of N i) → t < 16
  subject_low t h = omega (arith, subject-there t h, sound.counts.subjects_most)

  -- a leaf's subject is its owner, a step's a candidate
  pub subject_leaf : (t : ℕ) → (node_of N i).kind ≡ 0 → In t (subjects_of N i) → t ≡ owner_of N i
  unfolding subjects_of
  subject_leaf t e h = ((in_single 16 t (owner_of N i)).0 (rw (eq-eqb (node_of N i).kind 0 e) at h)).0

  pub subject_step : (t : ℕ) → ((node_of N i).kind ≡ 0 → ⊥) → In t (subjects_of N i) → In t (candidate_set N i)
  unfolding subjects_of
  subject_step t e h = rw (ne_eqb (node_of N i).kind 0 e) at h

  owner_in : (node_of N i).kind ≡ 0 → In (owner_of N i) (single 16 (owner_of N i))
  owner_in e =
      (in_single 16 (owner_of N i) (owner_of N i)).1
      (refl, omega (arith, (sound.relation (node_of N i).x ((sound.node i l).leaf_relation e)).owner_there, sound.counts.subjects_most))

  -- an admissible choice takes one of them
  pub subject_in : (d : Choice) → Admissible N d → In (d i) (subjects_of N i)
  unfolding subjects_of
  subject_in d A = go (eqb (node_of N i).kind 0) refl
    where
      go : (b : Bool) → eqb (node_of N i).kind 0 ≡ b → In (d i) (if b then single 16 (owner_of N i) else candidate_set N i)
      go true e = rw (A.leaf i l (eqb-true (node_of N i).kind 0 e)) (owner_in (eqb-true (node_of N i).kind 0 e))
      go false e = A.step i l (eqb-false (node_of N i).kind 0 e)

  -- there is one, where a step has a candidate
  pub subject_some : (((node_of N i).kind ≡ 0 → ⊥) → (p : ℕ) × In p (candidate_set N i)) → (p : ℕ) × In p (subjects_of N i)
  unfolding subjects_of
  subject_some some = go (eqb (node_of N i).kind 0) refl
    where
      go : (b : Bool) → eqb (node_of N i).kind 0 ≡ b → (p : ℕ) × In p (if b then single 16 (owner_of N i) else candidate_set N i)
      go true e = (owner_of N i, owner_in (eqb-true (node_of N i).kind 0 e))
      go false e = some (eqb-false (node_of N i).kind 0 e)

  -- a child's row is known when its parent's is made
  child_row : (k s : ℕ) → k < i → least_of (best_child N (upwards (row_step N) i) k s) ≡ least_child N k s
  unfolding least_child best_child
  child_row k s h = ap (λ (r : List ℕ). least_of (best_of N r (subjects_of N k) (node_of N k).size s 16)) (row_known N k i h (omega arith))

  entry_made : (s : ℕ) → row_entry N (upwards (row_step N) i) i s ≡ paid N i s + children N (λ k. least_child N k s) i
  unfolding row_entry paid children
  entry_made s = go (uses_left (node_of N i).kind) (uses_right (node_of N i).kind) (λ u. child_row _ s ((sound.node i l).left_lower u)) (λ u. child_row _ s ((sound.node i l).right_lower u))
    where
      p : ℕ
      p = if eqb (node_of N i).kind 0 then 0 else step_price N i s

      go : (a b : Bool) → (a ≡ true → least_of (best_child N (upwards (row_step N) i) (node_of N i).left s) ≡ least_child N (node_of N i).left s)
          → (b ≡ true → least_of (best_child N (upwards (row_step N) i) (node_of N i).right s) ≡ least_child N (node_of N i).right s)
          → p + (if a then least_of (best_child N (upwards (row_step N) i) (node_of N i).left s) else 0)
          + (if b then least_of (best_child N (upwards (row_step N) i) (node_of N i).right s) else 0)
          ≡ p + ((if a then least_child N (node_of N i).left s else 0) + (if b then least_child N (node_of N i).right s else 0))
      go true true x y = omega (arith, x refl, y refl)
      go true false x y = omega (arith, x refl)
      go false true x y = omega (arith, y refl)
      go false false x y = omega arith

  -- what a row holds
  pub cost_is : (s : ℕ) → In s (subjects_of N i) → cost_of N i s ≡ paid N i s + children N (λ k. least_child N k s) i
  unfolding cost_of cost_rows row_step
  cost_is s h =
      rw (upwards_at (row_step N) no_row i N.header.nodes l)
      (each_at {A = ℕ} _ 0 s 16 (subject_low s h) ∙ rw (in_member (subjects_of N i) s h) (entry_made s))

  pub cost_else : (s : ℕ) → member (subjects_of N i) s ≡ false → cost_of N i s ≡ 0
  unfolding cost_of cost_rows row_step
  cost_else s e = rw (upwards_at (row_step N) no_row i N.header.nodes l) (go (ltb s 16) refl)
    where
      entry : ℕ → ℕ
      entry t = if member (subjects_of N i) t then row_entry N (upwards (row_step N) i) i t else 0

      go : (b : Bool) → ltb s 16 ≡ b → get_or (each 16 entry) s 0 ≡ 0
      go true q = each_at entry 0 s 16 (ltb-true s 16 q) ∙ rw e refl
      go false q = each_past entry 0 s 16 (ltb-false s 16 q)

  -- the cheapest way to hand node i over, as a search
  pub child_found : (s : ℕ) → Found (λ t. cost_of N i t + (node_of N i).size * link_price N t s) (subjects_of N i) 16 (best_child N (cost_rows N) i s)
  unfolding best_child cost_of handed_on
  child_found s = best_found N (get_or (cost_rows N) i no_row) (subjects_of N i) (node_of N i).size s 16

  pub child_least : (s t : ℕ) → In t (subjects_of N i) → least_child N i s ≤ cost_of N i t + (node_of N i).size * link_price N t s
  unfolding least_child
  child_least s t h = (child_found s).cheapest t (subject_low t h) h
