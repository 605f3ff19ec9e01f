-- What the nodes of an offered choice cost.
use Prim.Native.Nat.{ℕ, ◌+◌, ◌*◌, ◌<◌, ◌≤◌}
use mathlib.Core.Path.{◌≡◌, refl}
use mathlib.Core.Bool.{Bool, not}
use mathlib.Core.List.{List}
use lib.Dec.{eqb}
use lib.ListN.{get_or}
use borrow.Author.Tests.{eq-eqb, ne_eqb}
use Rattle.std.specs.Prelude.{if◌then◌else◌}
use Rattle.laws.proofs.Sums.{sum_none, sum_more}
use Rattle.sets.specs.Sets.{member}
use Rattle.night.specs.declared.Node.{Node}
use Rattle.night.specs.Night.{Night, relation_of, node_of, step_price, link_price}
use Rattle.night.specs.Kinds.{uses_left, uses_right}
use Rattle.night.specs.Promised.{Promised}
use Rattle.model.specs.Candidates.{candidate_set}
use Rattle.model.specs.Choice.{Choice, Admissible, handed, cost_at}
use Rattle.verdicts.specs.Refusals.{offer_bad}
use Rattle.model.proofs.CostRows.{paid}
use Rattle.model.proofs.Weight.{link_most, paid_most, d_there}

-- node i as it is read
module _ (N : Night) (i : ℕ) (v : Node) (read : v ≡ node_of N i) where
  pub leaf_asked : (offer : List ℕ) → v.kind ≡ 0 → not (eqb (get_or offer i 0) (relation_of N v.x).owner) ≡ offer_bad N offer i
  unfolding offer_bad
  leaf_asked offer e = rw (read, eq-eqb (node_of N i).kind 0 (rw read at e)) refl

  pub step_asked : (offer : List ℕ) → (v.kind ≡ 0 → ⊥) → not (member (candidate_set N i) (get_or offer i 0)) ≡ offer_bad N offer i
  unfolding offer_bad
  step_asked offer e = rw (ne_eqb (node_of N i).kind 0 (rw read at e)) refl

  -- its cost from its parts
  pub cost_made : (d : Choice) (a b : Bool) → a ≡ uses_left v.kind → b ≡ uses_right v.kind → (p x y : ℕ)
      → p ≡ (if eqb (node_of N i).kind 0 then 0 else step_price N i (d i))
      → x ≡ (if a then handed N d i v.left else 0)
      → y ≡ (if b then handed N d i v.right else 0)
      → p + x + y ≡ cost_at N d i
  unfolding cost_at
  cost_made d a b e f p x y g m n = rw (g, m, n, e, f, read) refl

  -- what it costs to hand it over
  pub handed_made : (d : Choice) (j x : ℕ) → x ≡ v.size * link_price N (d i) (d j) → x ≡ handed N d j i
  unfolding handed
  handed_made d j x e = rw (← read) e

-- what it can cost to hand a child over
pub handed_most : (N : Night) (sound : Promised N) (d : Choice) → Admissible N d → (i k : ℕ) → i < N.header.nodes → k < N.header.nodes → handed N d i k ≤ 1000000000
unfolding handed
handed_most N sound d A i k l h = link_most N sound k (d k) (d i) h (d_there N sound d A k h) (d_there N sound d A i l)

-- what an offered subject is paid
pub paid_little : (N : Night) → Promised N → (offer : List ℕ) → Admissible N (λ j. get_or offer j 0) → (i r : ℕ) → i < N.header.nodes → r ≡ paid N i (get_or offer i 0) → r ≤ 1000000
paid_little N sound offer A i r l e = rw e (paid_most N sound i (get_or offer i 0) l (d_there N sound (λ j. get_or offer j 0) A i l))

-- for `search`: a loop that adds up
pub ruleset sum_loop = (sum_none, sum_more)
