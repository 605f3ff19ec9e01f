-- The least costs bound every admissible choice: summed over all nodes, what is handed up cancels, and the last node's row is left.
use Prim.Native.Nat.{ℕ, ◌+◌, ◌-◌, ◌<◌, ◌≤◌}
use mathlib.Core.Path.{◌≡◌}
use mathlib.Core.Bool.{true}
use native.Mathlib.Omega.{arith}
use Rattle.laws.specs.Sums.{sum}
use Rattle.laws.proofs.Sums.{sum_le, sum_same, sum_add, sum_tight}
use Rattle.sets.specs.Sets.{In}
use Rattle.night.specs.Night.{Night, node_of}
use Rattle.night.specs.Kinds.{is_child}
use Rattle.night.specs.Promised.{Promised}
use Rattle.model.specs.Choice.{Choice, handed, cost_at, total}
use Rattle.model.specs.Dp.{subjects_of}
use Rattle.model.proofs.Parents.{children, children_add, children_le, children_same, children_tight, child_lower, once}
use Rattle.model.proofs.CostRows.{paid, cost_of, least_child, cost_children, cost_is, child_least}

module _ (N : Night) (sound : Promised N) (d : Choice) (taken : (i : ℕ) → i < N.header.nodes → In (d i) (subjects_of N i)) where
  abbrev n : ℕ
  n = N.header.nodes

  -- the row entry of node i's subject
  unfoldable pub entry_at : ℕ → ℕ
  entry_at i = cost_of N i (d i)

  -- child k with all under it, and handing it to node i
  unfoldable pub child_at : ℕ → ℕ → ℕ
  child_at i k = entry_at k + handed N d i k

  -- what node i costs, and its children's rows
  unfoldable pub spent_at : ℕ → ℕ
  spent_at i = cost_at N d i + children N entry_at i

  spent_children : (i : ℕ) → spent_at i ≡ paid N i (d i) + children N (child_at i) i
  unfolding spent_at child_at
  spent_children i = omega (arith, cost_children N d i, children_add N i entry_at (λ k. handed N d i k))

  entry_children : (i : ℕ) → i < n → entry_at i ≡ paid N i (d i) + children N (λ k. least_child N k (d i)) i
  unfolding entry_at
  entry_children i l = cost_is N sound i l (d i) (taken i l)

  -- the least is no more than what the choice has
  child_le : (i k : ℕ) → i < n → is_child (node_of N i) k ≡ true → least_child N k (d i) ≤ child_at i k
  unfolding child_at entry_at handed
  child_le i k l e =
      let h : k < n = omega (arith, child_lower N sound i k l e) in
      child_least N sound k h (d i) (d k) (taken k h)

  entry_le : (i : ℕ) → i < n → entry_at i ≤ spent_at i
  entry_le i l = omega (arith, entry_children i l, spent_children i, children_le N i (λ k. least_child N k (d i)) (child_at i) (λ k e. child_le i k l e))

  -- what is handed up cancels
  spent_all : sum spent_at n + entry_at (n - 1) ≡ total N d + sum entry_at n
  unfolding spent_at total
  spent_all = omega (arith, sum_add (cost_at N d) (children N entry_at) n, once N sound entry_at)

  pub last_le : entry_at (n - 1) ≤ total N d
  last_le = omega (arith, spent_all, sum_le entry_at spent_at n entry_le)

  -- where the total is no more than the last node's row, each child is the least
  pub child_tight : (i k : ℕ) → i < n → is_child (node_of N i) k ≡ true → total N d ≤ entry_at (n - 1) → child_at i k ≤ least_child N k (d i)
  child_tight i k l e h =
      omega (
        arith,
        spent_all,
        sum_tight entry_at spent_at i n l entry_le,
        entry_children i l,
        spent_children i,
        children_tight N i (λ j. least_child N j (d i)) (child_at i) k e (λ j q. child_le i j l q),
      )

  -- where each child is the least, the total is the last node's row
  pub last_is : ((i k : ℕ) → i < n → is_child (node_of N i) k ≡ true → least_child N k (d i) ≡ child_at i k) → total N d ≡ entry_at (n - 1)
  last_is h = omega (arith, spent_all, sum_same entry_at spent_at n same)
    where
      same : (i : ℕ) → i < n → entry_at i ≡ spent_at i
      same i l = omega (arith, entry_children i l, spent_children i, children_same N i (λ k. least_child N k (d i)) (child_at i) (λ k e. h i k l e))
