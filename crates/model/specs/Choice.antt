-- Choices of subjects, what they cost, and which is the cheapest.
use Rattle.std.specs.Prelude.{ℕ, ◌+◌, ◌*◌, ◌<◌, ◌≤◌, ◌≡◌, eqb, if◌then◌else◌}
use Rattle.laws.specs.Sums.{sum}
use Rattle.sets.specs.Sets.{In, size}
use Rattle.night.specs.Night.{Night, relation_of, node_of, step_price, link_price}
use Rattle.night.specs.Kinds.{uses_left, uses_right}
use Rattle.night.specs.Promised.{Promised}
use Rattle.model.specs.Candidates.{candidate_set}

-- a subject for each node
abbrev pub Choice : Type 0
Choice = ℕ → ℕ

-- a leaf's subject is the owner of its relation
abbrev pub owner_of : Night → ℕ → ℕ
owner_of N i = (relation_of N (node_of N i).x).owner

-- a choice from the candidates, with the owners at the leaves
pub record Admissible (N : Night) (c : Choice) : Type 0 where
  pub leaf : (i : ℕ) → i < N.header.nodes → (node_of N i).kind ≡ 0 → c i ≡ owner_of N i
  pub step : (i : ℕ) → i < N.header.nodes → ((node_of N i).kind ≡ 0 → ⊥) → In (c i) (candidate_set N i)

-- every step has a candidate
abbrev pub AllHave : Night → Type 0
AllHave N = (i : ℕ) → i < N.header.nodes → ((node_of N i).kind ≡ 0 → ⊥) → (p : ℕ) × In p (candidate_set N i)

-- a child's size times the link price from its subject to its parent's
unfoldable pub handed : Night → Choice → ℕ → ℕ → ℕ
handed N c i k = (node_of N k).size * link_price N (c k) (c i)

-- what node i costs: its subject's price where it is a step, and for each child what it costs to hand it over
unfoldable pub cost_at : Night → Choice → ℕ → ℕ
cost_at N c i =
    (if eqb (node_of N i).kind 0 then 0 else step_price N i (c i))
    + (if uses_left (node_of N i).kind then handed N c i (node_of N i).left else 0)
    + (if uses_right (node_of N i).kind then handed N c i (node_of N i).right else 0)

-- the total over all nodes
unfoldable pub total : Night → Choice → ℕ
total N c = sum (cost_at N c) N.header.nodes

-- read from the last of n nodes to the first, c is smaller than d at the first node where they differ
pub record Earlier (n : ℕ) (c d : Choice) : Type 0 where
  pub node : ℕ
  pub there : node < n
  pub smaller : c node < d node
  pub same_after : (j : ℕ) → node < j → j < n → c j ≡ d j

-- the cheapest choice: no admissible one costs less, and none of the same total comes earlier
pub record Least (N : Night) (c : Choice) : Type 0 where
  pub admissible : Admissible N c
  pub cheapest : (d : Choice) → Admissible N d → total N c ≤ total N d
  pub earliest : (d : Choice) → Admissible N d → total N d ≡ total N c → Earlier N.header.nodes d c → ⊥

-- there is a cheapest choice whenever every step has a candidate
abbrev pub LeastThere : Type 0
LeastThere = (N : Night) → Promised N → AllHave N → (c : Choice) × Least N c

-- two cheapest choices are the same
abbrev pub LeastOnce : Type 0
LeastOnce = (N : Night) (c d : Choice) → Least N c → Least N d → (i : ℕ) → i < N.header.nodes → c i ≡ d i

-- how many subjects may run node i: a leaf counts 1
unfoldable pub weight : Night → ℕ → ℕ
weight N i = if eqb (node_of N i).kind 0 then 1 else size (candidate_set N i)

-- steps: over every child and its parent, the parent's candidates times the child's
unfoldable pub steps_at : Night → ℕ → ℕ
steps_at N i =
    (if uses_left (node_of N i).kind then weight N i * weight N (node_of N i).left else 0)
    + (if uses_right (node_of N i).kind then weight N i * weight N (node_of N i).right else 0)

unfoldable pub steps : Night → ℕ
steps N = sum (steps_at N) N.header.nodes
