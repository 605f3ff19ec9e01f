-- The cheapest choice worked out: the least costs of every node upwards, then the subjects from the last node down.
use Rattle.std.specs.Prelude.{ℕ, zero, suc, ◌+◌, ◌-◌, ◌*◌, List, Option, Some, None, eqb, ltb, get_or, replicate, set, if◌then◌else◌}
use Rattle.laws.specs.Upwards.{upwards, each}
use Rattle.sets.specs.Sets.{member, single}
use Rattle.night.specs.Night.{Night, node_of, step_price, link_price}
use Rattle.night.specs.Kinds.{uses_left, uses_right}
use Rattle.model.specs.declared.Best.{Best}
use Rattle.model.specs.Candidates.{candidate_set}
use Rattle.model.specs.Choice.{owner_of}

-- who may be node i's subject: a leaf's owner, a step's candidates
unfoldable pub subjects_of : Night → ℕ → ℕ
subjects_of N i = if eqb (node_of N i).kind 0 then single 16 (owner_of N i) else candidate_set N i

-- none so far
abbrev pub no_best : Option Best
no_best = None

-- its cost, and the lowest subject of that cost: 0 where there is none
abbrev pub least_of : Option Best → ℕ
least_of None = 0
least_of (Some b) = b.least

abbrev pub lowest_of : Option Best → ℕ
lowest_of None = 0
lowest_of (Some b) = b.lowest

-- one more, subject t at this cost: it is taken where there is none so far, or where it costs less
unfoldable pub better : Option Best → ℕ → ℕ → Option Best
better None cost t = Some (record { least = cost; lowest = t })
better (Some b) cost t = if ltb cost b.least then Some (record { least = cost; lowest = t }) else Some b

-- what subject t's table costs by its row, and of this size handed to subject s
unfoldable pub handed_on : Night → List ℕ → ℕ → ℕ → ℕ → ℕ
handed_on N row size s t = get_or row t 0 + size * link_price N t s

-- the cheapest of the subjects below k that are in the set
unfoldable pub best_of : Night → List ℕ → ℕ → ℕ → ℕ → ℕ → Option Best
best_of N row among size s zero = no_best
best_of N row among size s (suc k) =
    if member among k then better (best_of N row among size s k) (handed_on N row size s k) k else best_of N row among size s k

-- a row with no costs
abbrev pub no_row : List ℕ
no_row = replicate 16 0

-- the cheapest way to have child k, whose row is known, done and handed to subject s
unfoldable pub best_child : Night → List (List ℕ) → ℕ → ℕ → Option Best
best_child N rows k s = best_of N (get_or rows k no_row) (subjects_of N k) (node_of N k).size s 16

-- what node i costs with all under it where subject s does it, the least
unfoldable pub row_entry : Night → List (List ℕ) → ℕ → ℕ → ℕ
row_entry N before i s =
    (if eqb (node_of N i).kind 0 then 0 else step_price N i s)
    + (if uses_left (node_of N i).kind then least_of (best_child N before (node_of N i).left s) else 0)
    + (if uses_right (node_of N i).kind then least_of (best_child N before (node_of N i).right s) else 0)

-- node i's row from those of the nodes before it: for each subject that may do it, what that costs
unfoldable pub row_step : Night → List (List ℕ) → ℕ → List ℕ
row_step N before i = each 16 (λ s. if member (subjects_of N i) s then row_entry N before i s else 0)

-- the rows of all nodes, worked out upwards
unfoldable pub cost_rows : Night → List (List ℕ)
cost_rows N = upwards (row_step N) N.header.nodes

-- child k gets the lowest of its cheapest subjects for its parent i's subject
unfoldable pub give_child : Night → List (List ℕ) → ℕ → ℕ → List ℕ → List ℕ
give_child N rows i k c = set c k (lowest_of (best_child N rows k (get_or c i 0)))

-- the left child of node i, and both children
unfoldable pub give_left : Night → List (List ℕ) → ℕ → List ℕ → List ℕ
give_left N rows i c = if uses_left (node_of N i).kind then give_child N rows i (node_of N i).left c else c

unfoldable pub give_both : Night → List (List ℕ) → ℕ → List ℕ → List ℕ
give_both N rows i c =
    if uses_right (node_of N i).kind then give_child N rows i (node_of N i).right (give_left N rows i c) else give_left N rows i c

-- the children of the nodes below n, from the last down
unfoldable pub give_down : Night → List (List ℕ) → ℕ → List ℕ → List ℕ
give_down N rows zero c = c
give_down N rows (suc n) c = give_down N rows n (give_both N rows n c)

-- the cheapest of the last node: nothing is handed on
unfoldable pub best_last : Night → List (List ℕ) → Option Best
best_last N rows = best_of N (get_or rows (N.header.nodes - 1) no_row) (subjects_of N (N.header.nodes - 1)) 0 0 16

-- the last node's subject alone
unfoldable pub chosen_last : Night → List (List ℕ) → List ℕ
chosen_last N rows = set (replicate 64 0) (N.header.nodes - 1) (lowest_of (best_last N rows))

-- the subjects of all nodes
unfoldable pub chosen : Night → List ℕ
chosen N = give_down N (cost_rows N) N.header.nodes (chosen_last N (cost_rows N))
