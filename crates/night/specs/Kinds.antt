-- The kinds of node: what each uses, what it reads, what is visible after it.
use Rattle.std.specs.Prelude.{ℕ, ◌+◌, Bool, false, not, List, [], ◌∷◌, eqb, get_or, if◌then◌else◌}
use Rattle.laws.specs.Choose.{any_of}
use Rattle.laws.specs.First.{somewhere}
use Rattle.laws.specs.Upwards.{each, upwards}
use Rattle.sets.specs.Sets.{union, minus, single, unions}
use Rattle.night.specs.declared.Node.{Node}
use Rattle.night.specs.declared.Pair.{Pair}
use Rattle.night.specs.Night.{Night, node_of, pair_of}

-- the kinds: leaf, project, select attribute with value, select attribute with attribute, product, join, group and aggregate, group and
-- count, user function, join on pairs
abbrev pub a_leaf : ℕ
a_leaf = 0

abbrev pub a_project : ℕ
a_project = 1

abbrev pub a_select : ℕ
a_select = 2

abbrev pub a_compare : ℕ
a_compare = 3

abbrev pub a_product : ℕ
a_product = 4

abbrev pub a_join : ℕ
a_join = 5

abbrev pub an_aggregate : ℕ
an_aggregate = 6

abbrev pub a_count : ℕ
a_count = 7

abbrev pub a_function : ℕ
a_function = 8

abbrev pub a_join_on_pairs : ℕ
a_join_on_pairs = 9

-- a left operand: every kind but the leaf
unfoldable pub uses_left : ℕ → Bool
uses_left kind = not (eqb kind a_leaf)

-- a right operand: product, both joins
unfoldable pub uses_right : ℕ → Bool
uses_right kind = any_of (eqb kind a_product ∷ eqb kind a_join ∷ eqb kind a_join_on_pairs ∷ [])

-- x: the leaf's relation; the attribute of both selects, join, group and aggregate, user function
unfoldable pub uses_x : ℕ → Bool
uses_x kind = any_of (eqb kind a_leaf ∷ eqb kind a_select ∷ eqb kind a_compare ∷ eqb kind a_join ∷ eqb kind an_aggregate ∷ eqb kind a_function ∷ [])

-- y: the second attribute of the second select and of join
unfoldable pub uses_y : ℕ → Bool
uses_y kind = any_of (eqb kind a_compare ∷ eqb kind a_join ∷ [])

-- the set: leaf, project, both groups, user function
unfoldable pub uses_set : ℕ → Bool
uses_set kind = any_of (eqb kind a_leaf ∷ eqb kind a_project ∷ eqb kind an_aggregate ∷ eqb kind a_count ∷ eqb kind a_function ∷ [])

-- pairs: the join on pairs
unfoldable pub uses_pairs : ℕ → Bool
uses_pairs kind = eqb kind a_join_on_pairs

-- an attribute's number as a set
abbrev pub attribute : ℕ → ℕ
attribute x = single 64 x

-- of the pairs that the node names, number k
unfoldable pub its_pair : Night → Node → ℕ → Pair
its_pair N v k = pair_of N (v.first + k)

-- both attributes of a pair
unfoldable pub both_of : Pair → ℕ
both_of q = union (attribute q.left) (attribute q.right)

-- all attributes of its pairs
unfoldable pub pairs_read : Night → Node → ℕ
pairs_read N v = unions (λ k. both_of (its_pair N v k)) v.count

-- what the node reads
unfoldable pub reads : Night → Node → ℕ
reads N v =
    if eqb v.kind a_select then attribute v.x else
    if eqb v.kind a_compare then union (attribute v.x) (attribute v.y) else
    if eqb v.kind a_join then union (attribute v.x) (attribute v.y) else
    if eqb v.kind an_aggregate then union v.set (attribute v.x) else
    if eqb v.kind a_count then v.set else
    if eqb v.kind a_function then v.set else
    if eqb v.kind a_join_on_pairs then pairs_read N v else
    0

-- the sets that it reads together, each of which is all clear or all sealed: all that kinds 3, 5 and 8 read; each pair of kind 9
unfoldable pub read_together : Night → Node → List ℕ
read_together N v =
    if eqb v.kind a_compare then reads N v ∷ [] else
    if eqb v.kind a_join then reads N v ∷ [] else
    if eqb v.kind a_function then reads N v ∷ [] else
    if eqb v.kind a_join_on_pairs then each v.count (λ k. both_of (its_pair N v k)) else
    []

-- what is visible after the node, where `left` and `right` are visible in its operands
unfoldable pub visible_after : Node → ℕ → ℕ → ℕ
visible_after v left right =
    if eqb v.kind a_leaf then v.set else
    if eqb v.kind a_project then v.set else
    if eqb v.kind a_select then left else
    if eqb v.kind a_compare then left else
    if eqb v.kind a_product then union left right else
    if eqb v.kind a_join then union left right else
    if eqb v.kind an_aggregate then union v.set (attribute v.x) else
    if eqb v.kind a_count then v.set else
    if eqb v.kind a_function then union (minus left v.set) (attribute v.x) else
    if eqb v.kind a_join_on_pairs then union left right else
    0

-- the same of node i, from what is visible after the nodes before it
unfoldable pub visible_step : Night → List ℕ → ℕ → ℕ
visible_step N before i = visible_after (node_of N i) (get_or before (node_of N i).left 0) (get_or before (node_of N i).right 0)

-- what is visible after each node, worked out upwards
unfoldable pub visibles : Night → List ℕ
visibles N = upwards (visible_step N) N.header.nodes

-- what is visible after node i
abbrev pub visible : Night → ℕ → ℕ
visible N i = get_or (visibles N) i 0

-- node number c is an operand of the node
unfoldable pub is_child : Node → ℕ → Bool
is_child v c = any_of ((if uses_left v.kind then eqb v.left c else false) ∷ (if uses_right v.kind then eqb v.right c else false) ∷ [])

-- node number c is an operand of a node before i
unfoldable pub taken : Night → ℕ → ℕ → Bool
taken N i c = somewhere (λ j. is_child (node_of N j) c) i
