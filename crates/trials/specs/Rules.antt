-- When a record of the file breaks a rule of document 01, said of its values; what it takes from other records is handed in, a node's pairs with the night.
use Rattle.std.specs.Prelude.{ℕ, ◌+◌, Bool, true, false, not, [], ◌∷◌, map, eqb, ltb, if◌then◌else◌}
use Rattle.laws.specs.Choose.{any_of}
use Rattle.laws.specs.First.{somewhere}
use Rattle.sets.specs.Sets.{member, within, apart, below}
use Rattle.night.specs.declared.Header.{Header}
use Rattle.night.specs.declared.Relation.{Relation}
use Rattle.night.specs.declared.Grant.{Grant}
use Rattle.night.specs.declared.Node.{Node}
use Rattle.night.specs.declared.Pair.{Pair}
use Rattle.night.specs.Versions.{delivers, last_kind}
use Rattle.night.specs.Night.{Night}
use Rattle.night.specs.Kinds.{a_leaf, a_compare, a_join, an_aggregate, a_function, uses_left, uses_right, uses_x, uses_y, uses_set, uses_pairs, its_pair, reads, read_together}
use Rattle.night.specs.Views.{any_subject}

-- 4: in a version with a user, its number is no subject's
unfoldable pub user_bad : Header → Bool
user_bad h = if delivers h.version then not (ltb h.user h.subjects) else false

-- 4: a count outside its limits, or the user not below s
unfoldable pub counts_bad : Header → Bool
counts_bad h =
    any_of
    (ltb h.subjects 1 ∷ ltb 16 h.subjects ∷ ltb h.relations 1 ∷ ltb 16 h.relations ∷ ltb h.attributes 1 ∷ ltb 64 h.attributes
    ∷ ltb h.nodes 1 ∷ ltb 64 h.nodes ∷ ltb 272 h.grants ∷ user_bad h ∷ [])

-- 5: a relation's owner is no subject, its set is empty, has an attribute not below a, or one that an earlier relation has taken
unfoldable pub relation_bad : Header → ℕ → Relation → Bool
relation_bad h taken_before v =
    any_of
    (not (ltb v.owner h.subjects) ∷ eqb v.set 0 ∷ not (within v.set (below 64 h.attributes)) ∷ not (apart v.set taken_before) ∷ [])

-- 5, after all relations: attributes left over
unfoldable pub left_over : Header → ℕ → Bool
left_over h takenByAll = not (eqb takenByAll (below 64 h.attributes))

-- a subject's number that is there, or any
unfoldable pub subject_there : Header → ℕ → Bool
subject_there h p = any_of (ltb p h.subjects ∷ eqb p any_subject ∷ [])

-- 6: a grant's relation or subject is not there, its first day is after its last, or its sets are not disjoint or not within the relation
unfoldable pub grant_bad : Header → ℕ → Grant → Bool
grant_bad h relationSet v =
    any_of
    (not (ltb v.relation h.relations) ∷ ltb v.last v.first ∷ not (subject_there h v.subject)
    ∷ not (apart v.clear v.sealed) ∷ not (within v.clear relationSet)
    ∷ not (within v.sealed relationSet) ∷ [])

-- 7: an owner's view of its own relation isn't all clear
unfoldable pub owner_bad : Relation → ℕ → Bool
owner_bad v clear = not (within v.set clear)

-- 8: a child's number is not lower, or an earlier node has taken it
unfoldable pub child_bad : ℕ → Bool → ℕ → Bool
child_bad i taken_before c = any_of (not (ltb c i) ∷ taken_before ∷ [])

-- 8: the left child, or an unused left other than 255
unfoldable pub left_bad : Node → ℕ → Bool → Bool
left_bad v i leftTaken = if uses_left v.kind then child_bad i leftTaken v.left else not (eqb v.left 255)

-- 8: the right child, which differs from the left, or an unused right other than 255
unfoldable pub right_bad : Node → ℕ → Bool → Bool
right_bad v i rightTaken =
    if uses_right v.kind then any_of (eqb v.right v.left ∷ child_bad i rightTaken v.right ∷ []) else not (eqb v.right 255)

-- 8: an unused x or y other than 255, or an unused set other than 0
unfoldable pub unused_bad : Node → Bool
unused_bad v =
    any_of
    ((if uses_x v.kind then false else not (eqb v.x 255)) ∷ (if uses_y v.kind then false else not (eqb v.y 255))
    ∷ (if uses_set v.kind then false else not (eqb v.set 0)) ∷ [])

-- 8: the pairs that kind 9 names are not 1 to 8, or go past the list; another kind's first or count is not 0
unfoldable pub names_bad : Header → Node → Bool
names_bad h v =
    if uses_pairs v.kind
    then any_of (ltb v.count 1 ∷ ltb 8 v.count ∷ ltb h.pairs (v.first + v.count) ∷ [])
    else any_of (not (eqb v.first 0) ∷ not (eqb v.count 0) ∷ [])

-- 8: kind, which the version must have, children, unused fields, pairs named, zero bytes or size
unfoldable pub shape_bad : Header → Node → ℕ → Bool → Bool → Bool
shape_bad h v i leftTaken rightTaken =
    any_of
    (ltb (last_kind h.version) v.kind ∷ left_bad v i leftTaken ∷ right_bad v i rightTaken ∷ unused_bad v ∷ names_bad h v
    ∷ not (eqb v.spare1 0) ∷ not (eqb v.spare2 0) ∷ not (eqb v.spare3 0) ∷ ltb 1000000 v.size ∷ [])

-- 9: a leaf's relation is not there or an earlier leaf has taken it, or its set is empty or not within the relation
unfoldable pub leaf_bad : Node → Header → Bool → ℕ → Bool
leaf_bad v h relationTaken relationSet =
    any_of (not (ltb v.x h.relations) ∷ relationTaken ∷ eqb v.set 0 ∷ not (within v.set relationSet) ∷ [])

-- 9: a used x is not visible in the left operand
unfoldable pub x_bad : Node → ℕ → Bool
x_bad v left = if uses_x v.kind then not (member left v.x) else false

-- 9: a used y is not visible on its side: the left operand in kind 3, the right one in kind 5
unfoldable pub y_bad : Node → ℕ → ℕ → Bool
y_bad v left right =
    if eqb v.kind a_compare then not (member left v.y) else
    if eqb v.kind a_join then not (member right v.y) else
    false

-- 9: a used set is not visible, or is empty other than in kind 6
unfoldable pub set_bad : Node → ℕ → Bool
set_bad v left =
    if uses_set v.kind then any_of (not (within v.set left) ∷ (if eqb v.kind an_aggregate then false else eqb v.set 0) ∷ []) else false

-- 9: in kind 6 x is in the set, or in kind 8 it isn't
unfoldable pub place_bad : Node → Bool
place_bad v =
    if eqb v.kind an_aggregate then member v.set v.x else
    if eqb v.kind a_function then not (member v.set v.x) else
    false

-- 9: a step uses what is not visible in its operand, or its x and set do not stand as they must
unfoldable pub step_bad : Node → ℕ → ℕ → Bool
step_bad v left right = any_of (x_bad v left ∷ y_bad v left right ∷ set_bad v left ∷ place_bad v ∷ [])

-- 9: an attribute of a pair is not visible on its side
unfoldable pub pair_bad : Pair → ℕ → ℕ → Bool
pair_bad q left right = any_of (not (member left q.left) ∷ not (member right q.right) ∷ [])

-- 9: a pair that kind 9 names has such an attribute
unfoldable pub pairs_bad : Night → Node → ℕ → ℕ → Bool
pairs_bad N v left right = if uses_pairs v.kind then somewhere (λ k. pair_bad (its_pair N v k) left right) v.count else false

-- 10: some of the set is needed, and not all of it
unfoldable pub half : ℕ → ℕ → Bool
half needed together = if apart needed together then false else not (within together needed)

-- 10: needed attributes outside those read, or half of what is read together
unfoldable pub needed_bad : Night → Node → Bool
needed_bad N v = if within v.needed (reads N v) then any_of (map (half v.needed) (read_together N v)) else true

-- 11: the most that a step price may be: 0 at a leaf
unfoldable pub most_for_step : ℕ → ℕ
most_for_step kind = if eqb kind a_leaf then 0 else 1000000

-- 11: the most that a link price may be: 0 from a subject to itself
unfoldable pub most_for_link : ℕ → ℕ → ℕ
most_for_link p q = if eqb p q then 0 else 1000
