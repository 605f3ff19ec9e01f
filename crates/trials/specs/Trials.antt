-- Document 01's refusals 1 to 11 as one ordered list of trials, each with its number and its place.
use Rattle.std.specs.Prelude.{ℕ, ◌+◌, ◌-◌, ◌*◌, ◌≡◌, Bool, false, not, List, [], ◌∷◌, ◌++◌, eqb, ltb, length, get_or, if◌then◌else◌}
use Rattle.laws.specs.Choose.{any_of}
use Rattle.laws.specs.First.{somewhere}
use Rattle.laws.specs.Trials.{Trial, trial, Says, answers, verdict, rows}
use Rattle.sets.specs.Sets.{unions}
use Rattle.night.specs.declared.Header.{Header}
use Rattle.night.specs.declared.Node.{Node}
use Rattle.night.specs.Versions.{known, header_length}
use Rattle.night.specs.Night.{Night, relation_of, grant_of, node_of, step_price, link_price}
use Rattle.night.specs.Kinds.{visible, taken}
use Rattle.night.specs.Views.{is_for_on, view_of}
use Rattle.night.specs.Promised.{Promised, OwnersSee}
use Rattle.trials.specs.Rules.{counts_bad, relation_bad, left_over, grant_bad, owner_bad, shape_bad, leaf_bad, step_bad, pairs_bad, needed_bad, most_for_step, most_for_link}
use Rattle.format.specs.Layout.{file_length, header_of, night_of}
use Rattle.trials.specs.declared.Section.{Section}
use Rattle.trials.specs.declared.Section.TheVariants.{Relations, Grants, Owners, Nodes, Parents, Prices}

-- 1: fewer than 3 bytes, or not the mark `AXP`
unfoldable pub not_marked : List ℕ → Bool
not_marked s = any_of (ltb (length s) 3 ∷ not (eqb (get_or s 0 0) 65) ∷ not (eqb (get_or s 1 0) 88) ∷ not (eqb (get_or s 2 0) 80) ∷ [])

-- 2: fewer than 5 bytes, or a version that isn't known
unfoldable pub not_versioned : List ℕ → Bool
not_versioned s = any_of (ltb (length s) 5 ∷ not (known (header_of s).version) ∷ [])

-- 1, 2, 3 for a header cut short, 4, and then 3 for a length other than the counts give
unfoldable pub header_trials : List ℕ → List Trial
header_trials s =
    trial (not_marked s) 1 0
    ∷ trial (not_versioned s) 2 0
    ∷ trial (ltb (length s) (header_length (header_of s).version)) 3 0
    ∷ trial (counts_bad (header_of s)) 4 0
    ∷ trial (not (eqb (length s) (file_length (header_of s)))) 3 0
    ∷ []

-- the attributes that the relations before i have
unfoldable pub taken_before : Night → ℕ → ℕ
taken_before N i = unions (λ j. (relation_of N j).set) i

-- an earlier grant for the same pair of relation and subject shares a day with it
unfoldable pub pair_seen : Night → ℕ → Bool
pair_seen N i =
    somewhere (λ j. is_for_on (grant_of N j) (grant_of N i).relation (grant_of N i).subject (grant_of N i).first (grant_of N i).last) i

-- the node is a leaf of relation r
unfoldable pub is_leaf_of : Node → ℕ → Bool
is_leaf_of v r = if eqb v.kind 0 then eqb v.x r else false

-- an earlier leaf has taken relation r
unfoldable pub leaf_before : Night → ℕ → ℕ → Bool
leaf_before N i r = somewhere (λ j. is_leaf_of (node_of N j) r) i

-- 9: attributes or relation of node i break the kinds' rules
unfoldable pub attributes_bad : Night → ℕ → Bool
attributes_bad N i =
    if eqb (node_of N i).kind 0
    then leaf_bad (node_of N i) N.header (leaf_before N i (node_of N i).x) (relation_of N (node_of N i).x).set
    else any_of
    (step_bad (node_of N i) (visible N (node_of N i).left) (visible N (node_of N i).right)
    ∷ pairs_bad N (node_of N i) (visible N (node_of N i).left) (visible N (node_of N i).right)
    ∷ [])

-- the prices in row i, counted with the rows of step prices first and those of link prices after them
unfoldable pub price_in : Night → ℕ → ℕ → ℕ
price_in N i p = if ltb i N.header.nodes then step_price N i p else link_price N (i - N.header.nodes) p

-- 11: the most that such a price may be
unfoldable pub most_in : Night → ℕ → ℕ → ℕ
most_in N i p = if ltb i N.header.nodes then most_for_step (node_of N i).kind else most_for_link (i - N.header.nodes) p

-- how many records a section has; every node but the last is asked for its parent
unfoldable pub count_in : Header → Section → ℕ
count_in h Relations = h.relations
count_in h Grants = h.grants
count_in h Owners = h.relations
count_in h Nodes = h.nodes
count_in h Parents = h.nodes - 1
count_in h Prices = h.nodes + h.subjects

-- the trials of record i of a section
unfoldable pub trials_of : Night → Section → ℕ → List Trial
trials_of N Relations i = trial (relation_bad N.header (taken_before N i) (relation_of N i)) 5 i ∷ []
trials_of N Grants i =
    trial (grant_bad N.header (relation_of N (grant_of N i).relation).set (grant_of N i)) 6 i
    ∷ trial (pair_seen N i) 6 i
    ∷ []
trials_of N Owners i = trial (owner_bad (relation_of N i) (view_of N (relation_of N i).owner i).clear) 7 i ∷ []
trials_of N Nodes i =
    trial (shape_bad N.header (node_of N i) i (taken N i (node_of N i).left) (taken N i (node_of N i).right)) 8 i
    ∷ trial (attributes_bad N i) 9 i
    ∷ trial (needed_bad N (node_of N i)) 10 i
    ∷ []
trials_of N Parents i = trial (not (taken N N.header.nodes i)) 8 i ∷ []
trials_of N Prices i = rows N.header.subjects (λ p. trial (ltb (most_in N i p) (price_in N i p)) 11 (i * N.header.subjects + p) ∷ [])

-- the trials of a whole section, its records in order
unfoldable pub section : Night → Section → List Trial
section N records = rows (count_in N.header records) (trials_of N records)

-- 5, after all relations: attributes left over
abbrev pub left_trials : Night → List Trial
left_trials N = trial (left_over N.header (taken_before N N.header.relations)) 5 N.header.relations ∷ []

-- relations, attributes left over, grants, owners' views
unfoldable pub record_trials : Night → List Trial
record_trials N = section N Relations ++ (left_trials N ++ (section N Grants ++ section N Owners))

-- nodes, nodes without parent, prices
unfoldable pub tree_trials : Night → List Trial
tree_trials N = section N Nodes ++ (section N Parents ++ section N Prices)

-- all of them
unfoldable pub trials : List ℕ → List Trial
trials s = header_trials s ++ (record_trials (night_of s) ++ tree_trials (night_of s))

-- the verdict of a file's trials
unfoldable pub check_of : List ℕ → Says Header
check_of s = verdict (trials s) (header_of s)

-- every accepted list of bytes has the promised facts
abbrev pub AcceptedPromises : Type 0
AcceptedPromises = (s : List ℕ) (h : Header) → check_of s ≡ answers h → Promised (night_of s)

-- and its owners see their relations in clear, on the night's day
abbrev pub AcceptedOwners : Type 0
AcceptedOwners = (s : List ℕ) (h : Header) → check_of s ≡ answers h → OwnersSee (night_of s)
