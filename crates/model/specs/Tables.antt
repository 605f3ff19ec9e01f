-- The profile of each node's table, worked out upwards over least views.
use Rattle.std.specs.Prelude.{ℕ, ◌<◌, ◌≡◌, true, ◌⊎◌, List, [], ◌∷◌, eqb, get_or, if◌then◌else◌}
use Rattle.laws.specs.Upwards.{upwards}
use Rattle.sets.specs.Sets.{In, Within, union, meet, minus}
use Rattle.night.specs.declared.Node.{Node}
use Rattle.night.specs.Night.{Night, node_of}
use Rattle.night.specs.Kinds.{a_leaf, a_select, an_aggregate, a_count, uses_left, uses_right, attribute, read_together, visible_after}
use Rattle.night.specs.Promised.{Promised}
use Rattle.model.specs.declared.Table.{Table}
use Rattle.model.specs.Ties.{untied, tie, merged, Classes}

-- no columns and no past
abbrev pub blank : Table
blank = record { clear = 0; sealed = 0; tested = 0; hidden = 0; tied = untied }

-- all that is visible
abbrev pub shown : Table → ℕ
shown t = union t.clear t.sealed

-- the least view of an operand: the needed attributes that are visible in it are clear, its other visible ones sealed
unfoldable pub least_view : ℕ → Table → Table
least_view needed t =
    record {
      clear = meet needed (shown t);
      sealed = minus (shown t) needed;
      tested = t.tested;
      hidden = t.hidden;
      tied = t.tied;
    }

-- what the step adds to the implicit part: kind 2 its x, kinds 6 and 7 each attribute of their set
unfoldable pub tests : Node → ℕ
tests v =
    if eqb v.kind a_select then attribute v.x else
    if eqb v.kind an_aggregate then v.set else
    if eqb v.kind a_count then v.set else
    0

-- the sets that the step ties: x and y of kinds 3 and 5, the set of kind 8, each pair of kind 9
unfoldable pub ties : Night → Node → List ℕ
ties N v = read_together N v

-- several sets tied one after the other
abbrev pub tie_all : List ℕ → List ℕ → List ℕ
tie_all t [] = t
tie_all t (s ∷ ss) = tie_all (tie t s) ss

-- two operands' parts joined
unfoldable pub joined : Table → Table → Table
joined t u =
    record {
      clear = union t.clear u.clear;
      sealed = union t.sealed u.sealed;
      tested = union t.tested u.tested;
      hidden = union t.hidden u.hidden;
      tied = merged t.tied u.tied 64;
    }

-- a step's result, where t is its operands' parts joined and `after` is visible after it: each attribute keeps its form; what is tested
-- joins the implicit part of the form it has; what is tied is tied. Implicit and tied parts are never removed
unfoldable pub result : Night → Node → ℕ → Table → Table
result N v after t =
    record {
      clear = meet t.clear after;
      sealed = meet t.sealed after;
      tested = union t.tested (meet (tests v) t.clear);
      hidden = union t.hidden (meet (tests v) t.sealed);
      tied = tie_all t.tied (ties N v);
    }

-- a leaf's table: its set in clear
unfoldable pub leaf_table : Node → Table
leaf_table v = record { clear = v.set; sealed = 0; tested = 0; hidden = 0; tied = untied }

-- a step's table over its operands' tables l and r: its result over their least views
unfoldable pub step_table : Night → Node → Table → Table → Table
step_table N v l r =
    result N v (visible_after v (shown l) (shown r))
    (if uses_right v.kind then joined (least_view v.needed l) (least_view v.needed r) else least_view v.needed l)

-- a user function over {a} ties {a}, whatever its operand shows and ties: a's tied set is {a} with what a was tied with before
abbrev pub FunctionTies : Type 0
FunctionTies =
    (N : Night) (v : Node) (a : ℕ) (l r : Table) → a < 64 → v.kind ≡ 8 → v.set ≡ attribute a
    → get_or (step_table N v l r).tied a 0 ≡ union (attribute a) (get_or l.tied a 0)

-- node i's table from those of the nodes before it; an operand that is not lower counts as blank
unfoldable pub table_step : Night → List Table → ℕ → Table
table_step N before i =
    if eqb (node_of N i).kind a_leaf then leaf_table (node_of N i) else
    step_table N (node_of N i) (get_or before (node_of N i).left blank) (get_or before (node_of N i).right blank)

-- the tables of all nodes, worked out upwards
unfoldable pub tables : Night → List Table
tables N = upwards (table_step N) N.header.nodes

-- node i's table
unfoldable pub table_of : Night → ℕ → Table
table_of N i = get_or (tables N) i blank

-- a set is one of a list
abbrev pub Listed : ℕ → List ℕ → Type 0
Listed m [] = ⊥
Listed m (s ∷ ss) = (m ≡ s) ⊎ Listed m ss

-- a set was tied by node i or by a node under it
pub data TiedAt (N : Night) : ℕ → ℕ → Type 0 where
  here : {i m : ℕ} → Listed m (ties N (node_of N i)) → TiedAt N i m
  under_left : {i m : ℕ} → uses_left (node_of N i).kind ≡ true → TiedAt N (node_of N i).left m → TiedAt N i m
  under_right : {i m : ℕ} → uses_right (node_of N i).kind ≡ true → TiedAt N (node_of N i).right m → TiedAt N i m

-- two attributes stand in one tied set of a node's table exactly when a chain of the ties made so far links them
abbrev pub TiedMeaning : Type 0
TiedMeaning = (N : Night) → Promised N → (i : ℕ) → i < N.header.nodes → Classes (TiedAt N i) (table_of N i).tied

-- nothing of the implicit and tied parts of the first table is missing in the second
pub record Keeps (t u : Table) : Type 0 where
  pub tested : Within t.tested u.tested
  pub hidden : Within t.hidden u.hidden
  pub tied : (j k : ℕ) → In k (get_or t.tied j 0) → In k (get_or u.tied j 0)

-- implicit and tied parts are never removed: a step's table keeps those of its operands
abbrev pub NeverRemoved : Type 0
NeverRemoved =
    (N : Night) → Promised N → (i : ℕ) → i < N.header.nodes
    → (uses_left (node_of N i).kind ≡ true → Keeps (table_of N (node_of N i).left) (table_of N i))
    × (uses_right (node_of N i).kind ≡ true → Keeps (table_of N (node_of N i).right) (table_of N i))
