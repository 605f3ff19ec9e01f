-- What the walk holds at a node, and what it leaves in the rooms lent to it.
use Rattle.std.specs.Prelude.{ℕ, ◌≡◌, List, [], ◌∷◌, length, get_or, set, if◌then◌else◌}
use Rattle.sets.specs.Sets.{union, minus, unions}
use Rattle.night.specs.declared.Node.{Node}
use Rattle.night.specs.Night.{Night, node_of}
use Rattle.night.specs.Kinds.{uses_right}
use Rattle.night.specs.Promised.{Promised}
use Rattle.model.specs.declared.Table.{Table}
use Rattle.model.specs.Ties.{untied, tie, gathered}
use Rattle.model.specs.Tables.{blank, least_view, joined, step_table, ties, tie_all, table_of}
use Rattle.model.specs.OneTest.{out_of}
use Rattle.model.specs.Dp.{subjects_of}
use Rattle.tables.specs.declared.Columns.{Columns}
use Rattle.tables.specs.Columns.{with_tied, columns_of}
use Rattle.eligible.specs.declared.walk.Walked.{Walked}
use Rattle.eligible.specs.Asked.{out_among, pass_among, Sees}

-- those whom condition 3 puts out after sets are tied one after the other, where it put `out` out before
abbrev pub out_tied : ℕ → ℕ → List ℕ → List ℕ → List ℕ → List ℕ → ℕ
out_tied out s clear sealed tied [] = out
out_tied out s clear sealed tied (S ∷ Ss) = out_tied (union out (out_among s clear sealed (gathered tied S 64))) s clear sealed (tie tied S) Ss

-- after the step: with two operands every tied set is asked
abbrev pub out_after : Night → Node → ℕ → ℕ → List ℕ → List ℕ → List ℕ → ℕ
out_after N v out s clear sealed tied =
    if uses_right v.kind
    then unions (λ k. out_among s clear sealed (get_or (tie_all tied (ties N v)) k 0)) 64
    else out_tied out s clear sealed tied (ties N v)

-- what a step has of its operands' columns: their least views, joined where there are two
abbrev pub taken_columns : Node → Columns → Columns → Table
taken_columns v l r =
    if uses_right v.kind
    then joined (least_view v.needed (with_tied l untied)) (least_view v.needed (with_tied r untied))
    else least_view v.needed (with_tied l untied)

-- node i's table and its subjects from what its operands have: l is the left one's columns with those whom condition 3 on it puts out, r the right one's
-- columns
pub record Closes (N : Night) (s i : ℕ) (v : Node) (l : Walked) (r : Columns) (clear sealed tied tied' seals seals' sets sets' : List ℕ)
    (made : Walked) : Type 0 where
  pub columns : made.columns ≡ columns_of (step_table N v (with_tied l.columns untied) (with_tied r untied))
  pub put_out : made.out ≡ out_after N v l.out s clear sealed tied
  pub tied_after : tied' ≡ tie_all tied (ties N v)
  pub in-clear : seals' ≡ set seals i made.columns.clear
  pub subjects : sets' ≡ set sets i (minus (pass_among s clear sealed (taken_columns v l.columns r)) made.out)

-- what a walk leaves at node i
abbrev pub walked_of : Night → ℕ → Walked
walked_of N i = record { columns = columns_of (table_of N i); out = out_of N (table_of N i).tied }

-- the right operand's table, blank where there is none
abbrev pub right_of : Night → ℕ → Table
right_of N i = if uses_right (node_of N i).kind then table_of N (node_of N i).right else blank

-- what each node has in clear
abbrev pub clear_at : Night → ℕ → ℕ
clear_at N i = (table_of N i).clear

-- a room of 64 entries: what was right is right still, and so is all that was reached
pub record Fills (right : ℕ → ℕ) (Reached : ℕ → Type 0) (before after : List ℕ) : Type 0 where
  pub long : length after ≡ 64
  pub kept : (k : ℕ) → get_or before k 0 ≡ right k → get_or after k 0 ≡ right k
  pub filled : (k : ℕ) → Reached k → get_or after k 0 ≡ right k

-- a walk begins: a checked file, what its subjects see, rooms of 64 entries
pub record Walking (N : Night) (clear sealed seals sets : List ℕ) : Type 0 where
  pub sound : Promised N
  pub sees : Sees N clear sealed
  pub seals_long : length seals ≡ 64
  pub sets_long : length sets ≡ 64

-- it ends: both rooms are filled for the nodes that it reached
pub record Leaves (N : Night) (Reached : ℕ → Type 0) (seals seals' sets sets' : List ℕ) : Type 0 where
  pub in-clear : Fills (clear_at N) Reached seals seals'
  pub subjects : Fills (subjects_of N) Reached sets sets'
