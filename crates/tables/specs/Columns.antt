-- A table in two parts: its columns by value, its tied sets in lent room.
use Rattle.std.specs.Prelude.{ℕ, List}
use Rattle.model.specs.declared.Table.{Table}
use Rattle.tables.specs.declared.Columns.{Columns}

-- the table that columns and tied sets are together
abbrev pub with_tied : Columns → List ℕ → Table
with_tied c tied = record { clear = c.clear; sealed = c.sealed; tested = c.tested; hidden = c.hidden; tied = tied }

-- the columns of a table
abbrev pub columns_of : Table → Columns
columns_of t = record { clear = t.clear; sealed = t.sealed; tested = t.tested; hidden = t.hidden }
