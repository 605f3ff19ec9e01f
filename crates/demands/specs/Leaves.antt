-- Source document 004 has a theorem that attributes never leave a profile. They do: here one is projected away unused. Nothing rests on that theorem.
use Rattle.std.specs.Prelude.{◌≡◌, true, false, get_or}
use Rattle.sets.specs.Sets.{member, union}
use Rattle.night.specs.declared.Node.{Node}
use Rattle.night.specs.Night.{Night}
use Rattle.model.specs.declared.Table.{Table}
use Rattle.model.specs.Ties.{untied}
use Rattle.model.specs.Tables.{blank, step_table}

-- a table with attributes 0 and 1, and its projection on attribute 0
abbrev pub wide : Table
wide = record { clear = 3; sealed = 0; tested = 0; hidden = 0; tied = untied }

abbrev pub project : Node
project = record { kind = 1; left = 0; right = 255; x = 255; y = 255; spare1 = 0; spare2 = 0; spare3 = 0; set = 1; needed = 0; size = 0; first = 0; count = 0 }

abbrev pub narrow : Night → Table
narrow N = step_table N project wide blank

-- attribute 1 is in the first profile, and in no part of the second
pub record Leaves : Type 0 where
  pub there : member wide.clear 1 ≡ true
  pub not_visible : (N : Night) → member (union (narrow N).clear (narrow N).sealed) 1 ≡ false
  pub not_implicit : (N : Night) → member (union (narrow N).tested (narrow N).hidden) 1 ≡ false
  pub not_tied : (N : Night) → get_or (narrow N).tied 1 0 ≡ 0
