-- What the code asks of a node for 17.
use Rattle.std.specs.Prelude.{ℕ, Bool, false, not, eqb, if◌then◌else◌}
use Rattle.sets.specs.Sets.{within}
use Rattle.night.specs.declared.Node.{Node}
use Rattle.night.specs.Kinds.{a_leaf}

-- a leaf whose set is not within `clear`
unfoldable pub kept_back : Node → ℕ → Bool
kept_back v clear = if eqb v.kind a_leaf then not (within v.set clear) else false
