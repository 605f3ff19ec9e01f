-- Several tests of which one is enough.
use Rattle.std.specs.Prelude.{Bool, true, false, List, [], ◌∷◌, if◌then◌else◌}

-- one of the tests holds
unfoldable pub any_of : List Bool → Bool
any_of [] = false
any_of (b ∷ bs) = if b then true else any_of bs
