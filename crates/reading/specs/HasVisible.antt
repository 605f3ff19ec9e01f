-- What a loop over the nodes has at hand.
use Rattle.std.specs.Prelude.{ℕ, ◌≡◌, List, get_or}
use Rattle.night.specs.Night.{Night}
use Rattle.night.specs.Kinds.{visible}

-- an array that has what is visible after each node, and 0 past the last
abbrev pub HasVisible : Night → List ℕ → Type 0
HasVisible N sets = (k : ℕ) → get_or sets k 0 ≡ visible N k
