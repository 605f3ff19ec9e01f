-- What a run of stores leaves in a room.
use Rattle.std.specs.Prelude.{ℕ, ◌≡◌, List}
use Rattle.std.proofs.lemmas.List.Edits.{sets}

-- these bytes stand in the room from `at` on, one behind the other, and all else is as it was
pub record Stored (before after : List ℕ) (at : ℕ) (xs : List ℕ) : Type 0 where
  pub all : after ≡ sets before at xs
