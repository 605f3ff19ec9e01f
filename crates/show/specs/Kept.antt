-- Whether a room kept what stood in it.
use Rattle.std.specs.Prelude.{ℕ, Bool, List, drop}
use Rattle.std.specs.List.{list_all}

-- from this place on, every place holds the value
abbrev pub kept : {A : Type 0} → (A → A → Bool) → A → List A → ℕ → Bool
kept eq value room from = list_all (λ found. eq found value) (drop from room)
