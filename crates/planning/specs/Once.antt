-- Any two answers that the promise of an entry with rooms admits are the same, and so are the rooms that they leave.
use Rattle.std.specs.Prelude.{ℕ, ◌≡◌, List, Result}
use Rattle.night.specs.declared.refusals.Refusal.{Refusal}
use Rattle.planning.specs.Answers.{CheapestSays, OfferedSays}
use Rattle.planning.specs.declared.CheapestPlan.{CheapestPlan}
use Rattle.verdicts.specs.Refusals.{Rooms}

-- of `cheapest`
abbrev pub CheapestPlanOnce : Type 0
CheapestPlanOnce =
    (s : List ℕ) (before x y : Rooms) (a b : Result CheapestPlan Refusal) → CheapestSays s before x a → CheapestSays s before y b
    → (a ≡ b) × (x ≡ y)

-- of `offered`
abbrev pub OfferedPlanOnce : Type 0
OfferedPlanOnce =
    (s offer : List ℕ) (before x y : Rooms) (a b : Result ℕ Refusal) → OfferedSays s offer before x a → OfferedSays s offer before y b
    → (a ≡ b) × (x ≡ y)
