-- Which number is which, by computation.
use mathlib.Core.Path.{refl}
use Rattle.tollburrow.specs.Codes.{StandingNumbers, PlanNumbers}

pub standing_numbers : StandingNumbers
standing_numbers = record { table = refl; condition = refl; set = refl; candidate = (refl, refl, refl) }

pub plan_numbers : PlanNumbers
plan_numbers = record { total = refl; steps = refl; cost = refl; kept = (refl, refl, refl) }
