-- The user, through the entry.
use Rattle.std.specs.Prelude.{ℕ, ◌≡◌, true, List, Err}
use Rattle.night.specs.Versions.{delivers}
use Rattle.night.specs.declared.refusals.Reason.TheVariants.{NoCandidate}
use Rattle.format.specs.Layout.{header_of}
use Rattle.verdicts.specs.Refusals.{Rooms}
use Rattle.planning.specs.Answers.{CheapestSays}

-- in a version with a user `cheapest` never refuses with 12
abbrev pub NeverTwelve : Type 0
NeverTwelve =
    (s : List ℕ) (before after : Rooms) (place : ℕ) → delivers (header_of s).version ≡ true
    → CheapestSays s before after (Err (record { reason = NoCandidate; place = place })) → ⊥
