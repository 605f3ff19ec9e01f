-- What is said of an accepted file on any day, and of a file of version 3 once it is written in version 4. What the entries say, 7 and 17 are of the night's day.
use Rattle.std.specs.Prelude.{ℕ, ◌<◌, ◌≡◌, List, ◌↔◌, Result}
use Rattle.laws.specs.Trials.{answers, verdict}
use Rattle.sets.specs.Sets.{In}
use Rattle.night.specs.declared.Header.{Header}
use Rattle.night.specs.declared.refusals.Refusal.{Refusal}
use Rattle.night.specs.Views.{clear_on, sealed_on}
use Rattle.night.specs.Days.{in_version, on_day, ButDays}
use Rattle.format.specs.Layout.{header_of, night_of}
use Rattle.trials.specs.Trials.{trials, check_of}
use Rattle.run.specs.Run.{Clean}
use Rattle.model.specs.Candidates.{Candidate, candidate_set}
use Rattle.model.specs.Choice.{Choice}
use Rattle.model.specs.Plan.{built}
use Rattle.model.specs.User.{UserMay}
use Rattle.model.specs.Demand.{Assigned, FromCandidates}
use Rattle.verdicts.specs.Refusals.{Rooms}
use Rattle.writes.specs.Back.{Bytes}
use Rattle.writes.specs.Days.{Headed, as_four}
use Rattle.planning.specs.declared.CheapestPlan.{CheapestPlan}
use Rattle.planning.specs.Answers.{candidates_of, why_of, CheapestSays, OfferedSays}
use Rattle.demands.specs.Demand3.{RunKeys}

-- the candidates on a day are those by what each subject sees that day, over the file's tables
abbrev pub CandidatesOnDay : Type 0
CandidatesOnDay =
    (s : List ℕ) (h : Header) → check_of s ≡ answers h → (day i p : ℕ)
    → In p (candidate_set (on_day (night_of s) day) i)
    ↔ ((p < (night_of s).header.subjects) × Candidate (night_of s) i (clear_on (night_of s) day p) (sealed_on (night_of s) day p))

-- demand 3 on a day, where a user may have the leaves' tables that day: 17 of that day is asked for, 7 of that day is not
abbrev pub Demand3OnDay : Type 0
Demand3OnDay =
    (s : List ℕ) (h : Header) → check_of s ≡ answers h → (day : ℕ) → UserMay (on_day (night_of s) day) → (c : Choice) → Assigned (night_of s) c
    → (((opens : ℕ → ℕ) × (seals : ℕ → ℕ) × Clean (on_day (night_of s) day) (record { subject = c; opens = opens; seals = seals }))
    ↔ FromCandidates (on_day (night_of s) day) c)
    × (FromCandidates (on_day (night_of s) day) c
    → Clean (on_day (night_of s) day) (built (on_day (night_of s) day) c)
    × RunKeys (on_day (night_of s) day) (built (on_day (night_of s) day) c))

-- the check, candidates, reasons and both choices say the same of both files: they refuse with the same number and place, or give the same answer and fill the
-- rooms alike (the header's values that the check answers, and where the grant records lie, are each file's own)
pub record SaidAlike (s t : List ℕ) : Type 0 where
  pub checked : verdict (trials s) (tt {0}) ≡ verdict (trials t) tt
  pub candidates : (i : ℕ) → candidates_of s i ≡ candidates_of t i
  pub why : (i p : ℕ) → why_of s i p ≡ why_of t i p
  pub cheapest : (before after : Rooms) (said : Result CheapestPlan Refusal) → CheapestSays s before after said ↔ CheapestSays t before after said
  pub offered : (offer : List ℕ) (before after : Rooms) (said : Result ℕ Refusal) → OfferedSays s offer before after said ↔ OfferedSays t offer before after said

-- of files past 1 to 4 whose nights differ in version and day alone, where every grant is in force on both days and both versions have a user and pairs alike
abbrev pub AlwaysSaid : Type 0
AlwaysSaid =
    (s t : List ℕ) (version day : ℕ) → Headed s → Headed t → ButDays (night_of s) version day
    → night_of t ≡ in_version (night_of s) version day → SaidAlike s t

-- so of a file of version 3 and one of version 4 that has the same night, each grant from day 0 to day 65535, as it is read in the former, and any day
abbrev pub ThreeAndFour : Type 0
ThreeAndFour =
    (s t : List ℕ) (day : ℕ) → Headed s → Headed t → (header_of s).version ≡ 3 → night_of t ≡ in_version (night_of s) 4 day → day < 65536 → SaidAlike s t

-- and of each file of version 3 and its values written in version 4
abbrev pub WrittenInFour : Type 0
WrittenInFour = (s : List ℕ) (day : ℕ) → Bytes s → Headed s → (header_of s).version ≡ 3 → day < 65536 → SaidAlike s (as_four day s)
