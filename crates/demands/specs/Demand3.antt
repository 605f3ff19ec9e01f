-- Demand 3: for every file that passes 1 to 11 and 17 and every choice with the owners at the leaves, some openings and sealings run clean exactly
-- when each chosen subject is a candidate; and then the plan that is built runs clean, under the keys that are given out. In a version with a user the
-- run ends with the delivery, and 17 is asked; version 1 has neither.
use Rattle.std.specs.Prelude.{ℕ, ◌+◌, ◌*◌, ◌<◌, ◌≡◌, List, ◌↔◌, Result, Ok, get_or}
use Rattle.laws.specs.Trials.{answers}
use Rattle.sets.specs.Sets.{In}
use Rattle.night.specs.declared.Header.{Header}
use Rattle.night.specs.declared.refusals.Refusal.{Refusal}
use Rattle.night.specs.Refusals.{said}
use Rattle.night.specs.Night.{Night, node_of}
use Rattle.format.specs.Layout.{night_of}
use Rattle.model.specs.Choice.{Choice}
use Rattle.run.specs.Keys.{Plan}
use Rattle.model.specs.Plan.{built, in_turn, keys_room}
use Rattle.run.specs.Run.{Clean, key_of, holders}
use Rattle.model.specs.Demand.{Assigned}
use Rattle.planning.specs.declared.CheapestPlan.{CheapestPlan}
use Rattle.verdicts.specs.Refusals.{Rooms, choosing_of}
use Rattle.planning.specs.Answers.{candidates_of, CheapestSays, OfferedSays}

-- each step's subject is a member of the set that `candidates` promises
abbrev pub EachCandidate : List ℕ → Choice → Type 0
EachCandidate s c =
    (i set : ℕ) → i < (night_of s).header.nodes → ((node_of (night_of s) i).kind ≡ 0 → ⊥) → candidates_of s i ≡ answers set
    → In (c i) set

-- the names and holders that a plan is given out with are those of its run
abbrev pub RunKeys : Night → Plan → Type 0
RunKeys N p = keys_room N p ≡ in_turn (key_of N p) (holders N p) N.header.attributes

abbrev pub Demand3 : Type 0
Demand3 =
    (s : List ℕ) (h : Header) → choosing_of s ≡ answers h → (c : Choice) → Assigned (night_of s) c
    → (((opens : ℕ → ℕ) × (seals : ℕ → ℕ) × Clean (night_of s) (record { subject = c; opens = opens; seals = seals })) ↔ EachCandidate s c)
    × (EachCandidate s c
    → Clean (night_of s) (built (night_of s) c)
    × RunKeys (night_of s) (built (night_of s) c))

-- the first part with the very sets that `candidates` answers
abbrev pub ByAnswers : Type 0
ByAnswers =
    (s : List ℕ) (h : Header) → choosing_of s ≡ answers h → (c : Choice) → Assigned (night_of s) c
    → (answer : ℕ → Result ℕ Refusal) → ((i : ℕ) → i < (night_of s).header.nodes → said (answer i) ≡ candidates_of s i)
    → ((opens : ℕ → ℕ) × (seals : ℕ → ℕ) × Clean (night_of s) (record { subject = c; opens = opens; seals = seals }))
    ↔ ((i set : ℕ) → i < (night_of s).header.nodes → ((node_of (night_of s) i).kind ≡ 0 → ⊥) → answer i ≡ Ok set → In (c i) set)

-- the plan that stands in a room, opens and seals in turn, for the subjects in a list
abbrev pub plan_in : List ℕ → List ℕ → Plan
plan_in subjects plan = record { subject = λ i. get_or subjects i 0; opens = λ i. get_or plan (2 * i) 0; seals = λ i. get_or plan (2 * i + 1) 0 }

-- it runs clean, and names and holders in the keys' room are the run's
pub record RunsWith (s subjects : List ℕ) (after : Rooms) : Type 0 where
  pub clean : Clean (night_of s) (plan_in subjects after.plan)
  pub names : (k : ℕ) → k < (night_of s).header.attributes → get_or after.keys (2 * k) 0 ≡ key_of (night_of s) (plan_in subjects after.plan) k
  pub holding : (k : ℕ) → k < (night_of s).header.attributes → get_or after.keys (2 * k + 1) 0 ≡ holders (night_of s) (plan_in subjects after.plan) k

-- whenever `cheapest` answers, what stands in the rooms runs so
abbrev pub CheapestRuns : Type 0
CheapestRuns =
    (s : List ℕ) (before after : Rooms) (answer : CheapestPlan) → CheapestSays s before after (Ok answer)
    → RunsWith s after.choice after

-- whenever `offered` answers, too
abbrev pub OfferedRuns : Type 0
OfferedRuns = (s offer : List ℕ) (before after : Rooms) (total : ℕ) → OfferedSays s offer before after (Ok total) → RunsWith s offer after
