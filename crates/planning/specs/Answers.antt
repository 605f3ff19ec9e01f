-- What each case of an answer says: document 01's number and place, or the values.
use Rattle.std.specs.Prelude.{ℕ, ◌<◌, ◌≤◌, ◌*◌, ◌≡◌, List, ◌++◌, ◌↔◌, ◌⊎◌, Result, Ok, Err, get_or, drop}
use Rattle.laws.specs.Trials.{Says, answers, refuses, verdict}
use Rattle.laws.specs.Upwards.{each}
use Rattle.sets.specs.Sets.{In}
use Rattle.night.specs.declared.Header.{Header}
use Rattle.night.specs.declared.refusals.Refusal.{Refusal}
use Rattle.night.specs.Refusals.{number_of, said}
use Rattle.night.specs.Night.{Night, node_of}
use Rattle.night.specs.Views.{clear_of, sealed_of}
use Rattle.format.specs.Layout.{night_of}
use Rattle.model.specs.Candidates.{Candidate, candidate_set}
use Rattle.model.specs.Choice.{Choice, Least, total, steps}
use Rattle.model.specs.Plan.{built, plan_room, keys_room}
use Rattle.model.specs.Reasons.{Standing, standing}
use Rattle.verdicts.specs.Refusals.{Rooms, why_trials, cheapest_plan_trials, offered_plan_trials}
use Rattle.trials.specs.Trials.{trials}
use Rattle.planning.specs.declared.CheapestPlan.{CheapestPlan}

-- the candidates of a node, where no trial of reading fails
unfoldable pub candidates_of : List ℕ → ℕ → Says ℕ
candidates_of s i = verdict (trials s) (candidate_set (night_of s) i)

-- of every answered set: a subject is in it exactly when it is there, the node is a step, and the subject is a candidate by its view
abbrev pub CandidatesExactly : Type 0
CandidatesExactly =
    (s : List ℕ) (i set : ℕ) → candidates_of s i ≡ answers set
    → (p : ℕ) → In p set ↔ ((p < (night_of s).header.subjects) × Candidate (night_of s) i (clear_of (night_of s) p) (sealed_of (night_of s) p))

-- any two answers that say the same are the same
abbrev pub CandidatesOnce : Type 0
CandidatesOnce = (a b : Result ℕ Refusal) → said a ≡ said b → a ≡ b

-- a leaf and a number that no node has get the empty set
abbrev pub NoneElsewhere : Type 0
NoneElsewhere =
    (s : List ℕ) (i set : ℕ) → candidates_of s i ≡ answers set
    → ((night_of s).header.nodes ≤ i) ⊎ ((node_of (night_of s) i).kind ≡ 0) → set ≡ 0

-- how subject p stands to step i by its view, where no trial fails
unfoldable pub why_of : List ℕ → ℕ → ℕ → Says Standing
why_of s i p = verdict (why_trials s i p) (standing (night_of s) i (clear_of (night_of s) p) (sealed_of (night_of s) p))

-- any two answers that say the same are the same
abbrev pub WhyOnce : Type 0
WhyOnce = (a b : Result Standing Refusal) → said a ≡ said b → a ≡ b

-- plan and keys once they are written for the subjects of a choice
abbrev pub WrittenFor : Night → Header → List ℕ → List ℕ → List ℕ → List ℕ → List ℕ → Type 0
WrittenFor N h choice plan plan' keys keys' =
    (plan' ≡ plan_room N (built N (λ i. get_or choice i 0)) ++ drop (2 * h.nodes) plan)
    × (keys' ≡ keys_room N (built N (λ i. get_or choice i 0)) ++ drop (2 * h.attributes) keys)

-- the plan for a choice fills plan and keys; what lies beyond is as it was
pub record Filled (N : Night) (c : Choice) (before after : Rooms) : Type 0 where
  pub plan : after.plan ≡ plan_room N (built N c) ++ drop (2 * N.header.nodes) before.plan
  pub keys : after.keys ≡ keys_room N (built N c) ++ drop (2 * N.header.attributes) before.keys

-- the cheapest choice with its total and the steps, and all three rooms
pub record CheapestFilled (N : Night) (before after : Rooms) (total' steps' : ℕ) : Type 0 where
  pub subject : Choice
  pub least : Least N subject
  pub its_total : total' ≡ total N subject
  pub its_steps : steps' ≡ steps N
  pub choice : after.choice ≡ each N.header.nodes subject ++ drop N.header.nodes before.choice
  pub filled : Filled N subject before after

-- `cheapest`: answered where no trial fails, with the rooms filled; when refused, every room is as it was
abbrev pub CheapestSays : List ℕ → Rooms → Rooms → Result CheapestPlan Refusal → Type 0
CheapestSays s before after (Ok c) =
    (verdict (cheapest_plan_trials s before) (tt {0}) ≡ answers tt) × CheapestFilled (night_of s) before after c.total c.steps
CheapestSays s before after (Err r) =
    (verdict (cheapest_plan_trials s before) (tt {0}) ≡ refuses (number_of r.reason) r.place) × (after ≡ before)

-- `offered`: answered where no trial fails, with plan and keys filled; the room for the choice is not asked and stays
abbrev pub OfferedSays : List ℕ → List ℕ → Rooms → Rooms → Result ℕ Refusal → Type 0
OfferedSays s offer before after (Ok total') =
    (verdict (offered_plan_trials s offer before) (tt {0}) ≡ answers tt) × (total' ≡ total (night_of s) (λ i. get_or offer i 0))
    × Filled (night_of s) (λ i. get_or offer i 0) before after × (after.choice ≡ before.choice)
OfferedSays s offer before after (Err r) =
    (verdict (offered_plan_trials s offer before) (tt {0}) ≡ refuses (number_of r.reason) r.place) × (after ≡ before)
