-- Demand 3 over the bytes, from the theorems over a night.
use Prim.Native.Nat.{ℕ, ◌+◌, ◌*◌, ◌<◌}
use mathlib.Core.Path.{◌≡◌, refl, sym, ap, ◌∙◌}
use mathlib.Core.Bool.{false}
use mathlib.Core.List.{List, [], ◌∷◌}
use mathlib.Core.Logic.{◌↔◌}
use lib.ListN.{get_or, drop, get_or-append}
use Rattle.std.specs.Prelude.{Ok}
use Rattle.laws.specs.Trials.{trial, answers, Passes}
use Rattle.laws.specs.Upwards.{each}
use Rattle.laws.proofs.Trials.{passed, passes_accepts, passes_append, passes_row, accepted_alike}
use Rattle.laws.proofs.Upwards.{each_at, each_length}
use Rattle.night.specs.declared.Header.{Header}
use Rattle.night.specs.Refusals.{said}
use Rattle.night.specs.Night.{Night}
use Rattle.night.specs.Promised.{Promised}
use Rattle.format.specs.Layout.{header_of, night_of}
use Rattle.trials.specs.Trials.{trials, check_of}
use Rattle.trials.proofs.Promises.{accepted_promises}
use Rattle.model.specs.Candidates.{candidate_set}
use Rattle.model.specs.Choice.{Choice, Admissible}
use Rattle.verdicts.specs.Refusals.{offer_bad, offer_trials, choice_trials, choosing_of, cheapest_trials, offered_trials, Rooms, cheapest_plan_trials, offered_plan_trials}
use Rattle.model.specs.Plan.{built, name_in, holders_in, in_turn, plan_room, keys_room}
use Rattle.run.specs.Run.{key_of, holders}
use Rattle.model.specs.Demand.{Assigned, FromCandidates}
use Rattle.model.specs.User.{UserMay}
use Rattle.verdicts.proofs.User.{choosing_accepted, passes_may}
use Rattle.model.proofs.Weight.{d_there}
use Rattle.model.proofs.Turns.{turn_same, turn_at}
use Rattle.model.proofs.SamePlan.{Alike, key_same, holders_same, clean_same}
use Rattle.model.proofs.KeysAgree.{keys_agree}
use Rattle.model.proofs.Demand.{runs_exactly, built_runs}
use Rattle.choosing.proofs.Answered.{offer_admissible}
use Rattle.planning.specs.Answers.{candidates_of, Filled}
use Rattle.planning.proofs.Answered.{candidates_once}
use Rattle.demands.specs.Demand3.{EachCandidate, Demand3, ByAnswers, plan_in, RunsWith, CheapestRuns, OfferedRuns}

-- the promised sets are the night's candidates
each_candidate : (s : List ℕ) (h : Header) → check_of s ≡ answers h → (c : Choice) → EachCandidate s c ↔ FromCandidates (night_of s) c
unfolding check_of candidates_of
each_candidate s h e c = (
  λ from i l step. from i (candidate_set (night_of s) i) l step (accepted_alike (trials s) (header_of s) h (candidate_set (night_of s) i) e),
  λ from i set l step q. rw (← (passed (trials s) (candidate_set (night_of s) i) set q).1) (from i l step),
)

-- the keys that are given out are the run's
pub run_keys : (N : Night) → Promised N → (c : Choice) → keys_room N (built N c) ≡ in_turn (key_of N (built N c)) (holders N (built N c)) N.header.attributes
unfolding keys_room
run_keys N sound c =
    turn_same (name_in N (built N c)) (holders_in N (built N c)) (key_of N (built N c)) (holders N (built N c)) N.header.attributes
    (λ k l. (keys_agree N sound (built N c) k).0) (λ k l. (keys_agree N sound (built N c) k).1)

pub demand3 : Demand3
demand3 s h e c assigned =
    let read = choosing_accepted s h e in
    let sound = accepted_promises s h read in
    let may = passes_may s h e in
    let exactly = runs_exactly (night_of s) sound may c assigned in
    let same = each_candidate s h read c in (
      (λ run. same.1 (exactly.0 run), λ from. exactly.1 (same.0 from)),
      λ from. (built_runs (night_of s) sound may c assigned (same.0 from), run_keys (night_of s) sound c),
    )

-- with the sets that are answered
pub by_answers : ByAnswers
by_answers s h e c assigned answer told =
    let exactly = (demand3 s h e c assigned).0 in (
      λ run i set l step q. exactly.0 run i set l step (sym (told i l) ∙ ap said q),
      λ from. exactly.1 (λ i set l step q. from i set l step (candidates_once (answer i) (Ok set) (told i l ∙ q))),
    )

-- what stands in the rooms
module _ (s : List ℕ) (sound : Promised (night_of s)) (may : UserMay (night_of s)) (c : Choice) (A : Admissible (night_of s) c) (subjects : List ℕ)
    (chosen : (i : ℕ) → i < (night_of s).header.nodes → c i ≡ get_or subjects i 0) (before after : Rooms) (filled : Filled (night_of s) c before after) where
  abbrev N : Night
  N = night_of s

  assigned : Assigned N c
  assigned = record { there = d_there N sound c A; owners = A.leaf }

  planned : (i : ℕ) → i < N.header.nodes → (get_or after.plan (2 * i) 0 ≡ (built N c).opens i) × (get_or after.plan (2 * i + 1) 0 ≡ (built N c).seals i)
  unfolding plan_room
  planned i l = rw filled.plan (turn_at (built N c).opens (built N c).seals N.header.nodes i (drop (2 * N.header.nodes) before.plan) l)

  keyed : (k : ℕ) → k < N.header.attributes → (get_or after.keys (2 * k) 0 ≡ name_in N (built N c) k) × (get_or after.keys (2 * k + 1) 0 ≡ holders_in N (built N c) k)
  unfolding keys_room
  keyed k l = rw filled.keys (turn_at (name_in N (built N c)) (holders_in N (built N c)) N.header.attributes k (drop (2 * N.header.attributes) before.keys) l)

  alike : Alike N (built N c) (plan_in subjects after.plan)
  alike = record { subject = chosen; opens = λ i l. sym (planned i l).0; seals = λ i l. sym (planned i l).1 }

  rooms_run : RunsWith s subjects after
  rooms_run =
      record {
        clean = clean_same N (built N c) (plan_in subjects after.plan) alike sound (built_runs N sound may c assigned A.step);
        names = λ k l. (keyed k l).0 ∙ (keys_agree N sound (built N c) k).0 ∙ key_same N (built N c) (plan_in subjects after.plan) alike k;
        holding = λ k l. (keyed k l).1 ∙ (keys_agree N sound (built N c) k).1 ∙ holders_same N (built N c) (plan_in subjects after.plan) alike sound k;
      }

-- a file passes 1 to 11 and 17 where the trials that a choice begins with pass
begun : (s : List ℕ) → Passes (choice_trials s) → choosing_of s ≡ answers (header_of s)
unfolding choosing_of
begun s h = passes_accepts (choice_trials s) (header_of s) h

sound_of : (s : List ℕ) → Passes (choice_trials s) → Promised (night_of s)
sound_of s h = accepted_promises s (header_of s) (choosing_accepted s (header_of s) (begun s h))

may_of : (s : List ℕ) → Passes (choice_trials s) → UserMay (night_of s)
may_of s h = passes_may s (header_of s) (begun s h)

-- an offer whose trials passed has no bad subject
offer_passed : (N : Night) (offer : List ℕ) → Passes (offer_trials N offer) → (k : ℕ) → k < N.header.nodes → offer_bad N offer k ≡ false
unfolding offer_trials
offer_passed N offer h k l = (passes_row (λ i. trial (offer_bad N offer i) 14 i ∷ []) N.header.nodes k l h.1).0

pub cheapest_runs : CheapestRuns
unfolding cheapest_plan_trials cheapest_trials
cheapest_runs s before after answer says =
    let passes = (passes_append (choice_trials s) _ (passes_append (cheapest_trials s) _ (passed (cheapest_plan_trials s before) tt tt says.0).0).0).0 in
    let n = (night_of s).header.nodes in
    let c = says.1.subject in
    rooms_run s (sound_of s passes) (may_of s passes) c says.1.least.admissible after.choice
    (λ i l. sym (rw says.1.choice (get_or-append (each n c) (drop n before.choice) 0 i (rw (each_length c n) l) ∙ each_at c 0 i n l))) before after says.1.filled

pub offered_runs : OfferedRuns
unfolding offered_plan_trials offered_trials
offered_runs s offer before after total says =
    let passes = passes_append (choice_trials s) _ (passes_append (offered_trials s offer) _ (passed (offered_plan_trials s offer before) tt tt says.0).0).0 in
    rooms_run s (sound_of s passes.0) (may_of s passes.0) (λ i. get_or offer i 0) (offer_admissible (night_of s) offer (offer_passed (night_of s) offer passes.1)) offer (λ i l. refl) before after says.2
