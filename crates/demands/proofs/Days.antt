-- Over any day, and in a version with days, from the theorems over a night.
use Prim.Native.Nat.{ℕ, ◌<◌, ◌*◌}
use mathlib.Core.Path.{◌≡◌, refl, sym, subst, ◌∙◌}
use mathlib.Core.List.{List, ◌++◌}
use mathlib.Core.Logic.{◌↔◌}
use lib.Dec.{lit<}
use lib.ListN.{get_or, drop}
use Rattle.std.specs.Prelude.{Result, Ok, Err}
use Rattle.laws.specs.Trials.{verdict}
use Rattle.laws.specs.Upwards.{each}
use Rattle.laws.proofs.Trials.{append_alike, answers_alike}
use Rattle.night.specs.declared.refusals.Refusal.{Refusal}
use Rattle.night.specs.Versions.{delivers, has_pairs, has_days}
use Rattle.night.specs.Night.{Night, relation_of, node_of, pair_of}
use Rattle.night.specs.Kinds.{reads, read_together, pairs_read, its_pair}
use Rattle.night.specs.Views.{clear_on, sealed_on}
use Rattle.night.specs.Days.{in_version, on_day, ButDays}
use Rattle.night.proofs.Days.{any_day, seen_then}
use Rattle.format.specs.Layout.{header_of, night_in, night_of}
use Rattle.trials.specs.Trials.{header_trials, record_trials, tree_trials, trials}
use Rattle.trials.proofs.Promises.{accepted_promises}
use Rattle.trials.proofs.Days.{older_always}
use Rattle.model.specs.Tables.{tables, table_of, table_step, step_table, result, ties}
use Rattle.model.specs.Candidates.{Candidate}
use Rattle.model.specs.Choice.{Choice, Least, total, steps}
use Rattle.model.specs.Plan.{built, plan_room, keys_room}
use Rattle.model.specs.Days.{AnsweredAlike}
use Rattle.model.specs.Demand.{Assigned}
use Rattle.model.proofs.May.{set_exactly}
use Rattle.model.proofs.Demand.{runs_exactly, built_runs}
use Rattle.model.proofs.Days.{always_answered}
use Rattle.verdicts.specs.Refusals.{user_trials, candidate_trials, steps_trials, offer_trials, choice_room_trials, plan_room_trials, keys_room_trials, asked_trials}
use Rattle.verdicts.specs.Refusals.{Rooms, choice_trials, cheapest_trials, cheapest_plan_trials, offered_trials, offered_plan_trials, why_trials}
use Rattle.verdicts.specs.Days.{TriedAlike}
use Rattle.verdicts.proofs.Days.{always_tried}
use Rattle.writes.specs.Days.{Headed, as_four}
use Rattle.writes.proofs.Days.{in_four}
use Rattle.planning.specs.declared.CheapestPlan.{CheapestPlan}
use Rattle.planning.specs.Answers.{candidates_of, why_of, Filled, CheapestFilled, CheapestSays, OfferedSays}
use Rattle.demands.specs.Days.{CandidatesOnDay, Demand3OnDay, SaidAlike, AlwaysSaid, ThreeAndFour, WrittenInFour}
use Rattle.demands.proofs.Demand3.{run_keys}

-- a candidate over the night on that day is one over the night itself, since the tables are the same
same_candidate : (N : Night) (day i P E : ℕ) → Candidate (on_day N day) i P E ↔ Candidate N i P E
unfolding in_version tables table_of table_step step_table result ties node_of pair_of its_pair pairs_read reads read_together
same_candidate N day i P E = (
  λ c. record { step = c.step; left = c.left; right = c.right; result = c.result },
  λ c. record { step = c.step; left = c.left; right = c.right; result = c.result },
)

pub candidates_on_day : CandidatesOnDay
unfolding in_version
candidates_on_day s h e day i p =
    let N = night_of s in
    let w = set_exactly (on_day N day) i p (accepted_promises s h e).counts.subjects_most in
    let seen = seen_then N day p in
    let same = same_candidate N day i (clear_on N day p) (sealed_on N day p) in (
      λ m. let x = w.0 m in (x.0, same.0 (rw (seen.1, seen.2) at x.1)),
      λ x. w.1 (x.0, rw (seen.1, seen.2) (same.1 x.1)),
    )

assigned_then : (N : Night) (day : ℕ) (c : Choice) → Assigned N c → Assigned (on_day N day) c
unfolding in_version node_of relation_of
assigned_then N day c a = record { there = a.there; owners = a.owners }

pub demand3_on_day : Demand3OnDay
demand3_on_day s h e day may c a =
    let N = on_day (night_of s) day in
    let sound = any_day (night_of s) (accepted_promises s h e) day in
    let assigned = assigned_then (night_of s) day c a in
    (runs_exactly N sound may c assigned, λ from. (built_runs N sound may c assigned from, run_keys N sound c))

-- what a night hands to another of what stands in the rooms
record Fills (N T : Night) : Type 0 where
  nodes : N.header.nodes ≡ T.header.nodes
  attributes : N.header.attributes ≡ T.header.attributes
  least : (c : Choice) → Least N c → Least T c
  costs : (c : Choice) → total N c ≡ total T c
  counted : steps N ≡ steps T
  plan : (c : Choice) → plan_room N (built N c) ≡ plan_room T (built T c)
  keys : (c : Choice) → keys_room N (built N c) ≡ keys_room T (built T c)

module _ (N T : Night) (f : Fills N T) (before after : Rooms) where
  filled_too : (c : Choice) → Filled N c before after → Filled T c before after
  filled_too c w =
      record {
        plan = w.plan ∙ (λ d. f.plan c d ++ drop (2 * f.nodes d) before.plan);
        keys = w.keys ∙ (λ d. f.keys c d ++ drop (2 * f.attributes d) before.keys);
      }

  cheapest_too : (most many : ℕ) → CheapestFilled N before after most many → CheapestFilled T before after most many
  cheapest_too most many w =
      record {
        subject = w.subject;
        least = f.least w.subject w.least;
        its_total = w.its_total ∙ f.costs w.subject;
        its_steps = w.its_steps ∙ f.counted;
        choice = w.choice ∙ (λ d. each (f.nodes d) w.subject ++ drop (f.nodes d) before.choice);
        filled = filled_too w.subject w.filled;
      }

-- two files of which the trials say the same, and whose nights hand all of it on
module _ (s t : List ℕ) (f : Fills (night_of s) (night_of t)) where
  cheapest_says : ((rooms : Rooms) → verdict (cheapest_plan_trials s rooms) (tt {0}) ≡ verdict (cheapest_plan_trials t rooms) tt)
      → (before after : Rooms) (said : Result CheapestPlan Refusal) → CheapestSays s before after said → CheapestSays t before after said
  cheapest_says same before after (Ok c) w = (sym (same before) ∙ w.0, cheapest_too (night_of s) (night_of t) f before after c.total c.steps w.1)
  cheapest_says same before after (Err r) w = (sym (same before) ∙ w.0, w.1)

  offered_says : (offer : List ℕ) → ((rooms : Rooms) → verdict (offered_plan_trials s offer rooms) (tt {0}) ≡ verdict (offered_plan_trials t offer rooms) tt)
      → (before after : Rooms) (said : Result ℕ Refusal) → OfferedSays s offer before after said → OfferedSays t offer before after said
  offered_says offer same before after (Ok most) w = (
    sym (same before) ∙ w.0,
    w.1 ∙ f.costs (λ i. get_or offer i 0),
    filled_too (night_of s) (night_of t) f before after (λ i. get_or offer i 0) w.2,
    w.3,
  )
  offered_says offer same before after (Err r) w = (sym (same before) ∙ w.0, w.1)

module _ (s t : List ℕ) (version day : ℕ) (its : Headed s) (that : Headed t) (but : ButDays (night_of s) version day) (e : night_of t ≡ in_version (night_of s) version day) where
  abbrev N : Night
  N = night_of s

  abbrev T : Night
  T = night_of t

  tried : TriedAlike N T
  tried = subst (λ (X : Night). TriedAlike N X) (sym e) (always_tried N version day but)

  answered : AnsweredAlike N T
  answered = subst (λ (X : Night). AnsweredAlike N X) (sym e) (always_answered N version day but)

  -- all hands on either way
  as_many : (N.header.nodes ≡ T.header.nodes) × (N.header.attributes ≡ T.header.attributes)
  unfolding in_version
  as_many = (λ d. (sym e d).header.nodes, λ d. (sym e d).header.attributes)

  there : Fills N T
  there =
      record {
        nodes = as_many.0;
        attributes = as_many.1;
        least = λ c. (answered.least c).0;
        costs = answered.costs;
        counted = answered.counted;
        plan = answered.plan;
        keys = answered.keys;
      }

  back : Fills T N
  back =
      record {
        nodes = sym as_many.0;
        attributes = sym as_many.1;
        least = λ c. (answered.least c).1;
        costs = λ c. sym (answered.costs c);
        counted = sym answered.counted;
        plan = λ c. sym (answered.plan c);
        keys = λ c. sym (answered.keys c);
      }

  -- the trials of each entry say the same
  checked : verdict (trials s) (tt {0}) ≡ verdict (trials t) tt
  unfolding trials
  checked =
      append_alike (header_trials s) (header_trials t) (record_trials N ++ tree_trials N) (record_trials T ++ tree_trials T) (its ∙ sym that)
      (λ d. verdict (tried.records d ++ tried.tree d) tt)

  chosen : verdict (choice_trials s) (tt {0}) ≡ verdict (choice_trials t) tt
  unfolding choice_trials
  chosen = append_alike (trials s) (trials t) (user_trials N) (user_trials T) checked (λ d. verdict (tried.user d) tt)

  least_chosen : verdict (cheapest_trials s) (tt {0}) ≡ verdict (cheapest_trials t) tt
  unfolding cheapest_trials
  least_chosen =
      append_alike (choice_trials s) (choice_trials t) (candidate_trials N ++ steps_trials N) (candidate_trials T ++ steps_trials T) chosen
      (λ d. verdict (tried.candidate d ++ tried.steps d) tt)

  least_planned : (rooms : Rooms) → verdict (cheapest_plan_trials s rooms) (tt {0}) ≡ verdict (cheapest_plan_trials t rooms) tt
  unfolding cheapest_plan_trials
  least_planned rooms =
      append_alike (cheapest_trials s) (cheapest_trials t)
      (choice_room_trials N rooms.choice ++ (plan_room_trials N rooms.plan ++ keys_room_trials N rooms.keys))
      (choice_room_trials T rooms.choice ++ (plan_room_trials T rooms.plan ++ keys_room_trials T rooms.keys))
      least_chosen (λ d. verdict (tried.choice_room rooms.choice d ++ (tried.plan-room rooms.plan d ++ tried.keys-room rooms.keys d)) tt)

  offer_taken : (offer : List ℕ) → verdict (offered_trials s offer) (tt {0}) ≡ verdict (offered_trials t offer) tt
  unfolding offered_trials
  offer_taken offer = append_alike (choice_trials s) (choice_trials t) (offer_trials N offer) (offer_trials T offer) chosen (λ d. verdict (tried.offer offer d) tt)

  offer_planned : (offer : List ℕ) (rooms : Rooms) → verdict (offered_plan_trials s offer rooms) (tt {0}) ≡ verdict (offered_plan_trials t offer rooms) tt
  unfolding offered_plan_trials
  offer_planned offer rooms =
      append_alike (offered_trials s offer) (offered_trials t offer) (plan_room_trials N rooms.plan ++ keys_room_trials N rooms.keys)
      (plan_room_trials T rooms.plan ++ keys_room_trials T rooms.keys) (offer_taken offer)
      (λ d. verdict (tried.plan-room rooms.plan d ++ tried.keys-room rooms.keys d) tt)

  reasoned : (i p : ℕ) → verdict (why_trials s i p) (tt {0}) ≡ verdict (why_trials t i p) tt
  unfolding why_trials
  reasoned i p = append_alike (trials s) (trials t) (asked_trials N i p) (asked_trials T i p) checked (λ d. verdict (tried.asked i p d) tt)

  pub said : SaidAlike s t
  unfolding candidates_of why_of
  said =
      record {
        checked = checked;
        candidates = λ i. answers_alike (trials s) (trials t) _ _ checked (answered.same.candidates i);
        why = λ i p. answers_alike (why_trials s i p) (why_trials t i p) _ _ (reasoned i p) (answered.stands i p);
        cheapest = λ b a x. (cheapest_says s t there least_planned b a x, cheapest_says t s back (λ rooms. sym (least_planned rooms)) b a x);
        offered = λ o b a x. (offered_says s t there o (offer_planned o) b a x, offered_says t s back o (λ rooms. sym (offer_planned o rooms)) b a x);
      }

pub always_said : AlwaysSaid
always_said = said

-- versions 3 and 4 differ in days alone
but_days : (s : List ℕ) (day : ℕ) → (header_of s).version ≡ 3 → day < 65536 → ButDays (night_of s) 4 day
unfolding night_in delivers has_pairs has_days
but_days s day three low =
    let older = older_always s (rw three refl) in
    record { always = older.0; delivering = rw three refl; pairing = rw three refl; its_day = rw older.1 (lit< tt); that_day = low }

pub three_and_four : ThreeAndFour
three_and_four s t day its that three e low = said s t 4 day its that (but_days s day three low) e

pub written_in_four : WrittenInFour
written_in_four s day all its three low =
    let it = in_four s day all three its low in
    three_and_four s (as_four day s) day its it.0 three it.1 low
