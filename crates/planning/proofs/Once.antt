-- Two answers that the promises admit, case by case.
use Prim.Native.Nat.{ℕ, ◌<◌}
use mathlib.Core.Path.{◌≡◌, refl, sym, ap, ◌∙◌}
use mathlib.Core.List.{List}
use Rattle.laws.specs.Trials.{Trial, Says, answers, refuses, verdict}
use Rattle.laws.proofs.Trials.{never, passed, passes_accepts, passes_append}
use Rattle.laws.proofs.Upwards.{each_same}
use Rattle.std.specs.Prelude.{Result, Ok, Err}
use Rattle.night.specs.declared.refusals.Refusal.{Refusal}
use Rattle.night.specs.Refusals.{number_of}
use Rattle.night.proofs.Said.{said_once}
use Rattle.night.specs.Night.{Night}
use Rattle.night.specs.Promised.{Promised}
use Rattle.format.specs.Layout.{night_of}
use Rattle.model.specs.Choice.{Choice}
use Rattle.model.specs.Plan.{built}
use Rattle.model.proofs.Once.{least_total, least_once}
use Rattle.model.proofs.SamePlan.{built_alike, plan_same, keys_same}
use Rattle.planning.specs.Answers.{Filled, CheapestFilled}
use Rattle.planning.proofs.Answered.{chosen_promises}
use Rattle.planning.specs.declared.CheapestPlan.{CheapestPlan}
use Rattle.verdicts.specs.Refusals.{Rooms, cheapest_trials, cheapest_plan_trials, offered_plan_trials}
use Rattle.planning.specs.Once.{CheapestPlanOnce, OfferedPlanOnce}

-- a row of trials either passes or refuses, and with one reason and place
accepted_refused : (ts : List Trial) (n p : ℕ) → verdict ts (tt {0}) ≡ answers tt → verdict ts (tt {0}) ≡ refuses n p → ⊥
accepted_refused ts n p e f = never (tt {0}) n p (sym f ∙ e)

one_refusal : {A : Type 0} (ts : List Trial) (r q : Refusal) → verdict ts (tt {0}) ≡ refuses (number_of r.reason) r.place
    → verdict ts (tt {0}) ≡ refuses (number_of q.reason) q.place → ◌≡◌ {A = Result A Refusal} (Err r) (Err q)
one_refusal {A} ts r q e f =
    let both : ◌≡◌ {A = Says (Unit {0})} (refuses (number_of r.reason) r.place) (refuses (number_of q.reason) q.place) = sym e ∙ f in
    let number : number_of r.reason ≡ number_of q.reason = cc in
    let place : r.place ≡ q.place = cc in
    said_once A (Err r) (Err q) (rw (number, place) refl)

-- rooms that are the same in each part
same_rooms : (x y : Rooms) → x.choice ≡ y.choice → x.plan ≡ y.plan → x.keys ≡ y.keys → x ≡ y
same_rooms x y e f g i = record { choice = e i; plan = f i; keys = g i }

same_cheapest : (a b : CheapestPlan) → a.total ≡ b.total → a.steps ≡ b.steps → a ≡ b
same_cheapest a b e f = rw (e, f) refl

-- plan and keys filled for choices that are the same at every node
filled_same : (N : Night) → Promised N → (c d : Choice) (before x y : Rooms) → ((i : ℕ) → i < N.header.nodes → c i ≡ d i) → Filled N c before x → Filled N d before y
    → (x.plan ≡ y.plan) × (x.keys ≡ y.keys)
filled_same N sound c d before x y h u v =
    let alike = built_alike N c d h in
    (u.plan ∙ rw (plan_same N (built N c) (built N d) alike) (sym v.plan), u.keys ∙ rw (keys_same N (built N c) (built N d) alike sound) (sym v.keys))

-- the cheapest choice filled in
both_filled : (N : Night) → Promised N → (before x y : Rooms) (a b : CheapestPlan) → CheapestFilled N before x a.total a.steps → CheapestFilled N before y b.total b.steps → (a ≡ b) × (x ≡ y)
both_filled N sound before x y a b u v =
    let same = least_once N u.subject v.subject u.least v.least in
    let total : a.total ≡ b.total = u.its_total ∙ least_total N u.subject v.subject u.least v.least ∙ sym v.its_total in
    let steps : a.steps ≡ b.steps = u.its_steps ∙ sym v.its_steps in
    let choice : x.choice ≡ y.choice = u.choice ∙ rw (each_same u.subject v.subject N.header.nodes same) (sym v.choice) in
    let filled = filled_same N sound u.subject v.subject before x y same u.filled v.filled in
    (same_cheapest a b total steps, same_rooms x y choice filled.0 filled.1)

-- what reading promises of a file whose cheapest plan is answered
answered_sound : (s : List ℕ) (rooms : Rooms) → verdict (cheapest_plan_trials s rooms) (tt {0}) ≡ answers tt → Promised (night_of s)
unfolding cheapest_plan_trials
answered_sound s rooms e = chosen_promises s (passes_accepts (cheapest_trials s) (tt {0}) (passes_append (cheapest_trials s) _ (passed (cheapest_plan_trials s rooms) tt tt e).0).0)

pub cheapest_once : CheapestPlanOnce
cheapest_once s before x y (Ok a) (Ok b) u v =
    let same = both_filled (night_of s) (answered_sound s before u.0) before x y a b u.1 v.1 in
    (ap Ok same.0, same.1)
cheapest_once s before x y (Ok a) (Err r) u v = absurd (accepted_refused (cheapest_plan_trials s before) _ _ u.0 v.0)
cheapest_once s before x y (Err r) (Ok b) u v = absurd (accepted_refused (cheapest_plan_trials s before) _ _ v.0 u.0)
cheapest_once s before x y (Err r) (Err q) u v = (one_refusal (cheapest_plan_trials s before) r q u.0 v.0, u.1 ∙ sym v.1)

pub offered_once : OfferedPlanOnce
offered_once s offer before x y (Ok a) (Ok b) u v =
    (ap Ok (u.1 ∙ sym v.1), same_rooms x y (u.3 ∙ sym v.3) (u.2.plan ∙ sym v.2.plan) (u.2.keys ∙ sym v.2.keys))
offered_once s offer before x y (Ok a) (Err r) u v = absurd (accepted_refused (offered_plan_trials s offer before) _ _ u.0 v.0)
offered_once s offer before x y (Err r) (Ok b) u v = absurd (accepted_refused (offered_plan_trials s offer before) _ _ v.0 u.0)
offered_once s offer before x y (Err r) (Err q) u v = (one_refusal (offered_plan_trials s offer before) r q u.0 v.0, u.1 ∙ sym v.1)
