-- The answers of `cheapest_choice` and `offered_choice` from what the code finds, and that they leave no choice.
use Prim.Native.Nat.{ℕ, ◌<◌, ◌≤◌}
use mathlib.Core.Path.{◌≡◌, refl, sym, ap, ◌∙◌}
use mathlib.Core.Bool.{Bool, true, false}
use mathlib.Core.List.{List, [], ◌∷◌, ◌++◌}
use native.Mathlib.Nat.{lt_of_not-le}
use native.Mathlib.Omega.{arith}
use lib.Dec.{ltb}
use lib.ListN.{length, get_or}
use lib.Seq.{ext_get_or}
use borrow.Author.Tests.{lt-ltb, le-ltb, ltb-true, ltb-false, eq-eqb, ne_eqb, eqb-true, eqb-false, not-false}
use Rattle.std.specs.Prelude.{Ok, Err}
use Rattle.laws.specs.First.{first}
use Rattle.laws.specs.Trials.{Says, trial, answers, refuses, verdict, rows}
use Rattle.laws.proofs.First.{first_none, first_more, first_all, first_below, first_found}
use Rattle.laws.proofs.Trials.{never, passed, passed_then, refused_then, refused_alike, accepted_alike, passes_row, rows_pass, rows_stop}
use Rattle.laws.proofs.Cases.{ne_bad, eq_fine}
use Rattle.sets.specs.Sets.{lowest}
use Rattle.sets.proofs.Members.{member_in}
use Rattle.sets.proofs.Words.{lowest_in}
use Rattle.night.specs.declared.Header.{Header}
use Rattle.night.specs.declared.refusals.Refusal.{Refusal}
use Rattle.night.proofs.Said.{said_once}
use Rattle.night.specs.Refusals.{number_of}
use Rattle.night.specs.Night.{Night, node_of}
use Rattle.night.specs.Promised.{Promised}
use Rattle.format.specs.Layout.{header_of, night_in, night_of}
use Rattle.layout.specs.Held.{night_held}
use Rattle.model.specs.Candidates.{candidate_set}
use Rattle.model.specs.Choice.{owner_of, Admissible, AllHave, total, steps}
use Rattle.model.specs.Dp.{least_of, cost_rows, best_last, chosen_last, give_down, chosen}
use Rattle.verdicts.specs.Refusals.{without_candidate, candidate_trials, steps_trials, offer_bad, offer_trials, user_trials, choice_trials, choosing_of, cheapest_trials, offered_trials}
use Rattle.verdicts.proofs.User.{choosing_accepted}
use Rattle.model.proofs.Once.{least_once}
use Rattle.model.proofs.Dp.{dp_least, chosen_total}
use Rattle.trials.specs.Trials.{trials, check_of}
use Rattle.trials.proofs.Opened.{accepted_header}
use Rattle.eligible.specs.declared.Built.{Built}
use Rattle.eligible.specs.Answers.{BuiltFor}
use Rattle.eligible.proofs.Once.{built_same}
use Rattle.choosing.specs.declared.subjects.Subjects.{Subjects}
use Rattle.choosing.specs.Answers.{CheapestFor, ChoiceSays, ChoiceOnce, offered_of, OfferSays, OfferedOnce}
use Rattle.choosing.specs.Held.{Given, OpenSays}
use Rattle.choosing.proofs.Sets.{candidates_fit}

-- a search that found none
pub none_below : (p : ℕ → Bool) (i n : ℕ) → i ≡ first p n → n ≤ i → (k : ℕ) → k < n → p k ≡ false
none_below p i n q h k l = first_below p n k (omega arith)

-- the trials of all numbers below n, of one number each: a loop that found the first that fails; one that found none; what holds where they pass
module _ (p : ℕ → Bool) (m n : ℕ) where
  pub loop_refused : (i : ℕ) → first p i ≡ i → p i ≡ true → i < n → verdict (rows n (λ k. trial (p k) m k ∷ [])) (tt {0}) ≡ refuses m i
  loop_refused i none here l =
      let found : first p n ≡ i = first_found p i n none here l in
      rw found at (rows_stop p m n (rw found l))

  pub loop_passes : first p n ≡ n → verdict (rows n (λ k. trial (p k) m k ∷ [])) (tt {0}) ≡ answers tt
  loop_passes none = rows_pass p m n (λ k l. first_below p n k (omega (arith, none)))

  pub none_fails : verdict (rows n (λ k. trial (p k) m k ∷ [])) (tt {0}) ≡ answers tt → (k : ℕ) → k < n → p k ≡ false
  none_fails e k l = (passes_row (λ k. trial (p k) m k ∷ []) n k l (passed _ _ _ e).0).0

-- no step is without candidate
pub all_have : (N : Night) → Promised N → ((k : ℕ) → k < N.header.nodes → without_candidate N k ≡ false) → AllHave N
unfolding without_candidate
all_have N sound h i l step =
    let some : candidate_set N i ≡ 0 → ⊥ = eqb-false (candidate_set N i) 0 (rw (ne_eqb (node_of N i).kind 0 step) at (h i l)) in
    (lowest 16 (candidate_set N i), lowest_in 16 (candidate_set N i) (candidates_fit N sound i) (lt_of_not-le (λ q. some (omega arith))))

-- the subjects given down from the last node are the cheapest choice
pub least_made : (N : Night) → Promised N → AllHave N → (c : List ℕ) (t : ℕ)
    → c ≡ give_down N (cost_rows N) N.header.nodes (chosen_last N (cost_rows N))
    → Given N c → t ≡ least_of (best_last N (cost_rows N)) → CheapestFor N c t (steps N)
unfolding chosen
least_made N sound some c t e G q =
    record {
      least = rw e (dp_least N sound some);
      past = G.past;
      whole = G.long;
      its_total = q ∙ rw e (sym (chosen_total N sound some));
      its_steps = refl;
    }

-- 12: a loop over the steps
module _ (N : Night) where
  pub candidates_refused : (i : ℕ) → first (without_candidate N) i ≡ i → without_candidate N i ≡ true → i < N.header.nodes
      → verdict (candidate_trials N) (tt {0}) ≡ refuses 12 i
  unfolding candidate_trials
  candidates_refused = loop_refused (without_candidate N) 12 N.header.nodes

  pub candidates_pass : first (without_candidate N) N.header.nodes ≡ N.header.nodes → verdict (candidate_trials N) (tt {0}) ≡ answers tt
  unfolding candidate_trials
  candidates_pass = loop_passes (without_candidate N) 12 N.header.nodes

  pub candidates_have : Promised N → verdict (candidate_trials N) (tt {0}) ≡ answers tt → AllHave N
  unfolding candidate_trials
  candidates_have sound e = all_have N sound (none_fails (without_candidate N) 12 N.header.nodes e)

-- for `search`: what a loop over the steps begins and ends with
pub ruleset candidates_loop = (first_none, first_all, candidates_pass)

-- 14: the length, and a loop over the nodes
module _ (N : Night) (offer : List ℕ) where
  pub length_refused : (length offer ≡ N.header.nodes → ⊥) → verdict (offer_trials N offer) (tt {0}) ≡ refuses 14 N.header.nodes
  unfolding verdict offer_trials
  length_refused h = rw (ne_bad (length offer) N.header.nodes h) refl

  module _ (long : length offer ≡ N.header.nodes) where
    pub node_refused : (i : ℕ) → first (offer_bad N offer) i ≡ i → offer_bad N offer i ≡ true → i < N.header.nodes
        → verdict (offer_trials N offer) (tt {0}) ≡ refuses 14 i
    unfolding verdict offer_trials
    node_refused i none here l = rw (eq_fine (length offer) N.header.nodes long) (loop_refused (offer_bad N offer) 14 N.header.nodes i none here l)

    pub offer_passes : first (offer_bad N offer) N.header.nodes ≡ N.header.nodes → verdict (offer_trials N offer) (tt {0}) ≡ answers tt
    unfolding verdict offer_trials
    offer_passes none = rw (eq_fine (length offer) N.header.nodes long) (loop_passes (offer_bad N offer) 14 N.header.nodes none)

  -- an offer that nothing refuses is a choice from the candidates
  pub offer_admissible : ((k : ℕ) → k < N.header.nodes → offer_bad N offer k ≡ false) → Admissible N (λ i. get_or offer i 0)
  unfolding offer_bad
  offer_admissible h =
      record {
        leaf = λ i l e. eqb-true (get_or offer i 0) (owner_of N i) (not-false _ (rw (eq-eqb (node_of N i).kind 0 e) at (h i l)));
        step = λ i l e. member_in (candidate_set N i) (get_or offer i 0) (not-false _ (rw (ne_eqb (node_of N i).kind 0 e) at (h i l)));
      }

  pub offer_passed : verdict (offer_trials N offer) (tt {0}) ≡ answers tt → Admissible N (λ i. get_or offer i 0) × (length offer ≡ N.header.nodes)
  unfolding offer_trials
  offer_passed e =
      let q = (passed _ _ _ e).0 in
      (offer_admissible (λ k l. (passes_row (λ k. trial (offer_bad N offer k) 14 k ∷ []) N.header.nodes k l q.1).0), eqb-true _ _ (not-false _ q.0))

-- for `search`: a loop over an offer
pub ruleset offer_loop = (first_none, first_more, first_all, length_refused, node_refused, offer_passes)

-- 1 to 11 refuse, and then 17
module _ (s : List ℕ) where
  pub open_unread : (r : Refusal) → check_of s ≡ refuses (number_of r.reason) r.place → OpenSays s (Err r)
  unfolding choosing_of choice_trials check_of
  open_unread r e = refused_then (trials s) (user_trials (night_of s)) (header_of s) (header_of s) _ _ e

  pub choice_unread : (r : Refusal) → OpenSays s (Err r) → ChoiceSays s (Err r)
  unfolding choosing_of cheapest_trials
  choice_unread r e = refused_then (choice_trials s) _ (header_of s) (tt {0}) _ _ e

  pub offer_unread : (offer : List ℕ) (r : Refusal) → OpenSays s (Err r) → OfferSays s offer (Err r)
  unfolding choosing_of offered_of offered_trials
  offer_unread offer r e = refused_then (choice_trials s) _ (header_of s) _ _ _ e

  -- where reading accepts, the verdict is that of the trials of 17
  module _ (h : Header) (e : check_of s ≡ answers h) where
    same_night : night_of s ≡ night_in s h
    same_night = ap (λ (k : Header). night_in s k) (accepted_header s h e)

    then_user : choosing_of s ≡ verdict (user_trials (night_in s h)) h
    unfolding choosing_of choice_trials check_of
    then_user =
        let same = accepted_header s h e in
        passed_then (trials s) (user_trials (night_of s)) (header_of s) (header_of s) (e ∙ ap answers (sym same)) ∙ ap (λ (k : Header). verdict (user_trials (night_in s k)) k) same

    pub open_kept : (r : Refusal) → verdict (user_trials (night_in s h)) (tt {0}) ≡ refuses (number_of r.reason) r.place → OpenSays s (Err r)
    open_kept r q = then_user ∙ refused_alike (user_trials (night_in s h)) (tt {0}) h _ _ q

    pub open_passes : verdict (user_trials (night_in s h)) (tt {0}) ≡ answers tt → choosing_of s ≡ answers h
    open_passes q = then_user ∙ accepted_alike (user_trials (night_in s h)) (tt {0}) (tt {0}) h q

-- these pass: the trials of the choice itself
module _ (s : List ℕ) (w : Subjects) (built : Built) (x : OpenSays s (Ok (w, built))) where
  abbrev N : Night
  N = night_held w.file

  same : night_of s ≡ N
  same = same_night s w.file.header (choosing_accepted s w.file.header x.0) ∙ ap (λ (t : List ℕ). night_in t w.file.header) (sym x.1)

  read : verdict (choice_trials s) (tt {0}) ≡ answers tt
  unfolding choosing_of
  read = accepted_alike (choice_trials s) (header_of s) w.file.header tt x.0

  choice_verdict : (v : Says (Unit {0})) → verdict (candidate_trials N ++ steps_trials N) (tt {0}) ≡ v → verdict (cheapest_trials s) (tt {0}) ≡ v
  unfolding cheapest_trials
  choice_verdict v q =
      passed_then (choice_trials s) _ (tt {0}) (tt {0}) read ∙ ap (λ (M : Night). verdict (candidate_trials M ++ steps_trials M) (tt {0})) same ∙ q

  pub without_refused : (r : Refusal) → verdict (candidate_trials N) (tt {0}) ≡ refuses (number_of r.reason) r.place → ChoiceSays s (Err r)
  without_refused r q = choice_verdict _ (refused_then (candidate_trials N) (steps_trials N) (tt {0}) (tt {0}) _ _ q)

  module _ (some : verdict (candidate_trials N) (tt {0}) ≡ answers tt) where
    pub steps_refused : w.file.header.steps < steps N → verdict (cheapest_trials s) (tt {0}) ≡ refuses 13 0
    unfolding verdict steps_trials night_in
    steps_refused l = choice_verdict _ (passed_then (candidate_trials N) (steps_trials N) (tt {0}) (tt {0}) some ∙ rw (lt-ltb w.file.header.steps (steps N) l) refl)

    steps_pass : steps N ≤ w.file.header.steps → verdict (cheapest_trials s) (tt {0}) ≡ answers tt
    unfolding verdict steps_trials night_in
    steps_pass l = choice_verdict _ (passed_then (candidate_trials N) (steps_trials N) (tt {0}) (tt {0}) some ∙ rw (le-ltb w.file.header.steps (steps N) l) refl)

    pub choice_found : (c : List ℕ) (t k : ℕ) → steps N ≤ w.file.header.steps → CheapestFor N c t k
        → (verdict (cheapest_trials s) (tt {0}) ≡ answers tt) × CheapestFor (night_of s) c t k × BuiltFor (night_of s) built
    choice_found c t k l q = (steps_pass l, rw same q, rw same x.3)

  pub offer_refused : (offer : List ℕ) (r : Refusal) → verdict (offer_trials N offer) (tt {0}) ≡ refuses (number_of r.reason) r.place → OfferSays s offer (Err r)
  unfolding offered_of offered_trials
  offer_refused offer r q =
      passed_then (choice_trials s) _ (tt {0}) _ read ∙ refused_alike (offer_trials (night_of s) offer) (tt {0}) _ _ _ (ap (λ (M : Night). verdict (offer_trials M offer) (tt {0})) same ∙ q)

  pub offer_costs : (offer : List ℕ) (t : ℕ) → verdict (offer_trials N offer) (tt {0}) ≡ answers tt → t ≡ total N (λ i. get_or offer i 0)
      → (offered_of s offer ≡ answers t) × BuiltFor (night_of s) built
  unfolding offered_of offered_trials
  offer_costs offer t q e = (
    passed_then (choice_trials s) _ (tt {0}) _ read
        ∙ accepted_alike (offer_trials (night_of s) offer) (tt {0}) tt _ (ap (λ (M : Night). verdict (offer_trials M offer) (tt {0})) same ∙ q)
        ∙ ap (λ (M : Night). answers (total M (λ i. get_or offer i 0))) same
        ∙ ap answers (sym e),
    rw same x.3,
  )

-- two cheapest choices, 0 past the last node, are the same list
same_subjects : (N : Night) (xs ys : List ℕ) (t u k m : ℕ) → CheapestFor N xs t k → CheapestFor N ys u m → xs ≡ ys
same_subjects N xs ys t u k m x y = ext_get_or 0 xs ys (x.whole ∙ sym y.whole) (λ j l. go j (ltb j N.header.nodes) refl)
  where
    go : (j : ℕ) (b : Bool) → ltb j N.header.nodes ≡ b → get_or xs j 0 ≡ get_or ys j 0
    go j true e = least_once N _ _ x.least y.least j (ltb-true j N.header.nodes e)
    go j false e = x.past j (ltb-false j N.header.nodes e) ∙ sym (y.past j (ltb-false j N.header.nodes e))

-- a refusal by its number and place
same_refusal : {A : Type 0} (r q : Refusal) → ◌≡◌ {A = Says A} (refuses (number_of r.reason) r.place) (refuses (number_of q.reason) q.place) → r ≡ q
same_refusal {A} r q e =
    let same = said_once A (Err r) (Err q) e in
    cc

pub choice_once : ChoiceOnce
choice_once s (Ok c) (Ok d) x y =
    let list : c.subjects ≡ d.subjects = same_subjects (night_of s) c.subjects d.subjects c.total d.total c.steps d.steps x.1 y.1 in
    let totals : c.total ≡ d.total = x.1.its_total ∙ ap (λ (zs : List ℕ). total (night_of s) (λ i. get_or zs i 0)) list ∙ sym y.1.its_total in
    let counts : c.steps ≡ d.steps = x.1.its_steps ∙ sym y.1.its_steps in
    let built : c.built ≡ d.built = built_same (night_of s) c.built d.built x.2 y.2 in
    let same : c ≡ d = λ j. record { subjects = list j; total = totals j; steps = counts j; built = built j } in
    ap Ok same
choice_once s (Ok c) (Err r) x y = absurd (never tt _ _ (sym y ∙ x.0))
choice_once s (Err r) (Ok c) x y = absurd (never tt _ _ (sym x ∙ y.0))
choice_once s (Err r) (Err q) x y = ap Err (same_refusal r q (sym x ∙ y))

pub offered_once : OfferedOnce
offered_once s offer (Ok c) (Ok d) x y =
    let both : ◌≡◌ {A = Says ℕ} (answers c.total) (answers d.total) = sym x.0 ∙ y.0 in
    let totals : c.total ≡ d.total = cc in
    let built : c.built ≡ d.built = built_same (night_of s) c.built d.built x.1 y.1 in
    let same : c ≡ d = λ j. record { total = totals j; built = built j } in
    ap Ok same
offered_once s offer (Ok c) (Err r) x y = absurd (never c.total _ _ (sym y ∙ x.0))
offered_once s offer (Err r) (Ok c) x y = absurd (never c.total _ _ (sym x ∙ y.0))
offered_once s offer (Err r) (Err q) x y = ap Err (same_refusal r q (sym x ∙ y))
