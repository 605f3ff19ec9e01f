-- The answers of the entries from those below, and what `candidates` says of each subject.
use Prim.Native.Nat.{ℕ, ◌*◌, ◌≤◌}
use mathlib.Core.Path.{◌≡◌, refl, ap, sym, ◌∙◌}
use mathlib.Core.List.{List, ◌++◌}
use mathlib.Core.Logic.{⊎_elim}
use lib.ListN.{length, get_or, take, drop}
use lib.Seq.{ext_get_or, get_or-take, length-take-le}
use Rattle.std.specs.Prelude.{Ok, Err}
use Rattle.laws.specs.Trials.{answers, refuses, verdict, Passes}
use Rattle.laws.specs.Upwards.{each}
use Rattle.laws.proofs.Trials.{passed, passes_accepts, passed_then, refused_then, passes_append, accepted_alike}
use Rattle.laws.proofs.Upwards.{each_at, each_length}
use Rattle.sets.proofs.Members.{in_none, same_members}
use Rattle.format.proofs.Sections.{node_past}
use Rattle.night.specs.declared.Header.{Header}
use Rattle.night.specs.declared.refusals.Refusal.{Refusal}
use Rattle.night.specs.Refusals.{number_of}
use Rattle.night.proofs.Said.{said_once}
use Rattle.night.specs.Promised.{Promised}
use Rattle.format.specs.Layout.{header_of, night_in, night_of}
use Rattle.model.specs.Candidates.{candidate_set}
use Rattle.model.specs.Choice.{total}
use Rattle.verdicts.specs.Refusals.{choice_trials, choosing_of, candidate_trials, steps_trials, offer_trials, cheapest_trials, offered_trials, Rooms, cheapest_plan_trials, offered_plan_trials}
use Rattle.model.proofs.May.{set_exactly}
use Rattle.trials.specs.Trials.{trials, check_of}
use Rattle.trials.proofs.Opened.{accepted_header}
use Rattle.trials.proofs.Promises.{accepted_promises}
use Rattle.verdicts.proofs.User.{choosing_accepted}
use Rattle.eligible.specs.Answers.{BuiltFor}
use Rattle.choosing.specs.Answers.{ChoiceSays, OfferSays, offered_of}
use Rattle.choosing.specs.declared.Chosen.{Chosen}
use Rattle.choosing.specs.declared.Costed.{Costed}
use Rattle.planning.specs.Answers.{candidates_of, CandidatesExactly, CandidatesOnce, NoneElsewhere, WrittenFor, CheapestSays, OfferedSays}
use Rattle.planning.proofs.Short.{two_trials, three_trials, two_long, three_long}

pub candidates_accepted : (s : List ℕ) (h : Header) (i : ℕ) → check_of s ≡ answers h → candidates_of s i ≡ answers (candidate_set (night_in s h) i)
unfolding check_of candidates_of
candidates_accepted s h i e = rw (← accepted_header s h e) (accepted_alike (trials s) (header_of s) h (candidate_set (night_of s) i) e)

pub candidates_exactly : CandidatesExactly
unfolding check_of candidates_of night_in
candidates_exactly s i set e p =
    let N = night_of s in
    let sound = accepted_promises s (header_of s) (accepted_alike (trials s) (candidate_set N i) set (header_of s) e) in
    rw (← (passed (trials s) (candidate_set N i) set e).1) (set_exactly N i p sound.counts.subjects_most)

pub none_elsewhere : NoneElsewhere
unfolding night_in
none_elsewhere s i set e out =
    same_members set 0 (λ p h. absurd (((candidates_exactly s i set e p).0 h).1.step (⊎_elim (λ l. rw (node_past s (header_of s) i l) refl) (λ z. z) out))) (λ p h. absurd (in_none p h))

pub candidates_once : CandidatesOnce
candidates_once a b e = said_once ℕ a b e

-- the front of a list, by its entries
front_each : (xs : List ℕ) (n d : ℕ) → n ≤ length xs → take n xs ≡ each n (λ i. get_or xs i d)
front_each xs n d l =
    let taken : length (take n xs) ≡ n = length-take-le n xs l in
    ext_get_or d (take n xs) (each n (λ i. get_or xs i d)) (taken ∙ sym (each_length (λ i. get_or xs i d) n))
    (λ k q. get_or-take n xs k d (rw taken at q) ∙ sym (each_at (λ i. get_or xs i d) d k n (rw taken at q)))

-- what reading promises of a file that passes what both choices begin with
passed_promises : (s : List ℕ) → Passes (choice_trials s) → Promised (night_of s)
unfolding choosing_of
passed_promises s h = accepted_promises s (header_of s) (choosing_accepted s (header_of s) (passes_accepts (choice_trials s) (header_of s) h))

-- `cheapest`: the choice's refusal, a short room, and the rooms filled
pub chosen_promises : (s : List ℕ) → verdict (cheapest_trials s) (tt {0}) ≡ answers tt → Promised (night_of s)
unfolding cheapest_trials
chosen_promises s e =
    passed_promises s (passes_append (choice_trials s) (candidate_trials (night_of s) ++ steps_trials (night_of s)) (passed (cheapest_trials s) tt tt e).0).0

pub cheapest_unchosen : (s : List ℕ) (rooms : Rooms) (r : Refusal) → ChoiceSays s (Err r) → CheapestSays s rooms rooms (Err r)
unfolding cheapest_plan_trials
cheapest_unchosen s rooms r w = (refused_then (cheapest_trials s) (three_trials (night_of s) rooms.choice rooms.plan rooms.keys) tt tt _ _ w, refl)

-- where no room is too short, for a header that is the file's
module _ (s : List ℕ) (h : Header) (same : h ≡ header_of s) where
  pub cheapest_short : (rooms : Rooms) (c : Chosen) (r : Refusal) → ChoiceSays s (Ok c)
      → refuses (number_of r.reason) r.place ≡ verdict (three_trials (night_in s h) rooms.choice rooms.plan rooms.keys) (tt {0}) → CheapestSays s rooms rooms (Err r)
  unfolding cheapest_plan_trials
  cheapest_short rooms c r w short =
      (passed_then (cheapest_trials s) (three_trials (night_of s) rooms.choice rooms.plan rooms.keys) tt tt w.0 ∙ sym (rw same at short), refl)

  -- what the rooms are then filled with, and that they are long enough
  pub record Fit (c : Chosen) (choice plan keys : List ℕ) : Type 0 where
    pub promised : Promised (night_in s h)
    pub built : BuiltFor (night_in s h) c.built
    pub whole : length c.subjects ≡ 64
    pub few : h.nodes ≤ 64
    pub choice_long : h.nodes ≤ length choice
    pub plan_long : 2 * h.nodes ≤ length plan
    pub keys_long : 2 * h.attributes ≤ length keys

  pub cheapest_fits : (c : Chosen) (choice plan keys : List ℕ) → ChoiceSays s (Ok c)
      → answers tt ≡ verdict (three_trials (night_in s h) choice plan keys) (tt {0}) → Fit c choice plan keys
  unfolding night_in
  cheapest_fits c choice plan keys w fits =
      let sound : Promised (night_in s h) = rw same (chosen_promises s w.0) in
      let long = three_long (night_in s h) choice plan keys fits in
      record {
        promised = sound;
        built = rw same w.2;
        whole = w.1.whole;
        few = sound.counts.nodes_most;
        choice_long = long.0;
        plan_long = long.1;
        keys_long = long.2;
      }

  pub cheapest_filled : (c : Chosen) (before after : Rooms) → ChoiceSays s (Ok c)
      → answers tt ≡ verdict (three_trials (night_in s h) before.choice before.plan before.keys) (tt {0})
      → after.choice ≡ take h.nodes c.subjects ++ drop h.nodes before.choice
      → WrittenFor (night_in s h) h c.subjects before.plan after.plan before.keys after.keys
      → CheapestSays s before after (Ok (record { total = c.total; steps = c.steps }))
  unfolding cheapest_plan_trials night_in
  cheapest_filled c before after w fits choice written =
      let fit = cheapest_fits c before.choice before.plan before.keys w fits in
      let front : take h.nodes c.subjects ≡ each h.nodes (λ i. get_or c.subjects i 0) = front_each c.subjects h.nodes 0 (rw fit.whole fit.few) in (
        passed_then (cheapest_trials s) (three_trials (night_of s) before.choice before.plan before.keys) tt tt w.0 ∙ sym (rw same at fits),
        record {
          subject = λ i. get_or c.subjects i 0;
          least = w.1.least;
          its_total = w.1.its_total;
          its_steps = w.1.its_steps;
          choice = rw same at (choice ∙ ap (λ (x : List ℕ). x ++ drop h.nodes before.choice) front);
          filled = record { plan = rw same at written.0; keys = rw same at written.1 };
        },
      )

-- `offered`: the offer's refusal, a short room, and the rooms filled
pub offered_promises : (s offer : List ℕ) (t : ℕ) → offered_of s offer ≡ answers t → Promised (night_of s)
unfolding offered_of offered_trials
offered_promises s offer t e =
    passed_promises s (passes_append (choice_trials s) (offer_trials (night_of s) offer) (passed (offered_trials s offer) (total (night_of s) (λ i. get_or offer i 0)) t e).0).0

pub offered_uncosted : (s offer : List ℕ) (rooms : Rooms) (r : Refusal) → OfferSays s offer (Err r) → OfferedSays s offer rooms rooms (Err r)
unfolding offered_of offered_plan_trials
offered_uncosted s offer rooms r e =
    (refused_then (offered_trials s offer) (two_trials (night_of s) rooms.plan rooms.keys) (total (night_of s) (λ i. get_or offer i 0)) tt _ _ e, refl)

-- the offer's trials pass, and those of the rooms remain
offered_rest : (s offer : List ℕ) (rooms : Rooms) (t : ℕ) → offered_of s offer ≡ answers t
    → verdict (offered_plan_trials s offer rooms) (tt {0}) ≡ verdict (two_trials (night_of s) rooms.plan rooms.keys) (tt {0})
unfolding offered_of offered_plan_trials
offered_rest s offer rooms t e =
    passed_then (offered_trials s offer) (two_trials (night_of s) rooms.plan rooms.keys) (tt {0}) (tt {0}) (accepted_alike (offered_trials s offer) (total (night_of s) (λ i. get_or offer i 0)) t tt e)

module _ (s offer : List ℕ) (h : Header) (same : h ≡ header_of s) where
  pub offered_short : (rooms : Rooms) (c : Costed) (r : Refusal) → OfferSays s offer (Ok c)
      → refuses (number_of r.reason) r.place ≡ verdict (two_trials (night_in s h) rooms.plan rooms.keys) (tt {0}) → OfferedSays s offer rooms rooms (Err r)
  offered_short rooms c r w short = (offered_rest s offer rooms c.total w.0 ∙ sym (rw same at short), refl)

  pub offered_fits : (c : Costed) (plan keys : List ℕ) → OfferSays s offer (Ok c) → answers tt ≡ verdict (two_trials (night_in s h) plan keys) (tt {0})
      → Promised (night_in s h) × BuiltFor (night_in s h) c.built × (2 * h.nodes ≤ length plan) × (2 * h.attributes ≤ length keys)
  unfolding night_in
  offered_fits c plan keys w fits =
      let sound : Promised (night_in s h) = rw same (offered_promises s offer c.total w.0) in
      let long = two_long (night_in s h) plan keys fits in
      (sound, rw same w.1, long.0, long.1)

  pub offered_filled : (c : Costed) (before after : Rooms) → OfferSays s offer (Ok c)
      → answers tt ≡ verdict (two_trials (night_in s h) before.plan before.keys) (tt {0})
      → WrittenFor (night_in s h) h offer before.plan after.plan before.keys after.keys → after.choice ≡ before.choice → OfferedSays s offer before after (Ok c.total)
  unfolding offered_of night_in
  offered_filled c before after w fits written kept = (
    offered_rest s offer before c.total w.0 ∙ sym (rw same at fits),
    sym (passed (offered_trials s offer) (total (night_of s) (λ i. get_or offer i 0)) c.total w.0).1,
    record { plan = rw same at written.0; keys = rw same at written.1 },
    kept,
  )
