-- Number and place of every refusal fit: a place past the header is a count that the header's trials let through, or below one.
use Prim.Native.Nat.{ℕ, ◌+◌, ◌*◌, ◌<◌, ◌≤◌}
use mathlib.Core.Path.{◌≡◌, refl, sym, ap, ◌∙◌}
use mathlib.Core.Bool.{false}
use mathlib.Core.List.{List, ◌++◌, append_assoc}
use native.Mathlib.Nat.{mul-le-mul}
use native.Mathlib.Omega.{arith}
use borrow.Author.Tests.{ltb-false}
use Rattle.laws.specs.Trials.{Trial, Says, answers, refuses, verdict}
use Rattle.laws.proofs.Cases.{none-of}
use Rattle.laws.proofs.Trials.{passed, passed_then, refused_then, AllTrials, all_refused, all_map, all_append, all_rows}
use Rattle.night.specs.declared.Header.{Header}
use Rattle.night.specs.Night.{Night}
use Rattle.format.specs.Layout.{header_of, night_in, night_of}
use Rattle.trials.specs.Rules.{counts_bad}
use Rattle.trials.specs.declared.Section.{Section}
use Rattle.trials.specs.declared.Section.TheVariants.{Relations, Grants, Owners, Nodes, Parents, Prices}
use Rattle.trials.specs.Trials.{header_trials, count_in, trials_of, section, left_trials, record_trials, tree_trials, trials}
use Rattle.verdicts.specs.Refusals.{user_trials, choice_trials, candidate_trials, steps_trials, offer_trials, choice_room_trials, plan_room_trials, keys_room_trials, cheapest_trials, cheapest_plan_trials, offered_trials, offered_plan_trials, asked_trials, why_trials}
use Rattle.verdicts.specs.Fit.{Fits, RefusalsFit}

-- counts that bound the places
pub record Few (h : Header) : Type 0 where
  pub subjects : h.subjects ≤ 16
  pub relations : h.relations ≤ 16
  pub nodes : h.nodes ≤ 64
  pub grants : h.grants ≤ 272

pub few : (h : Header) → counts_bad h ≡ false → Few h
unfolding counts_bad
few h e =
    let q = none-of _ e in
    record {
      subjects = ltb-false 16 h.subjects q.1.0;
      relations = ltb-false 16 h.relations q.1.1.1.0;
      nodes = ltb-false 64 h.nodes q.1.1.1.1.1.1.1.0;
      grants = ltb-false 272 h.grants q.1.1.1.1.1.1.1.1.0;
    }

-- a number and place of reading, 1 to 11, and a small number and place
abbrev pub Reads : ℕ → ℕ → Type 0
Reads n p = (1 ≤ n) × (n < 12) × (p < 10000)

pub fits : {n p : ℕ} → 1 ≤ n → n < 256 → p < 10000 → Fits n p
fits some low small = (some, low, omega arith)

pub reads_fits : (n p : ℕ) → Reads n p → Fits n p
reads_fits n p q = fits q.0 (omega (arith, q.1)) q.2

module _ (N : Night) (counts : Few N.header) where
  -- a price's place
  price_place : (i p : ℕ) → i < N.header.nodes + N.header.subjects → p < N.header.subjects → i * N.header.subjects + p < 10000
  price_place i p l m = omega (arith, mul-le-mul {n₁ = i} {m₁ = N.header.subjects} {n₂ = 80} {m₂ = 16} (omega (arith, counts.nodes, counts.subjects)) counts.subjects, counts.subjects)

  record_reads : (part : Section) (i : ℕ) → i < count_in N.header part → AllTrials Reads (trials_of N part i)
  unfolding count_in trials_of
  record_reads Relations i l = ((omega arith, omega arith, omega (arith, counts.relations)), tt)
  record_reads Grants i l =
      let small : i < 10000 = omega (arith, counts.grants) in
      ((omega arith, omega arith, small), ((omega arith, omega arith, small), tt))
  record_reads Owners i l = ((omega arith, omega arith, omega (arith, counts.relations)), tt)
  record_reads Nodes i l =
      let small : i < 10000 = omega (arith, counts.nodes) in
      ((omega arith, omega arith, small), ((omega arith, omega arith, small), ((omega arith, omega arith, small), tt)))
  record_reads Parents i l = ((omega arith, omega arith, omega (arith, counts.nodes)), tt)
  record_reads Prices i l = all_rows Reads _ N.header.subjects (λ p m. ((omega arith, omega arith, price_place i p l m), tt))

  section_reads : (part : Section) → AllTrials Reads (section N part)
  unfolding section
  section_reads part = all_rows Reads (trials_of N part) (count_in N.header part) (record_reads part)

  -- sections one after the other
  both : (a b : Section) → AllTrials Reads (section N a ++ section N b)
  both a b = all_append Reads (section N a) (section N b) (section_reads a) (section_reads b)

  records_read : AllTrials Reads (record_trials N)
  unfolding record_trials
  records_read =
      all_append Reads (section N Relations) (left_trials N ++ (section N Grants ++ section N Owners)) (section_reads Relations)
      ((omega arith, omega arith, omega (arith, counts.relations)), both Grants Owners)

  tree_reads : AllTrials Reads (tree_trials N)
  unfolding tree_trials
  tree_reads = all_append Reads (section N Nodes) (section N Parents ++ section N Prices) (section_reads Nodes) (both Parents Prices)

  pub body_reads : AllTrials Reads (record_trials N ++ tree_trials N)
  body_reads = all_append Reads (record_trials N) (tree_trials N) records_read tree_reads

  user_fits : AllTrials Fits (user_trials N)
  unfolding user_trials
  user_fits = all_rows Fits _ N.header.nodes (λ i l. (fits (omega arith) (omega arith) (omega (arith, counts.nodes)), tt))

  candidates_fit : AllTrials Fits (candidate_trials N ++ steps_trials N)
  unfolding candidate_trials steps_trials
  candidates_fit =
      all_append Fits (candidate_trials N) (steps_trials N) (all_rows Fits _ N.header.nodes (λ i l. (fits (omega arith) (omega arith) (omega (arith, counts.nodes)), tt)))
      (fits (omega arith) (omega arith) (omega arith), tt)

  offer_fits : (offer : List ℕ) → AllTrials Fits (offer_trials N offer)
  unfolding offer_trials
  offer_fits offer = (
    fits (omega arith) (omega arith) (omega (arith, counts.nodes)),
    all_rows Fits _ N.header.nodes (λ i l. (fits (omega arith) (omega arith) (omega (arith, counts.nodes)), tt)),
  )

  plan_rooms_fit : (plan keys : List ℕ) → AllTrials Fits (plan_room_trials N plan ++ keys_room_trials N keys)
  unfolding plan_room_trials keys_room_trials
  plan_rooms_fit plan keys = (fits (omega arith) (omega arith) (omega arith), (fits (omega arith) (omega arith) (omega arith), tt))

  rooms_fit : (choice plan keys : List ℕ) → AllTrials Fits (choice_room_trials N choice ++ (plan_room_trials N plan ++ keys_room_trials N keys))
  unfolding choice_room_trials
  rooms_fit choice plan keys = (fits (omega arith) (omega arith) (omega arith), plan_rooms_fit plan keys)

at_zero : (n : ℕ) → 1 ≤ n → n < 12 → Reads n 0
at_zero n some low = (some, low, omega arith)

-- the header's trials, and then whatever is so of the trials that follow where the counts are few
header_reads : (s : List ℕ) → AllTrials Reads (header_trials s)
unfolding header_trials
header_reads s = (at_zero 1 (omega arith) (omega arith), (at_zero 2 (omega arith) (omega arith), (at_zero 3 (omega arith) (omega arith), (at_zero 4 (omega arith) (omega arith), (at_zero 3 (omega arith) (omega arith), tt)))))

counted : (s : List ℕ) → verdict (header_trials s) (tt {0}) ≡ answers tt → Few (header_of s)
unfolding header_trials
counted s q = few (header_of s) (passed (header_trials s) tt tt q).0.1.1.1.0

-- four rows of trials, one after the other
in-turn : {r : Says (Unit {0})} (a b c d : List Trial) → verdict (((a ++ b) ++ c) ++ d) (tt {0}) ≡ r → verdict (a ++ (b ++ (c ++ d))) (tt {0}) ≡ r
in-turn a b c d e = ap (λ (ts : List Trial). verdict ts (tt {0})) (sym (append_assoc (a ++ b) c d ∙ append_assoc a b (c ++ d))) ∙ e

module _ (Q : ℕ → ℕ → Type 0) (reading : (n p : ℕ) → Reads n p → Q n p) (s : List ℕ) where
  after_header : (more : List Trial) (n p : ℕ) → (Few (header_of s) → AllTrials Q more) → verdict (header_trials s ++ more) (tt {0}) ≡ refuses n p → Q n p
  after_header more n p h e = go (verdict (header_trials s) (tt {0})) refl
    where
      go : (v : Says (Unit {0})) → verdict (header_trials s) (tt {0}) ≡ v → Q n p
      go (answers a) q = all_refused Q more (tt {0}) n p (h (counted s q)) (sym (passed_then (header_trials s) more tt (tt {0}) q) ∙ e)
      go (refuses m k) q = reading n p (all_refused Reads (header_trials s) (tt {0}) n p (header_reads s) (q ∙ sym (refused_then (header_trials s) more tt (tt {0}) m k q) ∙ e))

  pub after_trials : (more : List Trial) (n p : ℕ) → (Few (header_of s) → AllTrials Q more) → verdict (trials s ++ more) (tt {0}) ≡ refuses n p → Q n p
  unfolding trials night_in
  after_trials more n p h e =
      let body = record_trials (night_of s) ++ tree_trials (night_of s) in
      after_header (body ++ more) n p (λ counts. all_append Q body more (all_map Reads Q reading body (body_reads (night_of s) counts)) (h counts)) (rw append_assoc at e)

pub refusals_fit : RefusalsFit
unfolding trials choice_trials cheapest_plan_trials cheapest_trials offered_plan_trials offered_trials asked_trials why_trials night_in
refusals_fit =
    record {
      file = λ s n p e. after_header Fits reads_fits s (record_trials (night_of s) ++ tree_trials (night_of s)) n p (λ counts. all_map Reads Fits reads_fits (record_trials (night_of s) ++ tree_trials (night_of s)) (body_reads (night_of s) counts)) e;
      cheapest = λ s rooms n p e.
          let N = night_of s in
          let chosen = candidate_trials N ++ steps_trials N in
          let lent = choice_room_trials N rooms.choice ++ (plan_room_trials N rooms.plan ++ keys_room_trials N rooms.keys) in
          after_trials Fits reads_fits s (user_trials N ++ (chosen ++ lent)) n p
          (λ counts.
          all_append Fits (user_trials N) (chosen ++ lent) (user_fits N counts)
          (all_append Fits chosen lent (candidates_fit N counts) (rooms_fit N counts rooms.choice rooms.plan rooms.keys)))
          (in-turn (trials s) (user_trials N) chosen lent e);
      offered = λ s offer rooms n p e.
          let N = night_of s in
          let lent = plan_room_trials N rooms.plan ++ keys_room_trials N rooms.keys in
          after_trials Fits reads_fits s (user_trials N ++ (offer_trials N offer ++ lent)) n p
          (λ counts.
          all_append Fits (user_trials N) (offer_trials N offer ++ lent) (user_fits N counts)
          (all_append Fits (offer_trials N offer) lent (offer_fits N counts offer) (plan_rooms_fit N counts rooms.plan rooms.keys)))
          (in-turn (trials s) (user_trials N) (offer_trials N offer) lent e);
      why = λ s i p n q small e. after_trials Fits reads_fits s (asked_trials (night_of s) i p) n q (λ counts. ((omega arith, omega arith, small), tt)) e;
    }
