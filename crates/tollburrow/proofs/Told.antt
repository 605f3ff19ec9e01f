-- A code tells the refusal, since number and place of every refusal fit.
use Prim.Native.Nat.{ℕ}
use mathlib.Core.Path.{◌≡◌, refl, sym, ◌∙◌}
use mathlib.Core.List.{List, ◌++◌}
use native.Mathlib.Omega.{arith}
use Rattle.laws.specs.Trials.{Trial, Says, answers, refuses, verdict}
use Rattle.laws.proofs.Trials.{passed, passed_then, refused_then, refused_alike, AllTrials, all_refused, all_map, all_append}
use Rattle.night.specs.Refusals.{number_of}
use Rattle.format.specs.Layout.{file_length, header_of, as_read, night_of}
use Rattle.model.specs.Candidates.{candidate_set}
use Rattle.trials.specs.Trials.{record_trials, tree_trials, trials, check_of}
use Rattle.verdicts.specs.Refusals.{why_trials}
use Rattle.verdicts.specs.Fit.{Fits}
use Rattle.verdicts.proofs.Fit.{Few, few, Reads, fits, reads_fits, body_reads, refusals_fit}
use Rattle.writes.specs.Values.{Values, night_from}
use Rattle.writes.specs.Writing.{count_trials, room_trials, write_trials, write_of}
use Rattle.planning.specs.Answers.{candidates_of, why_of}
use Rattle.tollburrow.specs.Codes.{refusal_code, Told, CodesTold}

counts_fit : (vs : Values) → AllTrials Fits (count_trials vs)
unfolding count_trials
counts_fit vs = (fits (omega arith) (omega arith) (omega arith), (fits (omega arith) (omega arith) (omega arith), (fits (omega arith) (omega arith) (omega arith), tt)))

night_fits : (vs : Values) (room : ℕ) → verdict (count_trials vs) (tt {0}) ≡ answers tt → AllTrials Fits ((record_trials (night_from vs) ++ tree_trials (night_from vs)) ++ room_trials vs room)
unfolding count_trials room_trials night_from as_read
night_fits vs room q =
    let night = record_trials (night_from vs) ++ tree_trials (night_from vs) in
    let counts = few vs.header (passed (count_trials vs) tt tt q).0.1.0 in
    let own : Few (night_from vs).header = record { subjects = counts.subjects; relations = counts.relations; nodes = counts.nodes; grants = counts.grants } in
    all_append Fits night (room_trials vs room) (all_map Reads Fits reads_fits night (body_reads (night_from vs) own)) (fits (omega arith) (omega arith) (omega arith), tt)

told : (n p : ℕ) → Fits n p → Told (refusal_code n p) n p
told n p f = record { some = λ e. omega (arith, f.0); number_back = omega (arith, f.2); place_back = omega (arith, f.2) }

-- the writer's own: the trials of 2, 4 and 3, those of the values' night where the counts are few, and the room's
write_fits : (vs : Values) (room n p : ℕ) → write_of vs room ≡ refuses n p → Fits n p
unfolding write_of write_trials room_trials
write_fits vs room n p e = go (verdict (count_trials vs) (tt {0})) refl
  where
    night : List Trial
    night = record_trials (night_from vs) ++ tree_trials (night_from vs)

    go : (v : Says (Unit {0})) → verdict (count_trials vs) (tt {0}) ≡ v → Fits n p
    go (answers tt) q = all_refused Fits (night ++ room_trials vs room) (file_length vs.header) n p (night_fits vs room q) (sym (passed_then (count_trials vs) (night ++ room_trials vs room) tt (file_length vs.header) q) ∙ e)
    go (refuses m k) q =
        let same : ◌≡◌ {A = Says ℕ} (refuses m k) (refuses n p) = sym (refused_then (count_trials vs) (night ++ room_trials vs room) tt (file_length vs.header) m k q) ∙ e in
        let number : m ≡ n = cc in
        let place : k ≡ p = cc in
        rw (← number, ← place) (all_refused Fits (count_trials vs) tt m k (counts_fit vs) q)

pub codes_told : CodesTold
unfolding check_of candidates_of why_of
codes_told =
    record {
      check = λ s n p e. rw e (told n p (refusals_fit.file s n p (refused_alike (trials s) (header_of s) tt n p e)));
      candidates = λ s i n p e. rw e (told n p (refusals_fit.file s n p (refused_alike (trials s) (candidate_set (night_of s) i) tt n p e)));
      why = λ s i q n p small e. rw e (told n p (refusals_fit.why s i q n p small (refused_alike (why_trials s i q) _ tt n p e)));
      cheapest = λ s before after r says. told (number_of r.reason) r.place (refusals_fit.cheapest s before (number_of r.reason) r.place says.0);
      write = λ vs room n p e. rw e (told n p (write_fits vs room n p e));
      offered = λ s offer before after r says. told (number_of r.reason) r.place (refusals_fit.offered s offer before (number_of r.reason) r.place says.0);
    }
