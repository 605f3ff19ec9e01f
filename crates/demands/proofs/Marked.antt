-- The facts that document 01 marks as proved, by computation.
use Prim.Native.Nat.{ℕ}
use mathlib.Core.Path.{◌≡◌, refl, sym, ap, ◌∙◌}
use mathlib.Core.Bool.{true, false}
use mathlib.Core.List.{List, [], ◌∷◌}
use native.Mathlib.Nat.{le_antisymm}
use native.Mathlib.Omega.{arith}
use lib.Count.{ones}
use lib.ListN.{get_or}
use Rattle.laws.specs.Choose.{any_of}
use Rattle.laws.specs.BigEndian.{be}
use Rattle.laws.specs.First.{first, somewhere}
use Rattle.laws.specs.Sums.{sum}
use Rattle.laws.specs.Trials.{answers}
use Rattle.laws.specs.Upwards.{upwards}
use Rattle.sets.specs.Sets.{bit, member, union, meet, minus, within, single, size, unions}
use Rattle.night.specs.declared.Header.{Header}
use Rattle.night.specs.Versions.{delivers, header_length, has_pairs, node_length, has_days, grant_length}
use Rattle.night.specs.Night.{Night, relation_of, grant_of, node_of, step_price, link_price, pair_of}
use Rattle.night.specs.Kinds.{uses_left, uses_right, reads, read_together, visible_after, its_pair, both_of, pairs_read}
use Rattle.night.specs.Promised.{Promised}
use Rattle.night.specs.Views.{any_subject, is_for, shares_day, is_for_on, grant_on, view_of, clear_of, sealed_of, view_on, clear_on, sealed_on}
use Rattle.format.specs.Layout.{grants_from, nodes_from, step_prices_from, link_prices_from, header_of, relation_at, grant_at, node_at, prices_at, night_in, night_of, pairs_from, pairs_in, pair_at}
use Rattle.model.specs.Ties.{gathered, tie, merged}
use Rattle.model.specs.Tables.{least_view, tests, ties, joined, result, leaf_table, step_table, table_step, tables, table_of}
use Rattle.model.specs.Candidates.{clear_offends, sealed_offends, tied_offends, may, may_take, is_candidate, candidate_set}
use Rattle.model.specs.Choice.{Choice, AllHave, Least, total, weight, steps_at, steps}
use Rattle.model.specs.Dp.{subjects_of, least_of, better, handed_on, best_of, best_child, row_entry, row_step, cost_rows, best_last}
use Rattle.verdicts.specs.Refusals.{without_candidate}
use Rattle.model.proofs.TableLaws.{union_none, function_ties}
use Rattle.model.proofs.Dp.{dp_least, least_there, chosen_total}
use Rattle.trials.proofs.Opened.{accepted_header}
use Rattle.trials.proofs.Promises.{accepted_promises}
use Rattle.choosing.proofs.Answered.{none_below, all_have}
use Rattle.planning.specs.Answers.{candidates_of}
use Rattle.planning.proofs.Answered.{candidates_accepted}
use Rattle.demands.specs.Sample.{sample}
use Rattle.demands.specs.SampleNight.{sample_in, sample_night}
use Rattle.demands.specs.Marked.{conditions, Marked}
use Rattle.demands.proofs.SampleVerdicts.{said}

-- what is computed: the values of the bytes; the candidates of steps, the steps, that every step has a candidate, and the least cost of the last node; and
-- which conditions hold of the profile, and who sees D how
computed :
    (night_of sample ≡ sample_night)
    × (candidate_set sample_night 1 ∷ candidate_set sample_night 3 ∷ candidate_set sample_night 4 ∷ candidate_set sample_night 5 ∷ [] ≡ 63 ∷ 61 ∷ 61 ∷ 20 ∷ [])
    × (steps sample_night ≡ 76)
    × (first (without_candidate sample_night) 6 ≡ 6)
    × (least_of (best_last sample_night (cost_rows sample_night)) ≡ 14)
    × (conditions 4 ≡ true ∷ true ∷ true ∷ [])
    × (conditions 0 ≡ false ∷ true ∷ true ∷ [])
    × (conditions 2 ≡ true ∷ false ∷ true ∷ [])
    × (conditions 1 ≡ true ∷ true ∷ false ∷ [])
    × (member (sealed_of sample_night 1) 2 ≡ true)
    × (member (clear_of sample_night 1) 2 ≡ false)
    × (member (view_of sample_night any_subject 0).clear 2 ≡ true)
unfolding delivers has_pairs node_length header_length any_of be first somewhere upwards bit member union meet minus within single unions grant_of pair_of node_of uses_right its_pair both_of pairs_read reads read_together visible_after is_for shares_day is_for_on grant_on view_on clear_on sealed_on grants_from pairs_from pairs_in nodes_from step_prices_from link_prices_from header_of relation_at grant_at pair_at node_at prices_at night_in gathered tie merged least_view tests ties joined result leaf_table step_table table_step tables table_of clear_offends sealed_offends tied_offends may may_take is_candidate candidate_set sample sample_in ones size sum uses_left weight steps_at steps relation_of step_price link_price subjects_of better handed_on best_of best_child row_entry row_step cost_rows best_last without_candidate has_days grant_length
computed = (refl, refl, refl, refl, refl, refl, refl, refl, refl, refl, refl, refl)

-- and so of the bytes, which reading accepts with this header
abbrev head : Header
head = record { version = 1; subjects = 6; relations = 2; attributes = 6; nodes = 6; grants = 14; steps = 76; user = 0; pairs = 0; day = 0 }

of_bytes : (i set : ℕ) → candidate_set sample_night i ≡ set → candidates_of sample i ≡ answers set
of_bytes i set e =
    let same : night_in sample head ≡ sample_night = rw (← accepted_header sample head said.0) computed.0 in
    candidates_accepted sample head i said.0 ∙ ap (λ (N : Night). answers (candidate_set N i)) same ∙ ap answers e

-- the choice that is worked out costs that, and so does every other cheapest choice
pub sound : Promised sample_night
sound = rw computed.0 at (accepted_promises sample head said.0)

have : AllHave sample_night
unfolding sample_in
have = all_have sample_night sound (none_below (without_candidate sample_night) 6 6 (sym computed.3) (omega arith))

total_of : (c : Choice) → Least sample_night c → total sample_night c ≡ 14
total_of c L =
    let D = dp_least sample_night sound have in
    le_antisymm (L.cheapest _ D.admissible) (D.cheapest c L.admissible) ∙ chosen_total sample_night sound have ∙ computed.4

pub marked : Marked
marked =
    record {
      decoded = computed.0;
      y_may = computed.5;
      h_fails_first = computed.6;
      u_fails_second = computed.7;
      i_fails_third = computed.8;
      i_sees_d_sealed = computed.9;
      i_sees_d_not_clear = computed.10;
      any_has_d_clear = computed.11;
      node_1 = of_bytes 1 63 (ap (λ (l : List ℕ). get_or l 0 0) computed.1);
      node_3 = of_bytes 3 61 (ap (λ (l : List ℕ). get_or l 1 0) computed.1);
      node_4 = of_bytes 4 61 (ap (λ (l : List ℕ). get_or l 2 0) computed.1);
      node_5 = of_bytes 5 20 (ap (λ (l : List ℕ). get_or l 3 0) computed.1);
      steps_all = rw computed.0 computed.2;
      least_there = rw computed.0 (least_there sample_night sound have);
      total_least = rw computed.0 total_of;
      function_ties = function_ties;
      function_ties_alone = λ N v a l r low e s none. function_ties N v a l r low e s ∙ rw (none, union_none (single 64 a)) refl;
    }
