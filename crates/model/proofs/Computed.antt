-- Two choices of the same total, how subjects stand to small steps, and small cases of the one test, by computation.
use Prim.Native.Nat.{ℕ, zero, suc, ◌<◌}
use mathlib.Core.Path.{◌≡◌, refl, sym}
use native.Mathlib.Omega.{arith}
use lib.Count.{count_trailing_zeros}
use Rattle.laws.specs.Choose.{any_of}
use Rattle.laws.specs.First.{first, somewhere}
use Rattle.laws.specs.Sums.{sum}
use Rattle.laws.specs.Trials.{verdict}
use Rattle.laws.specs.Upwards.{upwards}
use Rattle.sets.specs.Sets.{In, bit, member, union, meet, minus, within, single, lowest, unions}
use Rattle.night.specs.Night.{relation_of, grant_of, node_of, pair_of, step_price, link_price}
use Rattle.night.specs.Kinds.{uses_left, uses_right, its_pair, both_of, pairs_read, reads, read_together, visible_after}
use Rattle.night.specs.Views.{is_for, shares_day, is_for_on, grant_on, view_on, clear_on, sealed_on}
use Rattle.model.specs.Ties.{gathered, tie, merged}
use Rattle.model.specs.Tables.{least_view, tests, ties, joined, result, leaf_table, step_table, table_step, tables, table_of}
use Rattle.model.specs.Candidates.{clear_offends, sealed_offends, tied_offends, may, may_take, is_candidate, candidate_set}
use Rattle.model.specs.Reasons.{looked_at, conditions, reasons, offending, standing}
use Rattle.model.specs.Standings.{Standings}
use Rattle.model.specs.OneTest.{taken_by, splits, out_by, out_of, passes_both, SmallTests}
use Rattle.model.specs.Choice.{Choice, Admissible, owner_of, handed, cost_at, total}
use Rattle.model.specs.Order.{even_night, smaller_last, smaller_first, ReadFromLast}

-- everyone may run both steps
everyone : (candidate_set even_night 1 ≡ 7) × (candidate_set even_night 2 ≡ 7)
unfolding any_of first somewhere upwards bit member union meet minus within single unions grant_of node_of uses_right reads read_together visible_after is_for shares_day is_for_on grant_on view_on clear_on sealed_on gathered tie merged least_view tests ties joined result leaf_table step_table table_step tables table_of clear_offends sealed_offends tied_offends may may_take is_candidate candidate_set
everyone = (refl, refl)

-- so a choice with the owner at the leaf and subjects that are there is admissible
admitted : (c : Choice) → c 0 ≡ 0 → In (c 1) 7 → In (c 2) 7 → Admissible even_night c
unfolding relation_of node_of
admitted c e f g = record { leaf = owners; step = chosen }
  where
    owners : (i : ℕ) → i < 3 → (node_of even_night i).kind ≡ 0 → c i ≡ owner_of even_night i
    owners zero l k = e
    owners (suc zero) l k = absurd (omega arith)
    owners (suc (suc zero)) l k = absurd (omega arith)
    owners (suc (suc (suc i))) l k = absurd (omega arith)

    chosen : (i : ℕ) → i < 3 → ((node_of even_night i).kind ≡ 0 → ⊥) → In (c i) (candidate_set even_night i)
    chosen zero l k = absurd (k refl)
    chosen (suc zero) l k = rw everyone.0 f
    chosen (suc (suc zero)) l k = rw everyone.1 g
    chosen (suc (suc (suc i))) l k = absurd (omega arith)

last_may : Admissible even_night smaller_last
unfolding bit
last_may = admitted smaller_last refl refl refl

same_total : total even_night smaller_first ≡ total even_night smaller_last
unfolding any_of sum node_of step_price link_price uses_left uses_right handed cost_at total
same_total = refl

pub read_from_last : ReadFromLast
unfolding bit
read_from_last =
    record {
      last_may = last_may;
      first_may = admitted smaller_first refl refl refl;
      same_total = same_total;
      first_not = λ L. L.earliest smaller_last last_may (sym same_total) (record { node = 2; there = omega arith; smaller = omega arith; same_after = λ j l m. absurd (omega arith) });
    }

pub standings : Standings
unfolding any_of first somewhere upwards verdict bit member union meet minus within single unions lowest count_trailing_zeros node_of pair_of uses_right its_pair both_of pairs_read reads read_together visible_after gathered tie merged least_view tests ties joined result leaf_table step_table table_step tables table_of clear_offends sealed_offends tied_offends looked_at conditions reasons offending standing
standings =
    record {
      candidate = refl;
      left_1 = refl;
      left_2 = refl;
      left_3 = refl;
      right_1 = refl;
      right_2 = refl;
      right_3 = refl;
      result_3 = refl;
      one_operand = refl;
      no_right = refl;
      first_before_second = refl;
      second_before_third = refl;
      left_before_right = refl;
      right_before_result = refl;
      lowest_clear = refl;
      lowest_sealed = refl;
      lowest_visible = refl;
      lowest_hidden = refl;
      lowest_of_two = refl;
      first_tied = refl;
      tied_behind = refl;
      tied_alone = refl;
      tied_sealed = refl;
      pairs_each = refl;
      pair_needed = refl;
      pair_half = refl;
      last_pair_half = refl;
      third_pair_half = refl;
      pair_past = refl;
      pairs_shared = refl;
    }

pub small_tests : SmallTests
unfolding any_of first somewhere upwards bit member union meet minus within single unions grant_of node_of pair_of uses_right its_pair both_of pairs_read reads read_together visible_after is_for shares_day is_for_on grant_on view_on clear_on sealed_on gathered tie merged least_view tests ties joined result leaf_table step_table table_step tables table_of clear_offends sealed_offends taken_by splits out_by out_of passes_both tied_offends may may_take is_candidate candidate_set
small_tests =
    record {
      half = refl;
      unseen = refl;
      in-clear = refl;
      in_sealed = refl;
      nothing = refl;
      out_half = refl;
      out_all = refl;
      out_one = refl;
      out-tied = refl;
      out_later = refl;
      two_clear = refl;
      two_sealed = refl;
      two_tied = (refl, refl);
      one_sealed = refl;
      passes = refl;
      not_clear = refl;
      not_sealed = refl;
      of_join = refl;
      of_select = refl;
      of_project = refl;
      still_out = refl;
      third_passes = refl;
      grown = refl;
      pairs_apart = (refl, refl);
      pairs_visible = (refl, refl);
    }
