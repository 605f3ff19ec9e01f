-- The table of verdicts, row by row, by computation.
use mathlib.Core.Path.{refl}
use lib.Count.{ones}
use Rattle.laws.specs.BigEndian.{be}
use Rattle.laws.specs.Choose.{any_of}
use Rattle.laws.specs.First.{first, somewhere}
use Rattle.laws.specs.Sums.{sum}
use Rattle.laws.specs.Trials.{verdict, rows}
use Rattle.laws.specs.Upwards.{upwards}
use Rattle.sets.specs.Sets.{bit, member, union, meet, minus, within, apart, below, single, size, unions}
use Rattle.night.specs.Versions.{known, delivers, header_length, has_pairs, node_length, last_kind, has_days, grant_length}
use Rattle.night.specs.Night.{relation_of, grant_of, node_of, step_price, link_price, pair_of}
use Rattle.night.specs.Kinds.{uses_left, uses_right, uses_x, uses_y, uses_set, uses_pairs, its_pair, both_of, pairs_read, reads, read_together, visible_after, visible_step, visibles, is_child, taken}
use Rattle.night.specs.Views.{is_for, shares_day, is_for_on, grant_on, view_on, clear_on, sealed_on}
use Rattle.trials.specs.Rules.{user_bad, counts_bad, relation_bad, left_over, subject_there, grant_bad, owner_bad, child_bad, left_bad, right_bad, unused_bad, shape_bad, leaf_bad, x_bad, y_bad, set_bad, place_bad, step_bad, half, needed_bad, most_for_step, most_for_link, names_bad, pair_bad, pairs_bad}
use Rattle.format.specs.Layout.{grants_from, nodes_from, step_prices_from, link_prices_from, file_length, header_of, relation_at, grant_at, node_at, prices_at, night_in, pairs_from, pairs_in, pair_at}
use Rattle.model.specs.Ties.{gathered, tie, merged}
use Rattle.model.specs.Tables.{least_view, tests, ties, joined, result, leaf_table, step_table, table_step, tables, table_of}
use Rattle.model.specs.Candidates.{clear_offends, sealed_offends, tied_offends, may, may_take, is_candidate, candidate_set}
use Rattle.model.specs.Choice.{weight, steps_at, steps}
use Rattle.trials.specs.Trials.{not_marked, not_versioned, header_trials, taken_before, pair_seen, is_leaf_of, leaf_before, attributes_bad, price_in, most_in, count_in, trials_of, section, record_trials, tree_trials, trials}
use Rattle.trials.specs.Small.{small}
use Rattle.trials.proofs.Computed.{file_verdicts}
use Rattle.verdicts.specs.Refusals.{kept_from_user, user_trials, choice_trials, without_candidate, candidate_trials, steps_trials, offer_bad, offer_trials, choice_room_trials, plan_room_trials, keys_room_trials, cheapest_trials, cheapest_plan_trials, offered_trials, offered_plan_trials, no_step, asked_trials, why_trials}
use Rattle.verdicts.specs.Verdicts.{Verdicts}

pub verdicts : Verdicts
unfolding any_of be first somewhere verdict rows upwards bit member union meet minus within apart below single unions relation_of grant_of pair_of node_of step_price link_price uses_left uses_right uses_x uses_y uses_set uses_pairs its_pair both_of pairs_read reads read_together visible_after visible_step visibles is_child taken is_for shares_day is_for_on grant_on view_on last_kind known delivers has_pairs node_length header_length user_bad counts_bad relation_bad left_over subject_there grant_bad owner_bad child_bad left_bad right_bad names_bad unused_bad shape_bad leaf_bad x_bad y_bad set_bad place_bad pair_bad pairs_bad step_bad half needed_bad most_for_step most_for_link grants_from pairs_from pairs_in nodes_from step_prices_from link_prices_from file_length header_of relation_at grant_at pair_at node_at prices_at night_in not_marked not_versioned header_trials taken_before pair_seen is_leaf_of leaf_before attributes_bad price_in most_in count_in trials_of section record_trials tree_trials trials ones sum size gathered tie merged least_view tests ties joined result leaf_table step_table table_step tables table_of clear_offends sealed_offends tied_offends may may_take is_candidate candidate_set weight steps_at steps kept_from_user user_trials choice_trials without_candidate candidate_trials steps_trials offer_bad offer_trials choice_room_trials plan_room_trials keys_room_trials cheapest_trials cheapest_plan_trials offered_trials offered_plan_trials no_step asked_trials why_trials small has_days grant_length clear_on sealed_on
verdicts =
    record {
      file = file_verdicts;
      file_before_candidates = refl;
      user_may = refl;
      user_blind = refl;
      user_sealed = refl;
      file_before_user = refl;
      user_before_candidates = refl;
      user_before_steps = refl;
      user_leaf_alone = refl;
      user_before_rooms = refl;
      candidate_none = refl;
      candidates_before_steps = refl;
      steps_enough = refl;
      steps_short = refl;
      steps_before_rooms = refl;
      rooms_enough = refl;
      rooms_longer = refl;
      choice_short = refl;
      plan_short = refl;
      keys_short = refl;
      choice_before_plan = refl;
      plan_before_keys = refl;
      plan_by_nodes = refl;
      keys_by_attributes = refl;
      file_before_offer = refl;
      file_before_offer_user = refl;
      user_before_offer_length = refl;
      user_before_offer = refl;
      user_offers = refl;
      offer_enough = refl;
      offer_without_candidate = refl;
      offer_shorter = refl;
      offer_longer = refl;
      length_before_subjects = refl;
      offer_owner = refl;
      offer_candidate = refl;
      offer_missing = refl;
      offer_lowest = refl;
      step_before_leaf = refl;
      offer_before_rooms = refl;
      offered_plan_short = refl;
      offered_keys_short = refl;
      offered_plan_before_keys = refl;
      file_before_asked = refl;
      asked = refl;
      user_unasked = refl;
      asked_without_candidate = refl;
      asked_leaf = refl;
      asked_past = refl;
      asked_far = refl;
      asked_subject = refl;
      pairs_may = refl;
      pairs_user_sealed = refl;
      pairs_user_first = refl;
      pairs_steps_short = refl;
      pairs_offered = refl;
      pairs_offer_candidate = refl;
      day_user_may = refl;
      day_user_sealed = refl;
      day_owner_first = refl;
      day_steps_enough = refl;
      day_steps_short = refl;
      day_offered = refl;
      day_offer_early = refl;
    }
