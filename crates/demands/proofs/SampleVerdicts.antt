-- What is said of the sample night's bytes, and of them with each subject as user, by computation.
use mathlib.Core.Path.{◌≡◌, refl}
use lib.Count.{ones}
use Rattle.laws.specs.BigEndian.{be}
use Rattle.laws.specs.Choose.{any_of}
use Rattle.laws.specs.First.{first, somewhere}
use Rattle.laws.specs.Upwards.{upwards}
use Rattle.sets.specs.Sets.{bit, member, union, meet, minus, within, apart, single, unions, below, size}
use Rattle.night.specs.Versions.{delivers, header_length, known, has_pairs, has_days, grant_length, node_length, last_kind}
use Rattle.night.specs.Night.{relation_of, grant_of, node_of, step_price, link_price, pair_of}
use Rattle.night.specs.Kinds.{uses_left, uses_right, reads, read_together, visible_after, visible_step, visibles, uses_x, uses_y, uses_set, is_child, taken, its_pair, both_of, pairs_read, uses_pairs}
use Rattle.night.specs.Views.{is_for, shares_day, is_for_on, grant_on, view_on, clear_on, sealed_on}
use Rattle.format.specs.Layout.{grants_from, nodes_from, step_prices_from, link_prices_from, header_of, relation_at, grant_at, node_at, prices_at, night_in, file_length, pairs_from, pairs_in, pair_at}
use Rattle.model.specs.Ties.{gathered, tie, merged}
use Rattle.model.specs.Tables.{least_view, tests, ties, joined, result, leaf_table, step_table, table_step, tables, table_of}
use Rattle.model.specs.Candidates.{clear_offends, sealed_offends, tied_offends, may, may_take, is_candidate, candidate_set}
use Rattle.model.specs.Choice.{weight, steps_at, steps}
use Rattle.trials.specs.Small.{with_user}
use Rattle.verdicts.specs.Refusals.{offer_bad, kept_from_user, user_trials, choice_trials, without_candidate, candidate_trials, steps_trials, offer_trials, choice_room_trials, plan_room_trials, keys_room_trials, cheapest_trials, cheapest_plan_trials, offered_trials, offered_plan_trials, no_step, asked_trials, why_trials, choosing_of}
use Rattle.demands.specs.Sample.{sample}
use Rattle.laws.specs.Sums.{sum}
use Rattle.laws.specs.Trials.{verdict, rows, answers, refuses}
use Rattle.trials.specs.Rules.{user_bad, counts_bad, relation_bad, left_over, subject_there, grant_bad, owner_bad, child_bad, left_bad, right_bad, unused_bad, shape_bad, leaf_bad, x_bad, y_bad, set_bad, place_bad, step_bad, half, needed_bad, most_for_step, most_for_link, names_bad, pair_bad, pairs_bad}
use Rattle.trials.specs.Trials.{not_marked, not_versioned, header_trials, taken_before, pair_seen, is_leaf_of, leaf_before, attributes_bad, price_in, most_in, count_in, trials_of, section, record_trials, tree_trials, trials, check_of}
use Rattle.verdicts.specs.Verdicts.{cheapest, room}

-- of the file; of H, of I, of U twice, and of the others as user
pub said :
    (check_of sample ≡ answers (record { version = 1; subjects = 6; relations = 2; attributes = 6; nodes = 6; grants = 14; steps = 76; user = 0; pairs = 0; day = 0 }))
    × (cheapest (with_user 0 sample) (room 6 12 12) ≡ refuses 17 2)
    × (cheapest (with_user 1 sample) (room 6 12 12) ≡ refuses 17 0)
    × (cheapest (with_user 2 sample) (room 6 12 12) ≡ answers tt)
    × (choosing_of (with_user 2 sample) ≡ answers (record { version = 2; subjects = 6; relations = 2; attributes = 6; nodes = 6; grants = 14; steps = 76; user = 2; pairs = 0; day = 0 }))
    × (cheapest (with_user 3 sample) (room 6 12 12) ≡ refuses 17 0)
    × (cheapest (with_user 4 sample) (room 6 12 12) ≡ refuses 17 0)
    × (cheapest (with_user 5 sample) (room 6 12 12) ≡ refuses 17 0)
    × (cheapest (with_user 6 sample) (room 6 12 12) ≡ refuses 4 0)
unfolding any_of be first somewhere verdict rows upwards bit member union meet minus within apart below single unions relation_of grant_of pair_of node_of step_price link_price uses_left uses_right uses_x uses_y uses_pairs uses_set its_pair both_of pairs_read reads read_together visible_after visible_step visibles is_child taken is_for shares_day is_for_on grant_on view_on last_kind known delivers has_pairs has_days grant_length node_length header_length user_bad counts_bad relation_bad left_over subject_there grant_bad owner_bad child_bad left_bad right_bad names_bad unused_bad shape_bad leaf_bad x_bad y_bad set_bad place_bad pair_bad pairs_bad step_bad half needed_bad most_for_step most_for_link grants_from pairs_from pairs_in nodes_from step_prices_from link_prices_from file_length header_of relation_at grant_at pair_at node_at prices_at night_in not_marked not_versioned header_trials taken_before pair_seen is_leaf_of leaf_before attributes_bad price_in most_in count_in trials_of section record_trials tree_trials trials ones sum size clear_on sealed_on gathered tie merged least_view tests ties joined result leaf_table step_table table_step tables table_of clear_offends sealed_offends tied_offends may may_take is_candidate candidate_set weight steps_at steps kept_from_user user_trials choice_trials without_candidate candidate_trials steps_trials offer_bad offer_trials choice_room_trials plan_room_trials keys_room_trials cheapest_trials cheapest_plan_trials offered_trials offered_plan_trials no_step asked_trials why_trials sample check_of choosing_of
said = (refl, refl, refl, refl, refl, refl, refl, refl, refl)
