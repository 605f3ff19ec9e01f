-- The table of verdicts, row by row, by computation.
use mathlib.Core.Path.{refl}
use Rattle.laws.specs.BigEndian.{be, bytes}
use Rattle.laws.specs.Choose.{any_of}
use Rattle.laws.specs.First.{first, somewhere}
use Rattle.laws.specs.InOrder.{in_order}
use Rattle.laws.specs.Trials.{verdict, rows}
use Rattle.laws.specs.Upwards.{upwards}
use Rattle.sets.specs.Sets.{bit, member, union, meet, minus, within, apart, below, single, unions}
use Rattle.night.specs.Versions.{known, delivers, has_pairs, last_kind, header_length, node_length, has_days, grant_length}
use Rattle.night.specs.Night.{relation_of, grant_of, node_of, pair_of, step_price, link_price}
use Rattle.night.specs.Kinds.{uses_left, uses_right, uses_x, uses_y, uses_set, uses_pairs, its_pair, both_of, pairs_read, reads, read_together, visible_after, visible_step, visibles, is_child, taken}
use Rattle.night.specs.Views.{is_for, shares_day, is_for_on, grant_on, view_on}
use Rattle.trials.specs.Rules.{user_bad, counts_bad, relation_bad, left_over, subject_there, grant_bad, owner_bad, child_bad, left_bad, right_bad, unused_bad, names_bad, shape_bad, leaf_bad, x_bad, y_bad, set_bad, place_bad, step_bad, pair_bad, pairs_bad, half, needed_bad, most_for_step, most_for_link}
use Rattle.night.specs.Days.{in_version}
use Rattle.format.specs.Layout.{grants_from, nodes_from, pairs_from, pairs_in, step_prices_from, link_prices_from, file_length, header_of, relation_at, grant_at, node_at, pair_at, prices_at, night_in, header_bytes, as_read, relation_bytes, grant_bytes, grant_as_read, node_bytes, node_as_read}
use Rattle.trials.specs.Trials.{not_marked, not_versioned, header_trials, taken_before, pair_seen, is_leaf_of, leaf_before, attributes_bad, price_in, most_in, count_in, trials_of, section, record_trials, tree_trials}
use Rattle.trials.specs.Small.{small}
use Rattle.writes.specs.Values.{rows_of, night_from, file_bytes, values_of, read_as}
use Rattle.writes.specs.Writing.{miscounted, miscounted_by, count_trials, room_trials, write_trials, write_of, rewrite_of}
use Rattle.writes.specs.Small.{small_values}
use Rattle.writes.specs.Verdicts.{WriteVerdicts}

pub write_verdicts : WriteVerdicts
unfolding be bytes any_of first somewhere in_order verdict rows upwards bit member union meet minus within apart below single unions known delivers header_length relation_of grant_of node_of step_price link_price uses_left uses_right uses_x uses_y uses_set reads read_together visible_after visible_step visibles is_child taken is_for shares_day is_for_on grant_on view_on user_bad counts_bad relation_bad left_over subject_there grant_bad owner_bad child_bad left_bad right_bad unused_bad shape_bad leaf_bad x_bad y_bad set_bad place_bad step_bad half needed_bad most_for_step most_for_link grants_from nodes_from step_prices_from link_prices_from file_length header_of header_bytes as_read relation_at relation_bytes grant_at grant_bytes grant_as_read node_at node_bytes prices_at night_in not_marked not_versioned header_trials taken_before pair_seen is_leaf_of leaf_before attributes_bad price_in most_in count_in trials_of section record_trials tree_trials small rows_of night_from file_bytes values_of miscounted miscounted_by count_trials room_trials write_trials write_of rewrite_of small_values has_pairs last_kind node_length pair_of uses_pairs its_pair both_of pairs_read names_bad pair_bad pairs_bad pairs_from pairs_in pair_at node_as_read has_days grant_length read_as in_version
write_verdicts =
    record {
      values_stand = refl;
      values_user = refl;
      values_prices = refl;
      values_pairs = refl;
      values_own = refl;
      values_days = refl;
      night_same = refl;
      night_steps = refl;
      night_links = refl;
      night_steps_own = refl;
      night_links_own = refl;
      night_paired = refl;
      night_pairs = refl;
      rows_and_columns = refl;
      night_user = refl;
      night_counted = refl;
      night_named = refl;
      night_dated = refl;
      file-bytes = refl;
      file_prices = refl;
      file_own = refl;
      file_user = refl;
      file_unused = refl;
      file_pairs = refl;
      file_counted = refl;
      file_named = refl;
      file_dated = refl;
      written = refl;
      written_more = refl;
      written_user = refl;
      written_unused = refl;
      written_pairs = refl;
      written_needed = refl;
      written_no_pairs = refl;
      written_counted = refl;
      written_named = refl;
      written_days = refl;
      written_dated = refl;
      counted_back = refl;
      named_back = refl;
      dated_back = refl;
      dated_as = refl;
      night_four = refl;
      length_four = refl;
      version_none = refl;
      version_other = refl;
      version_high = refl;
      version_high_one = refl;
      version_before_counts = refl;
      subjects_none = refl;
      relations_many = refl;
      nodes_many = refl;
      grants_many = refl;
      user_missing = refl;
      counts_before_lists = refl;
      relations_fewer = refl;
      relations_more = refl;
      grants_fewer = refl;
      grants_more = refl;
      nodes_fewer = refl;
      nodes_more = refl;
      steps_fewer = refl;
      steps_more = refl;
      links_fewer = refl;
      links_more = refl;
      pairs_fewer = refl;
      pairs_more = refl;
      pairs_half = refl;
      pairs_none = refl;
      pairs_early = refl;
      pairs_early_counted = refl;
      prices_moved = refl;
      relations_for_grant = refl;
      pairs_for_price = refl;
      lists_own = refl;
      lists_before_relations = refl;
      pairs_before_nodes = refl;
      lists_before_prices = refl;
      owner_missing = refl;
      left-over = refl;
      grant_relation = refl;
      pair-seen = refl;
      days_turned = refl;
      days_met = refl;
      owner_late = refl;
      owner_blind = refl;
      owners_before_nodes = refl;
      kind_unknown = refl;
      spare_filled = refl;
      parent_none = refl;
      kind_early = refl;
      names_none = refl;
      names_many = refl;
      names_past = refl;
      first_unused = refl;
      count_unused = refl;
      leaf_relation = refl;
      pair_left_hidden = refl;
      pair_right_hidden = refl;
      needed_unread = refl;
      needed_half = refl;
      leaf_price = refl;
      step-price = refl;
      link-price = refl;
      link_itself = refl;
      room_short = refl;
      room_none = refl;
      room_user_short = refl;
      room_pairs_short = refl;
      room_days_short = refl;
      room_no_pairs_short = refl;
      version_before_room = refl;
      counts_before_room = refl;
      lists_before_room = refl;
      relations_before_room = refl;
      owners_before_room = refl;
      needed_before_room = refl;
      prices_before_room = refl;
      room-after = refl;
      room_after_just = refl;
      room_after_user = refl;
      room_after_pairs = refl;
      room_kept = refl;
      room_kept_version = refl;
      room_kept_price = refl;
      again = refl;
      again_more = refl;
      again_user = refl;
      again_pairs = refl;
      again_days = refl;
      again_mark = refl;
      again_version = refl;
      again_header = refl;
      again_header_pairs = refl;
      again_header_days = refl;
      again_counts = refl;
      again_fewer = refl;
      again_more_bytes = refl;
      again_mark_before_room = refl;
      again_mark_before_grants = refl;
      again_length_before_grants = refl;
      again_grant = refl;
      again_grant_before_room = refl;
      again_room = refl;
      again_half = refl;
      again_pairs_room = refl;
    }
