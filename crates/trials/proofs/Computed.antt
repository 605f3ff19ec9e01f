-- The table of verdicts, row by row, by computation.
use mathlib.Core.Path.{refl}
use Rattle.laws.specs.BigEndian.{be}
use Rattle.laws.specs.Choose.{any_of}
use Rattle.laws.specs.First.{first, somewhere}
use Rattle.laws.specs.InOrder.{in_order}
use Rattle.laws.specs.Trials.{verdict, rows}
use Rattle.laws.specs.Upwards.{upwards}
use Rattle.sets.specs.Sets.{bit, member, union, meet, minus, within, apart, below, single, unions}
use Rattle.night.specs.Versions.{known, delivers, has_pairs, last_kind, header_length, node_length, has_days, grant_length}
use Rattle.night.specs.Night.{relation_of, grant_of, node_of, pair_of, step_price, link_price}
use Rattle.night.specs.Kinds.{uses_left, uses_right, uses_x, uses_y, uses_set, uses_pairs, its_pair, both_of, pairs_read, reads, read_together, visible_after, visible_step, visibles, is_child, taken}
use Rattle.night.specs.Views.{is_for, shares_day, is_for_on, grant_on, view_on}
use Rattle.trials.specs.Rules.{user_bad, counts_bad, relation_bad, left_over, subject_there, grant_bad, owner_bad, child_bad, left_bad, right_bad, unused_bad, names_bad, shape_bad, leaf_bad, x_bad, y_bad, set_bad, place_bad, step_bad, pair_bad, pairs_bad, half, needed_bad, most_for_step, most_for_link}
use Rattle.format.specs.Layout.{grants_from, nodes_from, pairs_from, pairs_in, step_prices_from, link_prices_from, file_length, header_of, relation_at, grant_at, node_at, pair_at, prices_at, night_in}
use Rattle.trials.specs.Trials.{not_marked, not_versioned, header_trials, taken_before, pair_seen, is_leaf_of, leaf_before, attributes_bad, price_in, most_in, count_in, trials_of, section, record_trials, tree_trials, trials, check_of}
use Rattle.trials.specs.Small.{small}
use Rattle.trials.specs.Verdicts.{FileVerdicts}

pub file_verdicts : FileVerdicts
unfolding any_of be first somewhere in_order verdict rows upwards bit member union meet minus within apart below single unions known delivers has_pairs last_kind header_length node_length relation_of grant_of node_of pair_of step_price link_price uses_left uses_right uses_x uses_y uses_set uses_pairs its_pair both_of pairs_read reads read_together visible_after visible_step visibles is_child taken is_for shares_day is_for_on grant_on view_on user_bad counts_bad relation_bad left_over subject_there grant_bad owner_bad child_bad left_bad right_bad unused_bad names_bad shape_bad leaf_bad x_bad y_bad set_bad place_bad step_bad pair_bad pairs_bad half needed_bad most_for_step most_for_link grants_from nodes_from pairs_from pairs_in step_prices_from link_prices_from file_length header_of relation_at grant_at node_at pair_at prices_at night_in not_marked not_versioned header_trials taken_before pair_seen is_leaf_of leaf_before attributes_bad price_in most_in count_in trials_of section record_trials tree_trials trials check_of small has_days grant_length
file_verdicts =
    record {
      accepted = refl;
      user_accepted = refl;
      user_unread = refl;
      paired_accepted = refl;
      paired_user = refl;
      paired_one = refl;
      paired_both = refl;
      pairs_shared = refl;
      pairs_twice = refl;
      pairs_eight = refl;
      eighth_needed = refl;
      pairs_most = refl;
      pairs_none = refl;
      pairs_unread = refl;
      dated_accepted = refl;
      dated_turned = refl;
      dated_one = refl;
      dated_thrice = refl;
      dated_first = refl;
      dated_last = refl;
      dated_any = refl;
      day_unread = refl;
      mark_short = refl;
      mark_first = refl;
      mark_second = refl;
      mark_third = refl;
      mark_before_version = refl;
      version_short = refl;
      version_none = refl;
      version_other = refl;
      version_high = refl;
      version_high_user = refl;
      version_before_header = refl;
      header_short = refl;
      header_before_counts = refl;
      user_short = refl;
      user_before_counts = refl;
      pairs_short = refl;
      pairs_before_counts = refl;
      day_short = refl;
      day_before_counts = refl;
      subjects_none = refl;
      relations_many = refl;
      attributes_many = refl;
      nodes_many = refl;
      grants_many = refl;
      counts_before_length = refl;
      counts_least = refl;
      counts_most = refl;
      user_missing = refl;
      user_any = refl;
      paired_user_missing = refl;
      user_before_length = refl;
      length_less = refl;
      length_more = refl;
      user_length_less = refl;
      paired_length_less = refl;
      dated_length_less = refl;
      pairs_fewer = refl;
      pairs_more = refl;
      length_before_relations = refl;
      owner_missing = refl;
      relation_empty = refl;
      attribute_high = refl;
      attribute_taken = refl;
      relations_in_order = refl;
      left-over = refl;
      relations_before_left = refl;
      left_before_grants = refl;
      grant_relation = refl;
      grant_relation_alone = refl;
      grant_subject = refl;
      grant_both = refl;
      grant_outside = refl;
      grant_clear_outside = refl;
      pair-seen = refl;
      pair_any_seen = refl;
      pair_whatever = refl;
      bad_before_pair = refl;
      pair_before_next = refl;
      days_turned = refl;
      days_turned_high = refl;
      day_shared = refl;
      day_shared_turned = refl;
      days_within = refl;
      days_around = refl;
      day_shared_first = refl;
      grants_before_owners = refl;
      owner_blind = refl;
      owner_own = refl;
      owners_in_order = refl;
      owners_before_nodes = refl;
      owner_early = refl;
      owner_late = refl;
      owner_much_later = refl;
      kind_unknown = refl;
      child_itself = refl;
      children_same = refl;
      child_taken = refl;
      unused_filled = refl;
      spare_filled = refl;
      spare_second = refl;
      size_high = refl;
      kind_high = refl;
      kind_last = refl;
      kind_early = refl;
      names_none = refl;
      names_many = refl;
      names_past = refl;
      names_beyond = refl;
      pairs_with_x = refl;
      pairs_with_y = refl;
      pairs_with_set = refl;
      pairs_one_child = refl;
      first_unused = refl;
      leaf_first = refl;
      leaf_count = refl;
      count_unused = refl;
      leaf_relation = refl;
      leaf_taken = refl;
      leaf_outside = refl;
      attribute_hidden = refl;
      pair_turned = refl;
      pair_left_hidden = refl;
      pair_right_hidden = refl;
      pair_last_hidden = refl;
      pair_no_attribute = refl;
      pair_left_beyond = refl;
      pair_right_beyond = refl;
      eighth_hidden = refl;
      pair_named_twice = refl;
      names_before_pairs = refl;
      needed_unread = refl;
      needed_half = refl;
      needed_unnamed = refl;
      needed_half_left = refl;
      needed_half_right = refl;
      needed_half_second = refl;
      eighth_half = refl;
      needed_half_shared = refl;
      pairs_before_needed = refl;
      shape_before_attributes = refl;
      attributes_before_needed = refl;
      attributes_before_next = refl;
      needed_before_next = refl;
      parent_none = refl;
      parent_lowest = refl;
      nodes_before_parents = refl;
      parents_before_prices = refl;
      leaf_price = refl;
      step-price = refl;
      link-price = refl;
      link_itself = refl;
      prices_in_order = refl;
      steps_before_links = refl;
    }
