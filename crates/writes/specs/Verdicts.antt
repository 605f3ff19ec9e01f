-- What a writer says of the small values and of their neighbours, and what it writes: each number with its place, and, where two conditions hold, the
-- earlier one.
use Rattle.std.specs.Prelude.{ℕ, ◌≡◌, false, List, [], ◌∷◌, ◌++◌, length, take, set, replicate}
use Rattle.laws.specs.Trials.{answers, refuses}
use Rattle.night.specs.declared.Header.{Header}
use Rattle.night.specs.declared.Relation.{Relation}
use Rattle.night.specs.declared.Grant.{Grant}
use Rattle.night.specs.declared.Node.{Node}
use Rattle.night.specs.declared.Pair.{Pair}
use Rattle.night.specs.Days.{in_version}
use Rattle.format.specs.Layout.{night_of}
use Rattle.trials.specs.Small.{small, with_user, grant_byte, three_pairs, paired}
use Rattle.writes.specs.Values.{with_header, with_grants, with_nodes, Values, rows_of, night_from, file_bytes, values_of, read_as}
use Rattle.writes.specs.Writing.{miscounted, write_of, room_after, rewrite_of}
use Rattle.writes.specs.Days.{as_four}
use Rattle.writes.specs.Small.{a_header, counting, on_day, a_relation, a_grant, lasting, a_node, naming}
use Rattle.writes.specs.Small.{small_values, priced_file, priced_values, unlike_file, unlike_values}
use Rattle.writes.specs.Small.{with_relations, with_pairs, with_steps, with_links, a_pairing, pairing_values, paired_values, dated_values}

-- the small values with another header
abbrev pub headed : Header → Values
headed h = with_header h small_values

-- with another relation, grant, node or price at a place
abbrev pub related : ℕ → Relation → Values
related k v = with_relations (set small_values.relations k v) small_values

abbrev pub granted : ℕ → Grant → Values
granted k v = with_grants (set small_values.grants k v) small_values

abbrev pub noded : ℕ → Node → Values
noded k v = with_nodes (set small_values.nodes k v) small_values

abbrev pub stepped : ℕ → ℕ → Values
stepped k v = with_steps (set small_values.step_prices k v) small_values

abbrev pub linked : ℕ → ℕ → Values
linked k v = with_links (set small_values.link_prices k v) small_values

-- the small values in version 2
abbrev pub in_two : ℕ → Values
in_two user = headed (a_header 2 2 2 2 4 4 6 user)

-- the same, with a count of pairs, and with pairs named at its last node, of which version 2 has neither
abbrev pub counted_in_two : Values
counted_in_two = headed (counting 1 (a_header 2 2 2 2 4 4 6 1))

abbrev pub named_in_two : Values
named_in_two = with_nodes (set small_values.nodes 3 (naming 1 2 (a_node 2 2 255 0 255 0 1))) (in_two 1)

-- the same, with a night's day, and a grant that would end before it begins, of which version 2 has neither
abbrev pub dated_in_two : Values
dated_in_two = with_header (on_day 7 (a_header 2 2 2 2 4 4 6 1)) (granted 2 (lasting 6 5 (a_grant 0 255 0 1)))

-- a pair: left's attribute, right's
abbrev pub a_pair : ℕ → ℕ → Pair
a_pair left right = record { left = left; right = right }

-- the values are refused with this number and place, in a room of more than their bytes
abbrev pub Refused : Values → ℕ → ℕ → Type 0
Refused vs number place = write_of vs 300 ≡ refuses number place

-- the room after the values were written into it, or refused
abbrev pub after : Values → List ℕ → List ℕ
after vs room = room_after (write_of vs (length room)) (file_bytes vs) room

-- the same of a file's values, written again
abbrev pub RefusedAgain : List ℕ → ℕ → ℕ → Type 0
RefusedAgain s number place = rewrite_of s 300 ≡ refuses number place

pub record WriteVerdicts : Type 0 where
  -- a file's values, as they stand in it, prices row after row; in version 2 with the user, in version 3 with the pairs, two bytes each
  pub values_stand : values_of small ≡ small_values
  pub values_user : values_of (with_user 1 small) ≡ in_two 1
  pub values_prices : values_of priced_file ≡ priced_values
  pub values_pairs : values_of (paired 0) ≡ paired_values 0
  pub values_own : values_of unlike_file ≡ unlike_values
  pub values_days : values_of (file_bytes (dated_values 5)) ≡ dated_values 5
  -- the night of values: a row for each node or sender, of as many prices as there are subjects
  pub night_same : night_from small_values ≡ night_of small
  pub night_steps : (night_from priced_values).step_prices ≡ (1 ∷ 2 ∷ []) ∷ (3 ∷ 4 ∷ []) ∷ (5 ∷ 6 ∷ []) ∷ (7 ∷ 8 ∷ []) ∷ []
  pub night_links : (night_from priced_values).link_prices ≡ (9 ∷ 10 ∷ []) ∷ (11 ∷ 12 ∷ []) ∷ []
  pub night_steps_own : (night_from unlike_values).step_prices ≡ replicate 5 (replicate 3 0)
  pub night_links_own : (night_from unlike_values).link_prices ≡ replicate 3 (replicate 3 0)
  pub night_paired : night_from (paired_values 0) ≡ night_of (paired 0)
  pub night_pairs : (night_from (paired_values 0)).pairs ≡ a_pair 200 64 ∷ a_pair 0 2 ∷ a_pair 1 3 ∷ []
  pub rows_and_columns : rows_of (1 ∷ 2 ∷ 3 ∷ 4 ∷ 5 ∷ 6 ∷ []) 2 3 ≡ (1 ∷ 2 ∷ 3 ∷ []) ∷ (4 ∷ 5 ∷ 6 ∷ []) ∷ []
  -- a user, a number of pairs, a day, and the pairs that a node names are read as 0 in a version that has none; a grant as one for every day
  pub night_user : night_from (headed (a_header 1 2 2 2 4 4 6 9)) ≡ night_of small
  pub night_counted : night_from counted_in_two ≡ night_of (with_user 1 small)
  pub night_named : night_from named_in_two ≡ night_of (with_user 1 small)
  pub night_dated : night_from dated_in_two ≡ night_of (with_user 1 small)
  -- the bytes of the file: its sections in order; in version 2 with the user, in version 1 without, whatever its value; before version 3 without what names pairs,
  -- before version 4 without days
  pub file-bytes : file_bytes small_values ≡ small
  pub file_prices : file_bytes priced_values ≡ priced_file
  pub file_own : file_bytes unlike_values ≡ unlike_file
  pub file_user : file_bytes (in_two 1) ≡ with_user 1 small
  pub file_unused : file_bytes (headed (a_header 1 2 2 2 4 4 6 9)) ≡ small
  pub file_pairs : file_bytes (paired_values 0) ≡ paired 0
  pub file_counted : file_bytes counted_in_two ≡ with_user 1 small
  pub file_named : file_bytes named_in_two ≡ with_user 1 small
  pub file_dated : file_bytes dated_in_two ≡ with_user 1 small
  -- written: into a room of just the file's bytes, and of more; a user that version 1 doesn't have is not looked at
  pub written : write_of small_values 265 ≡ answers 265
  pub written_more : write_of small_values 300 ≡ answers 265
  pub written_user : write_of (in_two 1) 266 ≡ answers 266
  pub written_unused : write_of (headed (a_header 1 2 2 2 4 4 6 9)) 265 ≡ answers 265
  -- in version 3 with pairs, some of them needed, or with none; in version 2 a count of pairs in the header alone, and what a node names, are not looked at
  pub written_pairs : write_of (paired_values 0) 243 ≡ answers 243
  pub written_needed : write_of (paired_values 10) 243 ≡ answers 243
  pub written_no_pairs : write_of (headed (a_header 3 2 2 2 4 4 6 1)) 275 ≡ answers 275
  pub written_counted : write_of counted_in_two 266 ≡ answers 266
  pub written_named : write_of named_in_two 266 ≡ answers 266
  -- in version 4 with days; in version 2 the night's day and a grant's days are not looked at
  pub written_days : write_of (dated_values 5) 337 ≡ answers 337
  pub written_dated : write_of dated_in_two 266 ≡ answers 266
  -- and are read back as 0, a grant's last day as 65535
  pub counted_back : values_of (file_bytes counted_in_two) ≡ in_two 1
  pub named_back : values_of (file_bytes named_in_two) ≡ in_two 1
  pub dated_back : values_of (file_bytes dated_in_two) ≡ in_two 1
  pub dated_as : read_as dated_in_two ≡ in_two 1
  -- a file of version 3, its values written in version 4: the same night, of that day; two bytes more for the day and four for each of four grants
  pub night_four : night_of (as_four 7 (paired 0)) ≡ in_version (night_of (paired 0)) 4 7
  pub length_four : length (as_four 7 (paired 0)) ≡ 261
  -- 2: a version that isn't known; before 4
  pub version_none : Refused (headed (a_header 0 2 2 2 4 4 6 0)) 2 0
  pub version_other : Refused (headed (a_header 5 2 2 2 4 4 6 0)) 2 0
  pub version_high : Refused (headed (a_header 256 2 2 2 4 4 6 0)) 2 0
  pub version_high_one : Refused (headed (a_header 257 2 2 2 4 4 6 0)) 2 0
  pub version_before_counts : Refused (headed (a_header 5 0 2 2 4 4 6 0)) 2 0
  -- 4: a count outside its limits, which no list here meets; a user not below s; before 3
  pub subjects_none : Refused (headed (a_header 1 0 2 2 4 4 6 0)) 4 0
  pub relations_many : Refused (headed (a_header 1 2 17 2 4 4 6 0)) 4 0
  pub nodes_many : Refused (headed (a_header 1 2 2 2 65 4 6 0)) 4 0
  pub grants_many : Refused (headed (a_header 1 2 2 2 4 273 6 0)) 4 0
  pub user_missing : Refused (in_two 2) 4 0
  pub counts_before_lists : Refused (with_links [] (in_two 2)) 4 0
  -- 3: relations, grants, nodes, step prices or link prices are not as many as the counts say: one fewer, one more
  pub relations_fewer : Refused (with_relations (take 1 small_values.relations) small_values) 3 0
  pub relations_more : Refused (with_relations (small_values.relations ++ (a_relation 0 4 ∷ [])) small_values) 3 0
  pub grants_fewer : Refused (with_grants (take 3 small_values.grants) small_values) 3 0
  pub grants_more : Refused (with_grants (small_values.grants ++ (a_grant 0 1 0 0 ∷ [])) small_values) 3 0
  pub nodes_fewer : Refused (with_nodes (take 3 small_values.nodes) small_values) 3 0
  pub nodes_more : Refused (with_nodes (small_values.nodes ++ (a_node 1 3 255 255 255 1 0 ∷ [])) small_values) 3 0
  pub steps_fewer : Refused (with_steps (take 7 small_values.step_prices) small_values) 3 0
  pub steps_more : Refused (with_steps (small_values.step_prices ++ (0 ∷ [])) small_values) 3 0
  pub links_fewer : Refused (with_links (take 3 small_values.link_prices) small_values) 3 0
  pub links_more : Refused (with_links (small_values.link_prices ++ (0 ∷ [])) small_values) 3 0
  -- the pairs: one byte fewer or more, half as many, none; in version 2 one pair, whatever the header counts
  pub pairs_fewer : Refused (pairing_values 3 (a_pairing 1 2 0) (take 5 three_pairs)) 3 0
  pub pairs_more : Refused (pairing_values 3 (a_pairing 1 2 0) (three_pairs ++ (0 ∷ []))) 3 0
  pub pairs_half : Refused (pairing_values 3 (a_pairing 1 2 0) (take 3 three_pairs)) 3 0
  pub pairs_none : Refused (pairing_values 3 (a_pairing 1 2 0) []) 3 0
  pub pairs_early : Refused (with_pairs (0 ∷ 1 ∷ []) (in_two 1)) 3 0
  pub pairs_early_counted : Refused (with_pairs (0 ∷ 1 ∷ []) counted_in_two) 3 0
  -- also where the bytes of all together are as many: a link price for a step price, two relations for a grant
  pub prices_moved : Refused (with_steps (take 7 small_values.step_prices) (with_links (small_values.link_prices ++ (0 ∷ [])) small_values)) 3 0
  pub relations_for_grant :
      Refused (with_relations (small_values.relations ++ small_values.relations) (with_grants (take 3 small_values.grants) small_values)) 3 0
  pub pairs_for_price : Refused (with_pairs (three_pairs ++ (0 ∷ 0 ∷ 0 ∷ 0 ∷ [])) (with_steps (0 ∷ 0 ∷ 0 ∷ 0 ∷ 1 ∷ []) (paired_values 0))) 3 0
  -- each list is held to its own count
  pub lists_own : miscounted unlike_values ≡ false
  -- 3 before 5, before 8, and before 11
  pub lists_before_relations : Refused (with_links [] (related 0 (a_relation 2 1))) 3 0
  pub pairs_before_nodes : Refused (pairing_values 3 (a_pairing 2 2 0) (take 5 three_pairs)) 3 0
  pub lists_before_prices : Refused (with_links (0 ∷ 1 ∷ 1 ∷ 1 ∷ 0 ∷ []) small_values) 3 0
  -- 5: a relation's owner; attributes left over
  pub owner_missing : Refused (related 1 (a_relation 2 2)) 5 1
  pub left-over : Refused (headed (a_header 1 2 2 3 4 4 6 0)) 5 2
  -- 6: a grant's relation; a pair seen before
  pub grant_relation : Refused (granted 2 (a_grant 2 255 0 1)) 6 2
  pub pair-seen : Refused (granted 3 (a_grant 0 255 0 1)) 6 3
  -- 6: a grant that ends before it starts; a pair seen before with a day in common
  pub days_turned : Refused (with_grants (set (dated_values 5).grants 4 (lasting 7 6 (a_grant 0 255 0 0))) (dated_values 5)) 6 4
  pub days_met : Refused (with_grants (set (dated_values 5).grants 4 (lasting 5 9 (a_grant 0 255 0 0))) (dated_values 5)) 6 4
  -- 7: an owner whose grant is not in force on the night's day
  pub owner_late : Refused (dated_values 6) 7 0
  -- 7: an owner's view of its own relation isn't all clear; before 8
  pub owner_blind : Refused (granted 1 (a_grant 1 1 0 0)) 7 1
  pub owners_before_nodes : Refused (with_grants (set small_values.grants 1 (a_grant 1 1 0 0)) (noded 0 (a_node 9 255 255 0 255 1 0))) 7 1
  -- 8: a kind; a spare byte that isn't 0; a node without parent
  pub kind_unknown : Refused (noded 1 (a_node 9 255 255 1 255 2 0)) 8 1
  pub spare_filled :
      Refused
      (noded 3
      (record {
        kind = 2;
        left = 2;
        right = 255;
        x = 0;
        y = 255;
        spare1 = 0;
        spare2 = 0;
        spare3 = 1;
        set = 0;
        needed = 1;
        size = 1;
        first = 0;
        count = 0;
      }))
      8 3
  pub parent_none : Refused (noded 2 (a_node 2 0 255 0 255 0 0)) 8 1
  -- kind 9 before version 3; pairs named: none, more than 8, past the list; a first or a count in another kind
  pub kind_early : Refused (with_nodes (set small_values.nodes 2 (a_pairing 0 1 0)) (in_two 1)) 8 2
  pub names_none : Refused (pairing_values 3 (a_pairing 1 0 0) three_pairs) 8 2
  pub names_many : Refused (pairing_values 9 (a_pairing 0 9 0) (replicate 18 0)) 8 2
  pub names_past : Refused (pairing_values 3 (a_pairing 2 2 0) three_pairs) 8 2
  pub first_unused : Refused (pairing_values 3 (naming 1 0 (a_node 4 0 1 255 255 0 0)) three_pairs) 8 2
  pub count_unused : Refused (pairing_values 3 (naming 0 1 (a_node 4 0 1 255 255 0 0)) three_pairs) 8 2
  -- 9: a leaf's relation
  pub leaf_relation : Refused (noded 1 (a_node 0 255 255 2 255 2 0)) 9 1
  -- an attribute of a pair that is not visible on its side
  pub pair_left_hidden : Refused (pairing_values 1 (a_pairing 0 1 0) (2 ∷ 2 ∷ [])) 9 2
  pub pair_right_hidden : Refused (pairing_values 1 (a_pairing 0 1 0) (0 ∷ 0 ∷ [])) 9 2
  -- 10: a needed set outside what is read; half a pair
  pub needed_unread : Refused (noded 2 (a_node 4 0 1 255 255 0 1)) 10 2
  pub needed_half : Refused (paired_values 7) 10 2
  -- 11: a leaf's price; a step's too high; a link's too high; a subject's to itself; a running index, step prices first
  pub leaf_price : Refused (stepped 3 1) 11 3
  pub step-price : Refused (stepped 6 1000001) 11 6
  pub link-price : Refused (linked 2 1001) 11 10
  pub link_itself : Refused (linked 3 1) 11 11
  -- 15, place 4: a room shorter than the file by one, and no room; in version 2 the file is longer by the user, in version 3 by what pairs take
  pub room_short : write_of small_values 264 ≡ refuses 15 4
  pub room_none : write_of small_values 0 ≡ refuses 15 4
  pub room_user_short : write_of (in_two 1) 265 ≡ refuses 15 4
  pub room_pairs_short : write_of (paired_values 0) 242 ≡ refuses 15 4
  pub room_days_short : write_of (dated_values 5) 336 ≡ refuses 15 4
  pub room_no_pairs_short : write_of (headed (a_header 3 2 2 2 4 4 6 1)) 274 ≡ refuses 15 4
  -- last of all: after 2, 4, 3, 5, 7, 10 and 11
  pub version_before_room : write_of (headed (a_header 5 2 2 2 4 4 6 0)) 0 ≡ refuses 2 0
  pub counts_before_room : write_of (in_two 2) 0 ≡ refuses 4 0
  pub lists_before_room : write_of (with_links [] small_values) 0 ≡ refuses 3 0
  pub relations_before_room : write_of (related 0 (a_relation 0 0)) 0 ≡ refuses 5 0
  pub owners_before_room : write_of (granted 1 (a_grant 1 1 0 0)) 0 ≡ refuses 7 1
  pub needed_before_room : write_of (paired_values 7) 242 ≡ refuses 10 2
  pub prices_before_room : write_of (linked 3 1) 264 ≡ refuses 11 11
  -- the room: the file, and behind it what stood there; with a refusal all of it as it was
  pub room-after : after small_values (replicate 265 7 ++ (8 ∷ 9 ∷ [])) ≡ small ++ (8 ∷ 9 ∷ [])
  pub room_after_just : after small_values (replicate 265 7) ≡ small
  pub room_after_user : after (in_two 1) (replicate 265 7 ++ (8 ∷ 9 ∷ [])) ≡ with_user 1 small ++ (9 ∷ [])
  pub room_after_pairs : after (paired_values 0) (replicate 243 7 ++ (8 ∷ 9 ∷ [])) ≡ paired 0 ++ (8 ∷ 9 ∷ [])
  pub room_kept : after small_values (replicate 264 7) ≡ replicate 264 7
  pub room_kept_version : after (headed (a_header 5 2 2 2 4 4 6 0)) (replicate 267 7) ≡ replicate 267 7
  pub room_kept_price : after (linked 3 1) (replicate 267 7) ≡ replicate 267 7
  -- a file's values written again
  pub again : rewrite_of small 265 ≡ answers 265
  pub again_more : rewrite_of small 300 ≡ answers 265
  pub again_user : rewrite_of (with_user 1 small) 266 ≡ answers 266
  pub again_pairs : rewrite_of (paired 0) 243 ≡ answers 243
  pub again_days : rewrite_of (file_bytes (dated_values 5)) 337 ≡ answers 337
  -- 1, 2, 3, 4 and 3 as by reading; before 15
  pub again_mark : RefusedAgain (set small 2 81) 1 0
  pub again_version : RefusedAgain (set small 4 5) 2 0
  pub again_header : RefusedAgain (take 14 small) 3 0
  pub again_header_pairs : RefusedAgain (take 16 (paired 0)) 3 0
  pub again_header_days : RefusedAgain (take 18 (file_bytes (dated_values 5))) 3 0
  pub again_counts : RefusedAgain (set small 8 65) 4 0
  pub again_fewer : RefusedAgain (take 264 small) 3 0
  pub again_more_bytes : RefusedAgain (small ++ (0 ∷ [])) 3 0
  pub again_mark_before_room : rewrite_of (set small 2 81) 0 ≡ refuses 1 0
  -- 1 before 6; then 5 to 11 of its values, and 15, place 4
  pub again_mark_before_grants : RefusedAgain (set (set small 2 81) (grant_byte 2 0) 2) 1 0
  pub again_length_before_grants : RefusedAgain (take 264 (set small (grant_byte 2 0) 2)) 3 0
  pub again_grant : RefusedAgain (set small (grant_byte 2 0) 2) 6 2
  pub again_grant_before_room : rewrite_of (set small (grant_byte 2 0) 2) 0 ≡ refuses 6 2
  pub again_room : rewrite_of small 264 ≡ refuses 15 4
  pub again_half : RefusedAgain (paired 7) 10 2
  pub again_pairs_room : rewrite_of (paired 0) 242 ≡ refuses 15 4
