-- What `check` says of the small file and of its neighbours: each number with its place, and, where two conditions hold, the earlier one.
use Rattle.std.specs.Prelude.{ℕ, ◌+◌, ◌≡◌, false, List, [], ◌∷◌, ◌++◌, take, set, replicate}
use Rattle.laws.specs.InOrder.{in_order}
use Rattle.laws.specs.Trials.{answers, refuses}
use Rattle.format.specs.Layout.{header_of}
use Rattle.trials.specs.Rules.{counts_bad}
use Rattle.trials.specs.Trials.{check_of}
use Rattle.trials.specs.Small.{small, with_user, relation_byte, grant_byte, node_byte, price_byte, parentless, two_parentless}
use Rattle.trials.specs.Small.{a_grant, a_node, naming, pairing, joining, three_pairs, paired, named_twice, lasting, dating, dated, dated_twice}

-- the file is refused with this number and place
abbrev pub Refused : List ℕ → ℕ → ℕ → Type 0
Refused s number place = check_of s ≡ refuses number place

-- the file is accepted
abbrev pub Accepted : List ℕ → Type 0
Accepted s = check_of s ≡ answers (header_of s)

-- the bytes of the pair 0, 2 so many times
abbrev pub pairs_of : ℕ → List ℕ
pairs_of n = in_order (λ (k : ℕ). 0 ∷ 2 ∷ []) (replicate n 0)

-- 1 to 11
pub record FileVerdicts : Type 0 where
  -- accepted: the small file
  pub accepted :
      check_of small ≡ answers (record { version = 1; subjects = 2; relations = 2; attributes = 2; nodes = 4; grants = 4; steps = 6; user = 0; pairs = 0; day = 0 })
  -- in version 2, the small file with a user; in version 1 none is read, whatever stands behind the steps allowed
  pub user_accepted :
      check_of (with_user 1 small)
      ≡ answers (record { version = 2; subjects = 2; relations = 2; attributes = 2; nodes = 4; grants = 4; steps = 6; user = 1; pairs = 0; day = 0 })
  pub user_unread : (header_of (set small (relation_byte 0 0) 9)).user ≡ 0
  -- in version 3, a join on two pairs that needs neither, one or both of them; a pair that no node names means nothing
  pub paired_accepted :
      check_of (paired 0) ≡ answers (record { version = 3; subjects = 2; relations = 2; attributes = 4; nodes = 3; grants = 4; steps = 2; user = 0; pairs = 3; day = 0 })
  -- version 3 keeps the user
  pub paired_user :
      check_of (set (paired 0) 15 1)
      ≡ answers (record { version = 3; subjects = 2; relations = 2; attributes = 4; nodes = 3; grants = 4; steps = 2; user = 1; pairs = 3; day = 0 })
  pub paired_one : check_of (paired 5) ≡ check_of (paired 0)
  pub paired_both : check_of (paired 15) ≡ check_of (paired 0)
  -- pairs that share an attribute, a pair twice, eight pairs, of which the last alone is needed, the last of 255 pairs; no pairs at all
  pub pairs_shared : check_of (pairing 3 (joining 1 2 13) (0 ∷ 0 ∷ 0 ∷ 2 ∷ 0 ∷ 3 ∷ [])) ≡ check_of (paired 0)
  pub pairs_twice : check_of (pairing 3 (joining 1 2 5) (0 ∷ 0 ∷ 0 ∷ 2 ∷ 0 ∷ 2 ∷ [])) ≡ check_of (paired 0)
  pub pairs_eight : Accepted (pairing 9 (joining 1 8 0) (0 ∷ 0 ∷ pairs_of 8))
  pub eighth_needed : Accepted (pairing 9 (joining 1 8 10) (0 ∷ 0 ∷ (pairs_of 7 ++ (1 ∷ 3 ∷ []))))
  pub pairs_most : Accepted (pairing 255 (joining 254 1 0) (pairs_of 255))
  pub pairs_none : Accepted (pairing 0 (naming 0 0 (a_node 4 0 1 255 255 0 0)) [])
  -- in version 2 no pairs are read, whatever stands behind the user
  pub pairs_unread : (header_of (set (with_user 1 small) 16 9)).pairs ≡ 0
  -- in version 4, two grants for one pair on days that they don't share, whichever comes first, also of one day each; three for one; the owner's first day and
  -- last
  pub dated_accepted :
      check_of (dated 5) ≡ answers (record { version = 4; subjects = 2; relations = 1; attributes = 1; nodes = 1; grants = 3; steps = 0; user = 0; pairs = 0; day = 5 })
  pub dated_turned : Accepted (dated_twice 5 9 0 4)
  pub dated_one : Accepted (dated_twice 4 4 5 5)
  pub dated_thrice : Accepted (dating 5 (lasting 10 12 (a_grant 0 0 0 0)) (lasting 0 2 (a_grant 0 0 0 1)))
  pub dated_first : Accepted (dated 3)
  pub dated_last : Accepted (dated 9)
  -- on a day without an own grant any serves
  pub dated_any : Accepted (dating 2 (lasting 0 2 (a_grant 0 255 1 0)) (lasting 3 9 (a_grant 0 255 0 0)))
  -- in version 3 no day is read, whatever stands behind the pairs
  pub day_unread : (header_of (set (paired 0) 18 9)).day ≡ 0
  -- 1: fewer than 3 bytes, or not the mark; before 2
  pub mark_short : Refused (take 2 small) 1 0
  pub mark_first : Refused (set small 0 66) 1 0
  pub mark_second : Refused (set small 1 89) 1 0
  pub mark_third : Refused (set small 2 81) 1 0
  pub mark_before_version : Refused (set (set small 2 81) 4 5) 1 0
  -- 2: fewer than 5 bytes, or version other than 1 to 4; before 3
  pub version_short : Refused (take 4 small) 2 0
  pub version_none : Refused (set small 4 0) 2 0
  pub version_other : Refused (set small 4 5) 2 0
  pub version_high : Refused (set small 3 1) 2 0
  pub version_high_user : Refused (set (with_user 0 small) 3 1) 2 0
  pub version_before_header : Refused (take 14 (set small 4 5)) 2 0
  -- 3: fewer than 15 bytes, in version 2 than 16; before 4
  pub header_short : Refused (take 14 small) 3 0
  pub header_before_counts : Refused (take 14 (set small 5 0)) 3 0
  pub user_short : Refused (take 15 (with_user 0 small)) 3 0
  pub user_before_counts : Refused (take 15 (set (with_user 0 small) 5 0)) 3 0
  -- in version 3 than 17
  pub pairs_short : Refused (take 16 (paired 0)) 3 0
  pub pairs_before_counts : Refused (take 16 (set (paired 0) 5 0)) 3 0
  -- in version 4 than 19
  pub day_short : Refused (take 18 (dated 5)) 3 0
  pub day_before_counts : Refused (take 18 (set (dated 5) 5 0)) 3 0
  -- 4: a count outside its limits, or a user not below s; before 3 for the length
  pub subjects_none : Refused (set small 5 0) 4 0
  pub relations_many : Refused (set small 6 17) 4 0
  pub attributes_many : Refused (set small 7 65) 4 0
  pub nodes_many : Refused (set small 8 65) 4 0
  pub grants_many : Refused (set (set small 9 1) 10 17) 4 0
  pub counts_before_length : Refused (take 15 (set small 5 0)) 4 0
  -- counts at their limits, lowest and highest, and the last subject as user, are none
  pub counts_least :
      counts_bad (record { version = 1; subjects = 1; relations = 1; attributes = 1; nodes = 1; grants = 0; steps = 0; user = 0; pairs = 0; day = 0 }) ≡ false
  pub counts_most :
      counts_bad (record { version = 3; subjects = 16; relations = 16; attributes = 64; nodes = 64; grants = 272; steps = 0; user = 15; pairs = 255; day = 0 }) ≡ false
  pub user_missing : Refused (with_user 2 small) 4 0
  pub user_any : Refused (with_user 255 small) 4 0
  pub paired_user_missing : Refused (set (paired 0) 15 2) 4 0
  pub user_before_length : Refused (take 16 (with_user 2 small)) 4 0
  -- 3, after 4: a length other than the counts give; before 5
  pub length_less : Refused (take 264 small) 3 0
  pub length_more : Refused (small ++ (0 ∷ [])) 3 0
  pub user_length_less : Refused (take 265 (with_user 0 small)) 3 0
  pub paired_length_less : Refused (take 242 (paired 0)) 3 0
  pub dated_length_less : Refused (take 147 (dated 5)) 3 0
  pub pairs_fewer : Refused (set (paired 0) 16 4) 3 0
  pub pairs_more : Refused (set (paired 0) 16 2) 3 0
  pub length_before_relations : Refused (take 264 (set small (relation_byte 0 0) 2)) 3 0
  -- 5: a relation's owner, its set empty, with an attribute not below a, or with one already taken; the relation's number, the lowest first
  pub owner_missing : Refused (set small (relation_byte 1 0) 2) 5 1
  pub relation_empty : Refused (set small (relation_byte 0 8) 0) 5 0
  pub attribute_high : Refused (set small (relation_byte 1 8) 6) 5 1
  pub attribute_taken : Refused (set small (relation_byte 1 8) 3) 5 1
  pub relations_in_order : Refused (set (set small (relation_byte 0 8) 0) (relation_byte 1 0) 2) 5 0
  -- 5, after all relations: an attribute left over; r; before 6
  pub left-over : Refused (set small 7 3) 5 2
  pub relations_before_left : Refused (set (set small 7 3) (relation_byte 1 0) 2) 5 1
  pub left_before_grants : Refused (set (set small 7 3) (grant_byte 0 0) 2) 5 2
  -- 6: a grant's relation, its subject, its sets, its pair seen before; the grant's number, each tried for all of it before the next
  pub grant_relation : Refused (set small (grant_byte 2 0) 2) 6 2
  pub grant_relation_alone : Refused (set (set small (grant_byte 2 0) 2) (grant_byte 2 17) 0) 6 2
  pub grant_subject : Refused (set small (grant_byte 3 1) 2) 6 3
  pub grant_both : Refused (set small (grant_byte 1 17) 2) 6 1
  pub grant_outside : Refused (set small (grant_byte 0 17) 2) 6 0
  pub grant_clear_outside : Refused (set small (grant_byte 0 9) 3) 6 0
  pub pair-seen : Refused (set small (grant_byte 2 1) 0) 6 2
  pub pair_any_seen : Refused (set (set small (grant_byte 3 0) 0) (grant_byte 3 17) 1) 6 3
  pub pair_whatever : Refused (set (set small (grant_byte 2 1) 0) (grant_byte 2 17) 0) 6 2
  pub bad_before_pair : Refused (set (set small (grant_byte 1 0) 2) (grant_byte 2 1) 0) 6 1
  pub pair_before_next : Refused (set (set small (grant_byte 2 1) 0) (grant_byte 3 0) 2) 6 2
  -- a grant whose last day is before its first; one for a pair that an earlier one is for on a day that they share: the last and the first, all of its
  -- days, or of the other's
  pub days_turned : Refused (dated_twice 4 3 5 9) 6 1
  pub days_turned_high : Refused (set (dated 5) 68 1) 6 1
  pub day_shared : Refused (dated_twice 0 5 5 9) 6 2
  pub day_shared_turned : Refused (dated_twice 5 9 0 5) 6 2
  pub days_within : Refused (dated_twice 0 9 3 4) 6 2
  pub days_around : Refused (dated_twice 3 4 0 9) 6 2
  pub day_shared_first : Refused (dating 5 (lasting 10 12 (a_grant 0 0 1 0)) (lasting 2 3 (a_grant 0 0 0 1))) 6 2
  -- every grant before any owner
  pub grants_before_owners : Refused (set (set small (grant_byte 0 9) 0) (grant_byte 3 0) 2) 6 3
  -- 7: an owner's view of its own relation isn't all clear; the relation; its own grant counts, whatever any sees; before 8
  pub owner_blind : Refused (set small (grant_byte 1 9) 0) 7 1
  pub owner_own : Refused (set (set (set small (grant_byte 1 9) 0) (grant_byte 3 9) 2) (grant_byte 3 17) 0) 7 1
  pub owners_in_order : Refused (set (set small (grant_byte 0 9) 0) (grant_byte 1 9) 0) 7 0
  pub owners_before_nodes : Refused (set (set small (grant_byte 1 9) 0) (node_byte 0 0) 9) 7 1
  -- on the night's day, which has two bytes: the day before the own grant's first, the day after its last, 256 days later
  pub owner_early : Refused (dated 2) 7 0
  pub owner_late : Refused (dated 10) 7 0
  pub owner_much_later : Refused (set (dated 5) 17 1) 7 0
  -- 8: kind, children, a child already taken, unused fields, zero bytes, size; the node
  pub kind_unknown : Refused (set small (node_byte 1 0) 9) 8 1
  pub child_itself : Refused (set small (node_byte 2 1) 2) 8 2
  pub children_same : Refused (set small (node_byte 2 2) 0) 8 2
  pub child_taken : Refused (set small (node_byte 3 1) 1) 8 3
  pub unused_filled : Refused (set small (node_byte 0 1) 0) 8 0
  pub spare_filled : Refused (set small (node_byte 3 7) 1) 8 3
  pub spare_second : Refused (set small (node_byte 3 6) 1) 8 3
  pub size_high : Refused (set small (node_byte 1 24) 1) 8 1
  -- a kind that the version doesn't have, with nothing else wrong: in version 1 and in version 3; kind 9 before version 3
  pub kind_high : Refused (set (set (set small (node_byte 3 0) 10) (node_byte 3 3) 255) (node_byte 3 23) 0) 8 3
  pub kind_last : Refused (pairing 0 (naming 0 0 (a_node 10 0 255 255 255 0 0)) []) 8 2
  pub kind_early : Refused (set (with_user 0 small) (1 + node_byte 2 0) 9) 8 2
  -- pairs named: none, more than 8, past the list with the last of them, or with all
  pub names_none : Refused (pairing 3 (joining 1 0 0) three_pairs) 8 2
  pub names_many : Refused (pairing 10 (joining 1 9 0) (0 ∷ 0 ∷ pairs_of 9)) 8 2
  pub names_past : Refused (pairing 3 (joining 2 2 0) three_pairs) 8 2
  pub names_beyond : Refused (pairing 3 (joining 255 2 0) three_pairs) 8 2
  -- x, y and set, which kind 9 doesn't use; no right operand; a first or a count in another kind, in each node
  pub pairs_with_x : Refused (pairing 3 (naming 1 2 (a_node 9 0 1 0 255 0 0)) three_pairs) 8 2
  pub pairs_with_y : Refused (pairing 3 (naming 1 2 (a_node 9 0 1 255 2 0 0)) three_pairs) 8 2
  pub pairs_with_set : Refused (pairing 3 (naming 1 2 (a_node 9 0 1 255 255 1 0)) three_pairs) 8 2
  pub pairs_one_child : Refused (pairing 3 (naming 1 2 (a_node 9 0 255 255 255 0 0)) three_pairs) 8 2
  pub first_unused : Refused (pairing 3 (naming 1 0 (a_node 4 0 1 255 255 0 0)) three_pairs) 8 2
  pub leaf_first : Refused (set (paired 0) 135 1) 8 0
  pub leaf_count : Refused (set (paired 0) 136 1) 8 0
  pub count_unused : Refused (pairing 3 (naming 0 1 (a_node 4 0 1 255 255 0 0)) three_pairs) 8 2
  -- 9: attributes or relation of a node; a relation that an earlier leaf has taken; the node
  pub leaf_relation : Refused (set small (node_byte 1 3) 2) 9 1
  pub leaf_taken : Refused (set (set small (node_byte 1 3) 0) (node_byte 1 15) 1) 9 1
  pub leaf_outside : Refused (set small (node_byte 0 15) 2) 9 0
  pub attribute_hidden : Refused (set small (node_byte 3 3) 2) 9 3
  -- an attribute of a pair that is not visible on its side: in each place, of the last pair alone, not below a, past 64 bits
  pub pair_turned : Refused (pairing 1 (joining 0 1 0) (2 ∷ 0 ∷ [])) 9 2
  pub pair_left_hidden : Refused (pairing 1 (joining 0 1 0) (2 ∷ 2 ∷ [])) 9 2
  pub pair_right_hidden : Refused (pairing 1 (joining 0 1 0) (0 ∷ 0 ∷ [])) 9 2
  pub pair_last_hidden : Refused (pairing 2 (joining 0 2 0) (0 ∷ 2 ∷ 1 ∷ 1 ∷ [])) 9 2
  pub pair_no_attribute : Refused (pairing 1 (joining 0 1 0) (0 ∷ 4 ∷ [])) 9 2
  pub pair_left_beyond : Refused (pairing 1 (joining 0 1 0) (64 ∷ 2 ∷ [])) 9 2
  pub pair_right_beyond : Refused (pairing 1 (joining 0 1 0) (0 ∷ 66 ∷ [])) 9 2
  pub eighth_hidden : Refused (pairing 9 (joining 1 8 0) (0 ∷ 0 ∷ (pairs_of 7 ++ (1 ∷ 1 ∷ [])))) 9 2
  -- two nodes that name one pair: the later
  pub pair_named_twice : Refused named_twice 9 4
  -- 8 before 9
  pub names_before_pairs : Refused (pairing 1 (joining 0 2 0) (2 ∷ 0 ∷ [])) 8 2
  -- 10: a needed set outside what is read; half of what is read together; the node
  pub needed_unread : Refused (set small (node_byte 2 23) 1) 10 2
  pub needed_half : Refused (set (set small (node_byte 3 0) 3) (node_byte 3 4) 1) 10 3
  -- of kind 9: an attribute of a pair that it doesn't name; half a pair, of one and of two; half of one pair, whole of another that shares an attribute
  pub needed_unnamed : Refused (pairing 2 (joining 0 1 10) (0 ∷ 2 ∷ 1 ∷ 3 ∷ [])) 10 2
  pub needed_half_left : Refused (pairing 1 (joining 0 1 1) (0 ∷ 2 ∷ [])) 10 2
  pub needed_half_right : Refused (pairing 1 (joining 0 1 4) (0 ∷ 2 ∷ [])) 10 2
  pub needed_half_second : Refused (paired 7) 10 2
  pub eighth_half : Refused (pairing 9 (joining 1 8 2) (0 ∷ 0 ∷ (pairs_of 7 ++ (1 ∷ 3 ∷ [])))) 10 2
  pub needed_half_shared : Refused (pairing 2 (joining 0 2 5) (0 ∷ 2 ∷ 0 ∷ 3 ∷ [])) 10 2
  pub pairs_before_needed : Refused (pairing 1 (joining 0 1 1) (2 ∷ 0 ∷ [])) 9 2
  -- a node's 8, 9, 10 in turn, and all three before the next node's
  pub shape_before_attributes : Refused (set (set small (node_byte 0 5) 1) (node_byte 0 15) 2) 8 0
  pub attributes_before_needed : Refused (set (set small (node_byte 0 15) 2) (node_byte 0 23) 1) 9 0
  pub attributes_before_next : Refused (set (set small (node_byte 0 15) 2) (node_byte 1 0) 9) 9 0
  pub needed_before_next : Refused (set (set small (node_byte 2 23) 1) (node_byte 3 0) 9) 10 2
  -- 8, after all nodes: the lowest without parent; before 11
  pub parent_none : Refused parentless 8 1
  pub parent_lowest : Refused two_parentless 8 0
  pub nodes_before_parents : Refused (set parentless (node_byte 3 23) 2) 10 3
  pub parents_before_prices : Refused (set parentless (price_byte 0 3) 1) 8 1
  -- 11: a price too high, or not 0 where 0 is fixed: a leaf's, a subject's to itself; a running index, step prices first
  pub leaf_price : Refused (set small (price_byte 3 3) 1) 11 3
  pub step-price : Refused (set small (price_byte 6 0) 1) 11 6
  pub link-price : Refused (set small (price_byte 10 2) 4) 11 10
  pub link_itself : Refused (set small (price_byte 11 3) 1) 11 11
  pub prices_in_order : Refused (set (set small (price_byte 1 3) 1) (price_byte 2 3) 1) 11 1
  pub steps_before_links : Refused (set (set small (price_byte 7 0) 1) (price_byte 8 3) 1) 11 7
