-- Runs on small nights: for each clause of the run one that it makes unclean, by it alone where a run can tell; some that are clean; keys over a chain.
use Rattle.std.specs.Prelude.{ℕ, ◌≡◌, List, [], ◌∷◌, length, get_or}
use Rattle.sets.specs.Sets.{meet, minus}
use Rattle.night.specs.declared.Node.{Node}
use Rattle.night.specs.declared.Pair.{Pair}
use Rattle.night.specs.Night.{Night}
use Rattle.run.specs.Keys.{Plan}
use Rattle.run.specs.Run.{left_arrives, key_of, holders, delivered, Stuck, Forbidden, ForbiddenAt, ForbidsUser, DeliveryFails, Clean}

-- a node by kind, left, right, x, y, set and needed
abbrev pub node : ℕ → ℕ → ℕ → ℕ → ℕ → ℕ → ℕ → Node
node kind left right x y set needed =
    record { kind = kind; left = left; right = right; x = x; y = y; spare1 = 0; spare2 = 0; spare3 = 0; set = set; needed = needed; size = 0; first = 0; count = 0 }

-- the kinds that the nights here have
abbrev pub leaf : ℕ → ℕ → Node
leaf relation set = node 0 255 255 relation 255 set 0

abbrev pub project : ℕ → ℕ → Node
project left set = node 1 left 255 255 255 set 0

abbrev pub select : ℕ → ℕ → ℕ → Node
select left x needed = node 2 left 255 x 255 0 needed

abbrev pub compare : ℕ → ℕ → ℕ → Node
compare left x y = node 3 left 255 x y 0 0

abbrev pub product : ℕ → ℕ → Node
product left right = node 4 left right 255 255 0 0

abbrev pub join : ℕ → ℕ → ℕ → ℕ → Node
join left right x y = node 5 left right x y 0 0

abbrev pub group : ℕ → ℕ → ℕ → Node
group left set x = node 6 left 255 x 255 set 0

abbrev pub count : ℕ → ℕ → Node
count left set = node 7 left 255 255 255 set 0

abbrev pub function : ℕ → ℕ → ℕ → Node
function left set x = node 8 left 255 x 255 set 0

-- a join of nodes 0 and 1 on as many pairs from the first on, by the first one's number, how many, and needed
abbrev pub join_on : ℕ → ℕ → ℕ → Node
join_on first count needed =
    record { kind = 9; left = 0; right = 1; x = 255; y = 255; spare1 = 0; spare2 = 0; spare3 = 0; set = 0; needed = needed; size = 0; first = first; count = count }

-- in a version, with a user: subject 0 owns {0, 1} and {2, 3} and sees all in clear; one other subject sees P in clear and E sealed
unfoldable pub seen_in : ℕ → ℕ → ℕ → ℕ → ℕ → List Node → Night
seen_in version user other P E nodes =
    record {
      header = record { version = version; subjects = 2; relations = 2; attributes = 4; nodes = length nodes; grants = 4; steps = 0; user = user; pairs = 0; day = 0 };
      relations = record { owner = 0; set = 3 } ∷ record { owner = 0; set = 12 } ∷ [];
      grants =
          record { relation = 0; subject = 0; first = 0; last = 65535; clear = 3; sealed = 0 }
          ∷ record { relation = 1; subject = 0; first = 0; last = 65535; clear = 12; sealed = 0 }
          ∷ record { relation = 0; subject = other; first = 0; last = 65535; clear = meet P 3; sealed = meet E 3 }
          ∷ record { relation = 1; subject = other; first = 0; last = 65535; clear = minus P 3; sealed = minus E 3 }
          ∷ [];
      nodes = nodes;
      pairs = [];
      step_prices = [];
      link_prices = [];
    }

-- in version 1, where nobody asked
abbrev pub seen_by : ℕ → ℕ → ℕ → List Node → Night
seen_by other P E nodes = seen_in 1 0 other P E nodes

-- the other is subject 1
abbrev pub seen : ℕ → ℕ → List Node → Night
seen P E nodes = seen_by 1 P E nodes

-- and is the user, in version 2
abbrev pub user_sees : ℕ → ℕ → List Node → Night
user_sees P E nodes = seen_in 2 1 1 P E nodes

-- in version 3, with pairs, where the other is subject 1 and the user is subject 0
unfoldable pub seen_on : ℕ → ℕ → List Pair → List Node → Night
seen_on P E pairs nodes =
    record {
      header = record { version = 3; subjects = 2; relations = 2; attributes = 4; nodes = length nodes; grants = 4; steps = 0; user = 0; pairs = length pairs; day = 0 };
      relations = (seen_in 3 0 1 P E nodes).relations;
      grants = (seen_in 3 0 1 P E nodes).grants;
      nodes = nodes;
      pairs = pairs;
      step_prices = [];
      link_prices = [];
    }

-- in version 4, on a day, with a user: subject 1 sees {0, 1} in clear to day 9, and then nothing
unfoldable pub seen_to : ℕ → ℕ → List Node → Night
seen_to day user nodes =
    record {
      header = record { version = 4; subjects = 2; relations = 2; attributes = 4; nodes = length nodes; grants = 3; steps = 0; user = user; pairs = 0; day = day };
      relations = (seen_in 4 0 1 0 0 nodes).relations;
      grants =
          record { relation = 0; subject = 0; first = 0; last = 65535; clear = 3; sealed = 0 }
          ∷ record { relation = 1; subject = 0; first = 0; last = 65535; clear = 12; sealed = 0 }
          ∷ record { relation = 0; subject = 1; first = 0; last = 9; clear = 3; sealed = 0 }
          ∷ [];
      nodes = nodes;
      pairs = [];
      step_prices = [];
      link_prices = [];
    }

-- subjects, openings and sealings of the nodes in order
unfoldable pub plan : List ℕ → List ℕ → List ℕ → Plan
plan subjects opens seals = record { subject = λ i. get_or subjects i 0; opens = λ i. get_or opens i 0; seals = λ i. get_or seals i 0 }

-- the run of the plan isn't clean
abbrev pub Unclean : Night → Plan → Type 0
Unclean N p = Clean N p → ⊥

-- a leaf of {0, 1} and a project to it
abbrev pub two : List Node
two = leaf 0 3 ∷ project 0 3 ∷ []

-- the same for a leaf of {0}
abbrev pub alone : List Node
alone = leaf 0 1 ∷ project 0 1 ∷ []

-- a leaf of {0, 1}, a step on it, and attribute 1 alone handed on
abbrev pub hands_on : Node → List Node
hands_on step = leaf 0 3 ∷ step ∷ project 1 2 ∷ project 2 2 ∷ []

-- attributes 0 and 1 tied, then 1 and 2, of which only attribute 1 is handed on
abbrev pub chained : List Node
chained = leaf 0 3 ∷ compare 0 0 1 ∷ leaf 1 12 ∷ join 1 2 1 2 ∷ project 3 2 ∷ project 4 2 ∷ []

-- the same, and then 2 and 3 tied
abbrev pub longer : List Node
longer = leaf 0 3 ∷ compare 0 0 1 ∷ leaf 1 12 ∷ join 1 2 1 2 ∷ compare 3 2 3 ∷ project 4 2 ∷ project 5 2 ∷ []

-- attributes 0 and 64, of which the second is none
abbrev pub beyond : ℕ
beyond = 18446744073709551617

-- leaves of {0} and {2}, and a join on them
abbrev pub joined : List Node
joined = leaf 0 1 ∷ leaf 1 4 ∷ join 0 1 0 2 ∷ []

-- two pairs that share no attribute, 0 with 2 and 1 with 3; two that share one, 0 with 2 and 0 with 3
abbrev pub apart_pairs : List Pair
apart_pairs = record { left = 0; right = 2 } ∷ record { left = 1; right = 3 } ∷ []

abbrev pub shared_pairs : List Pair
shared_pairs = record { left = 0; right = 2 } ∷ record { left = 0; right = 3 } ∷ []

-- three, of which the first two are the same
abbrev pub three_pairs : List Pair
three_pairs = record { left = 0; right = 2 } ∷ apart_pairs

-- leaves of {0, 1} and {2, 3}, and such a join
abbrev pub pairs_joined : ℕ → ℕ → ℕ → List Node
pairs_joined first count needed = leaf 0 3 ∷ leaf 1 12 ∷ join_on first count needed ∷ []

-- Sets are numbers: 1 is {0}, 2 is {1}, 3 is {0, 1}, 4 is {2}, 5 is {0, 2}, 6 is {1, 2}, 8 is {3}, 9 is {0, 3}, 10 is {1, 3}, 12 is {2, 3}. Where a run
-- is stuck the other subject sees all in clear, so that nothing is forbidden; where it is forbidden, nothing is stuck.
pub record Runs : Type 0 where
  -- stuck: node 1 seals attribute 0, which node 0 sealed
  pub seals_twice : Unclean (seen 3 0 two) (plan (0 ∷ 1 ∷ []) [] (1 ∷ 1 ∷ []))
  -- a leaf of {0} seals attribute 1, which it lacks
  pub leaf_seals_absent : Unclean (seen 3 0 alone) (plan (0 ∷ 1 ∷ []) [] (2 ∷ []))
  -- a step seals attribute 0, which it projects away
  pub step_seals_absent : Unclean (seen 3 0 (leaf 0 3 ∷ project 0 2 ∷ [])) (plan (0 ∷ 1 ∷ []) [] (0 ∷ 1 ∷ []))
  -- node 1 opens attribute 0, which arrives clear; attribute 1, which does not arrive; a leaf opens attribute 0
  pub opens_clear : Unclean (seen 3 0 two) (plan (0 ∷ 1 ∷ []) (0 ∷ 1 ∷ []) [])
  pub opens_absent : Unclean (seen 3 0 alone) (plan (0 ∷ 1 ∷ []) (0 ∷ 2 ∷ []) [])
  pub leaf_opens : Unclean (seen 3 0 two) (plan (0 ∷ 1 ∷ []) (1 ∷ []) [])
  -- node 1 opens attribute 0 and is no holder of its key: subject 16 is in no set of subjects
  pub opens_unheld : Unclean (seen_by 16 3 0 two) (plan (0 ∷ 16 ∷ []) (0 ∷ 1 ∷ []) (1 ∷ []))
  -- node 1 needs attribute 0, which arrives sealed and is not opened
  pub needs_sealed : Unclean (seen 3 0 (leaf 0 3 ∷ select 0 0 1 ∷ [])) (plan (0 ∷ 1 ∷ []) [] (1 ∷ []))
  -- a select of 0 with 1, a join on 0 and 2, a user function over {0, 1}, where one of them is sealed and the other clear
  pub compare_mixed : Unclean (seen 3 0 (leaf 0 3 ∷ compare 0 0 1 ∷ [])) (plan (0 ∷ 1 ∷ []) [] (1 ∷ []))
  pub join_mixed : Unclean (seen 15 0 joined) (plan (0 ∷ 0 ∷ 1 ∷ []) [] (1 ∷ []))
  pub function_mixed : Unclean (seen 3 0 (leaf 0 3 ∷ function 0 3 0 ∷ [])) (plan (0 ∷ 1 ∷ []) [] (2 ∷ []))
  -- both arrive sealed, and one of them is opened
  pub opened_half : Unclean (seen 3 0 (leaf 0 3 ∷ compare 0 0 1 ∷ [])) (plan (0 ∷ 1 ∷ []) (0 ∷ 1 ∷ []) (3 ∷ []))
  -- a user function over {0, 64}, sealed under two keys: 64 is no attribute, and so is grouped with nothing
  pub two_keys :
      Unclean (seen beyond 0 (leaf 0 beyond ∷ function 0 beyond 0 ∷ [])) (plan (0 ∷ 1 ∷ []) [] (beyond ∷ []))
  -- forbidden: attribute 0 arrives clear, which subject 1 sees sealed; arrives sealed, which it doesn't see; on the left, where the
  -- result lacks it, and on the right
  pub clear_left : Unclean (seen 2 1 (leaf 0 3 ∷ project 0 2 ∷ [])) (plan (0 ∷ 1 ∷ []) [] (2 ∷ []))
  pub sealed_left : Unclean (seen 2 0 (leaf 0 3 ∷ project 0 2 ∷ [])) (plan (0 ∷ 1 ∷ []) [] (3 ∷ []))
  pub clear_right : Unclean (seen 4 1 (leaf 1 4 ∷ leaf 0 1 ∷ product 0 1 ∷ [])) (plan (0 ∷ 0 ∷ 1 ∷ []) [] [])
  pub sealed_right : Unclean (seen 4 0 (leaf 1 4 ∷ leaf 0 1 ∷ product 0 1 ∷ [])) (plan (0 ∷ 0 ∷ 1 ∷ []) [] (0 ∷ 1 ∷ []))
  -- what subject 1 saw in clear to the day before the night's
  pub day_over : Unclean (seen_to 10 0 two) (plan (0 ∷ 1 ∷ []) [] [])
  -- a step that needs nothing opens attribute 0, which its subject sees sealed: only the table after opening forbids, for it isn't in the result
  pub opened_left : Unclean (seen 2 1 (leaf 0 3 ∷ project 0 2 ∷ [])) (plan (0 ∷ 1 ∷ []) (0 ∷ 1 ∷ []) (3 ∷ []))
  -- the same on the right, where the result shows it too
  pub opened_right : Unclean (seen 4 1 (leaf 1 4 ∷ leaf 0 1 ∷ product 0 1 ∷ [])) (plan (0 ∷ 0 ∷ 1 ∷ []) (0 ∷ 0 ∷ 1 ∷ []) (0 ∷ 1 ∷ []))
  -- attribute 0 was tested in clear by a select, a group, a count, and subject 1 sees it sealed; the column itself is gone
  pub select_clear : Unclean (seen 2 1 (hands_on (select 0 0 0))) (plan (0 ∷ 0 ∷ 0 ∷ 1 ∷ []) [] [])
  pub group_clear : Unclean (seen 2 1 (hands_on (group 0 1 1))) (plan (0 ∷ 0 ∷ 0 ∷ 1 ∷ []) [] [])
  pub count_clear : Unclean (seen 2 1 (hands_on (count 0 3))) (plan (0 ∷ 0 ∷ 0 ∷ 1 ∷ []) [] [])
  -- it was tested sealed, and subject 1 doesn't see it
  pub select_sealed : Unclean (seen 2 0 (hands_on (select 0 0 0))) (plan (0 ∷ 0 ∷ 0 ∷ 1 ∷ []) [] (1 ∷ []))
  pub group_sealed : Unclean (seen 2 0 (hands_on (group 0 1 1))) (plan (0 ∷ 0 ∷ 0 ∷ 1 ∷ []) [] (1 ∷ []))
  pub count_sealed : Unclean (seen 2 0 (hands_on (count 0 3))) (plan (0 ∷ 0 ∷ 0 ∷ 1 ∷ []) [] (1 ∷ []))
  -- attributes 0 and 1 tied, of which it sees one in clear and one sealed; by a select, a user function
  pub compare_tied : Unclean (seen 2 1 (hands_on (compare 0 0 1))) (plan (0 ∷ 0 ∷ 0 ∷ 1 ∷ []) [] [])
  pub function_tied : Unclean (seen 2 1 (hands_on (function 0 3 1))) (plan (0 ∷ 0 ∷ 0 ∷ 1 ∷ []) [] [])
  -- attribute 0 tied only to itself, which it doesn't see
  pub tied_alone : Unclean (seen 2 0 (hands_on (compare 0 0 0))) (plan (0 ∷ 0 ∷ 0 ∷ 1 ∷ []) [] [])
  -- only the result: a join ties 0, which its subject sees in clear, with 2, which it sees sealed
  pub tied_result : Unclean (seen 1 4 joined) (plan (0 ∷ 0 ∷ 1 ∷ []) [] (1 ∷ 4 ∷ []))
  -- only the chain: {0, 1} lies in P, {1, 2} in both, {2, 3} in E, and all four in neither
  pub chain : Unclean (seen 7 14 longer) (plan (0 ∷ 0 ∷ 0 ∷ 0 ∷ 0 ∷ 0 ∷ 1 ∷ []) [] [])
  -- at their nodes: a leaf and a step that are stuck, a step that is forbidden
  pub stuck_leaf : Stuck (seen 3 0 two) (plan (0 ∷ 1 ∷ []) (1 ∷ []) []) 0
  pub stuck_step : Stuck (seen 3 0 two) (plan (0 ∷ 1 ∷ []) [] (1 ∷ 1 ∷ [])) 1
  pub forbidden_step : ForbiddenAt (seen 1 4 joined) (plan (0 ∷ 0 ∷ 1 ∷ []) [] (1 ∷ 4 ∷ [])) 2
  -- the delivery, of what subject 0 alone has run: subject 1, the user, takes attribute 0 in clear, which it sees sealed; takes what is tested and
  -- tied so; opens attribute 0, which the root, or the leaf, sealed and which it may take so; opens it and is no holder, as subject 16
  pub user_clear : Unclean (user_sees 2 1 two) (plan [] [] [])
  pub user_test : Unclean (user_sees 2 1 (hands_on (select 0 0 0))) (plan [] [] [])
  pub user_tied : Unclean (user_sees 2 1 (hands_on (compare 0 0 1))) (plan [] [] [])
  pub user_opens : Unclean (user_sees 2 1 two) (plan [] [] (0 ∷ 1 ∷ []))
  pub user_opens_early : Unclean (user_sees 2 1 two) (plan [] [] (1 ∷ []))
  pub user_unheld : Unclean (seen_in 2 16 16 3 0 two) (plan [] [] (1 ∷ []))
  -- also where it ran the root itself; and a leaf alone
  pub user_opens_own : Unclean (user_sees 2 1 two) (plan (0 ∷ 1 ∷ []) [] (1 ∷ []))
  pub user_leaf_clear : Unclean (user_sees 2 1 (leaf 0 3 ∷ [])) (plan [] [] [])
  -- on arrival: attribute 0 sealed, which the user doesn't see; it is forbidden after opening too, so no run tells the two apart
  pub user_takes : DeliveryFails (user_sees 2 0 two) (plan [] [] (1 ∷ []))
  -- in clear, which the user saw so to the day before
  pub user_day_over : DeliveryFails (seen_to 10 1 two) (plan [] [] [])
  -- the user holds the key of attribute 0 where the leaf or the root sealed it, and where it ran the root itself; not where it arrives in clear, nor
  -- where nobody sealed it, nor in version 1
  pub user_holds : holders (user_sees 3 0 two) (plan [] [] (1 ∷ [])) 0 ≡ 3
  pub user_holds_last : holders (user_sees 3 0 two) (plan [] [] (0 ∷ 1 ∷ [])) 0 ≡ 3
  pub user_holds_own : holders (user_sees 3 0 two) (plan (0 ∷ 1 ∷ []) [] (1 ∷ [])) 0 ≡ 3
  -- in version 3 too, who is asked as in version 2
  pub user_holds_pairs : holders (seen_in 3 1 1 3 0 two) (plan [] [] (1 ∷ [])) 0 ≡ 3
  pub user_clear_pairs : Unclean (seen_in 3 1 1 2 1 two) (plan [] [] [])
  pub user_clear_holds : holders (user_sees 3 0 two) (plan [] (0 ∷ 1 ∷ []) (1 ∷ [])) 0 ≡ 1
  pub user_leaf_holds : holders (user_sees 3 0 (leaf 0 3 ∷ [])) (plan [] [] []) 0 ≡ 0
  pub nobody_holds : holders (seen_in 1 1 1 3 0 two) (plan [] [] (1 ∷ [])) 0 ≡ 1
  -- nor where it was projected away, unless one that is tied with it is delivered sealed; a leaf alone that seals its last attribute
  pub user_gone_holds : holders (user_sees 3 0 (leaf 0 3 ∷ project 0 2 ∷ [])) (plan [] [] (3 ∷ [])) 0 ≡ 1
  pub user_tied_holds : holders (user_sees 3 0 (hands_on (compare 0 0 1))) (plan [] [] (3 ∷ [])) 0 ≡ 3
  pub user_last_holds : holders (user_sees 15 0 (leaf 1 12 ∷ [])) (plan [] [] (8 ∷ [])) 3 ≡ 3
  -- one key, 0, for attributes 0, 1 and 2, linked by two ties; where 0 is never sealed, 1 names it and 0 has none; 3 has its own; holders
  -- seal or open one of the key's, not one that is linked and never sealed
  pub chain_key : key_of (seen 9 6 chained) (plan (0 ∷ 0 ∷ 0 ∷ 0 ∷ 0 ∷ 1 ∷ []) [] (3 ∷ 0 ∷ 12 ∷ [])) 2 ≡ 0
  pub chain_key_unsealed : key_of (seen 9 6 chained) (plan (0 ∷ 0 ∷ 0 ∷ 0 ∷ 0 ∷ 1 ∷ []) [] (2 ∷ 0 ∷ 12 ∷ [])) 2 ≡ 1
  pub no_key : key_of (seen 9 6 chained) (plan (0 ∷ 0 ∷ 0 ∷ 0 ∷ 0 ∷ 1 ∷ []) [] (2 ∷ 0 ∷ 12 ∷ [])) 0 ≡ 64
  pub own_key : key_of (seen 9 6 chained) (plan (0 ∷ 0 ∷ 0 ∷ 0 ∷ 0 ∷ 1 ∷ []) [] (3 ∷ 0 ∷ 12 ∷ [])) 3 ≡ 3
  pub chain_holders : holders (seen 9 6 chained) (plan (0 ∷ 1 ∷ 0 ∷ 0 ∷ 0 ∷ 1 ∷ []) (0 ∷ 1 ∷ []) (3 ∷ 0 ∷ 12 ∷ [])) 2 ≡ 3
  pub unsealed_holders : holders (seen 9 6 chained) (plan (0 ∷ 1 ∷ 0 ∷ 0 ∷ 0 ∷ 1 ∷ []) (0 ∷ 1 ∷ []) (2 ∷ 0 ∷ 12 ∷ [])) 2 ≡ 1
  pub own_holders : holders (seen 9 6 chained) (plan (0 ∷ 1 ∷ 0 ∷ 0 ∷ 0 ∷ 1 ∷ []) (0 ∷ 1 ∷ []) (3 ∷ 0 ∷ 12 ∷ [])) 3 ≡ 1
  -- two pairs that share attribute 0 have one key; two that share none have two, also where a pair stands twice before the last; an attribute
  -- of a pair past those that the node names, or before them, has its own
  pub shared_key : key_of (seen_on 15 0 shared_pairs (pairs_joined 0 2 0)) (plan [] [] (1 ∷ 12 ∷ [])) 0 ≡ 0
  pub shared_key_first : key_of (seen_on 15 0 shared_pairs (pairs_joined 0 2 0)) (plan [] [] (1 ∷ 12 ∷ [])) 2 ≡ 0
  pub shared_key_last : key_of (seen_on 15 0 shared_pairs (pairs_joined 0 2 0)) (plan [] [] (1 ∷ 12 ∷ [])) 3 ≡ 0
  pub apart_key_first : key_of (seen_on 15 0 apart_pairs (pairs_joined 0 2 0)) (plan [] [] (3 ∷ 12 ∷ [])) 2 ≡ 0
  pub apart_key_last : key_of (seen_on 15 0 apart_pairs (pairs_joined 0 2 0)) (plan [] [] (3 ∷ 12 ∷ [])) 3 ≡ 1
  pub third_key : key_of (seen_on 15 0 three_pairs (pairs_joined 0 3 0)) (plan [] [] (3 ∷ 12 ∷ [])) 3 ≡ 1
  pub past_key : key_of (seen_on 15 0 apart_pairs (pairs_joined 0 1 0)) (plan [] [] (3 ∷ 12 ∷ [])) 3 ≡ 3
  pub before_key : key_of (seen_on 15 0 apart_pairs (pairs_joined 1 1 0)) (plan [] [] (3 ∷ 12 ∷ [])) 2 ≡ 2
  -- a join on two pairs, stuck: one of the first pair is sealed and the other clear, or of the last, while the other pair is clear, or sealed; it
  -- needs the last pair, which arrives sealed
  pub pair_mixed : Unclean (seen_on 15 0 apart_pairs (pairs_joined 0 2 0)) (plan (0 ∷ 0 ∷ 1 ∷ []) [] (1 ∷ []))
  pub last_pair_mixed : Unclean (seen_on 15 0 apart_pairs (pairs_joined 0 2 0)) (plan (0 ∷ 0 ∷ 1 ∷ []) [] (2 ∷ []))
  pub third_pair_mixed : Unclean (seen_on 15 0 three_pairs (pairs_joined 0 3 0)) (plan (0 ∷ 0 ∷ 1 ∷ []) [] (2 ∷ []))
  pub pair_mixed_beside : Unclean (seen_on 15 0 apart_pairs (pairs_joined 0 2 0)) (plan (0 ∷ 0 ∷ 1 ∷ []) [] (2 ∷ 12 ∷ []))
  pub needs_pair : Unclean (seen_on 15 0 apart_pairs (pairs_joined 0 2 10)) (plan (0 ∷ 0 ∷ 1 ∷ []) [] (2 ∷ 8 ∷ []))
  -- forbidden, by the result alone: of the first pair, or of the last, subject 1 sees one in clear and one sealed; of two pairs that share attribute 0,
  -- which it sees both ways, it sees one in clear and the other sealed, and so all three neither way
  pub pair_half_seen : Unclean (seen_on 11 4 apart_pairs (pairs_joined 0 2 0)) (plan (0 ∷ 0 ∷ 1 ∷ []) [] (1 ∷ 4 ∷ []))
  pub last_pair_half_seen : Unclean (seen_on 7 8 apart_pairs (pairs_joined 0 2 0)) (plan (0 ∷ 0 ∷ 1 ∷ []) [] (2 ∷ 8 ∷ []))
  pub shared_half_seen : Unclean (seen_on 7 9 shared_pairs (pairs_joined 0 2 0)) (plan (0 ∷ 0 ∷ 1 ∷ []) [] (1 ∷ 12 ∷ []))

-- and what must not be refused
pub record CleanRuns : Type 0 where
  -- clean: nothing is sealed; the root seals; a step opens what it doesn't need
  pub unsealed_clean : Clean (seen 3 0 two) (plan (0 ∷ 1 ∷ []) [] [])
  pub root_seals : Clean (seen 3 0 two) (plan (0 ∷ 1 ∷ []) [] (0 ∷ 3 ∷ []))
  pub opens_more : Clean (seen 3 0 two) (plan (0 ∷ 1 ∷ []) (0 ∷ 3 ∷ []) (3 ∷ []))
  -- delivered: the root seals, and the user sees all in clear; in version 1 nobody takes the root's table
  pub user_clean : Clean (user_sees 3 0 two) (plan (0 ∷ 1 ∷ []) [] (0 ∷ 3 ∷ []))
  pub nobody_takes : Clean (seen_in 1 2 1 3 0 two) (plan (0 ∷ 1 ∷ []) [] [])
  -- not stuck: a step needs what arrives clear; it opens the one that is sealed of two that it reads together
  pub needs_clear : Stuck (seen 3 0 (leaf 0 3 ∷ select 0 0 1 ∷ [])) (plan (0 ∷ 1 ∷ []) [] []) 1 → ⊥
  pub opened_together : Stuck (seen 3 0 (leaf 0 3 ∷ compare 0 0 1 ∷ [])) (plan (0 ∷ 1 ∷ []) (0 ∷ 1 ∷ []) (1 ∷ [])) 1 → ⊥
  -- not forbidden: a leaf's subject sees nothing of its table; attribute 0 was tested sealed, and subject 1 sees it sealed
  pub leaf_unasked : ForbiddenAt (seen 0 0 two) (plan (1 ∷ 0 ∷ []) [] []) 0 → ⊥
  pub seen_sealed :
      Forbidden (seen 2 1 (hands_on (select 0 0 0)))
      (left_arrives (seen 2 1 (hands_on (select 0 0 0))) (plan (0 ∷ 0 ∷ 0 ∷ 1 ∷ []) [] (1 ∷ [])) 3) 2 1 → ⊥
  -- the user takes attribute 0 sealed, which it sees so
  pub user_sees_sealed : ForbidsUser (user_sees 2 1 two) (delivered (user_sees 2 1 two) (plan [] [] (1 ∷ []))) → ⊥
  -- a join on two pairs, one clear and one sealed, by a subject that sees the one in clear and the other sealed: each is tied on its own
  pub pairs_clean : Clean (seen_on 5 10 apart_pairs (pairs_joined 0 2 0)) (plan (0 ∷ 0 ∷ 1 ∷ []) [] (2 ∷ 8 ∷ []))
  -- not stuck: it needs one pair, which arrives clear, and the other is sealed; of a pair past those that it names, or before them, one is sealed
  pub needs_one_pair : Stuck (seen_on 15 0 apart_pairs (pairs_joined 0 2 5)) (plan (0 ∷ 0 ∷ 1 ∷ []) [] (2 ∷ 8 ∷ [])) 2 → ⊥
  pub pair_past : Stuck (seen_on 15 0 apart_pairs (pairs_joined 0 1 0)) (plan (0 ∷ 0 ∷ 1 ∷ []) [] (2 ∷ [])) 2 → ⊥
  pub pair_before : Stuck (seen_on 15 0 apart_pairs (pairs_joined 1 1 0)) (plan (0 ∷ 0 ∷ 1 ∷ []) [] (1 ∷ [])) 2 → ⊥
