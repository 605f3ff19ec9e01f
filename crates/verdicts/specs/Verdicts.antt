-- The table of verdicts: each number of document 01 and of tickets 2026-01 and 2026-02 with its place, also in the versions of tickets 2026-05 and 2026-06,
-- and, where two conditions hold, the earlier one.
use Rattle.std.specs.Prelude.{ℕ, ◌≡◌, List, [], ◌∷◌, ◌++◌, set, replicate}
use Rattle.laws.specs.Trials.{Says, answers, refuses, verdict}
use Rattle.trials.specs.Small.{with_user, a_relation, a_grant, a_node, naming, lasting, small, paired, dated}
use Rattle.trials.specs.Verdicts.{FileVerdicts}
use Rattle.verdicts.specs.Refusals.{Rooms, cheapest_plan_trials, offered_plan_trials, why_trials}

-- what is said of the cheapest plan of a file, and of the plan for an offered choice
abbrev pub cheapest : List ℕ → Rooms → Says (Unit {0})
cheapest s rooms = verdict (cheapest_plan_trials s rooms) tt

abbrev pub offered : List ℕ → List ℕ → Rooms → Says (Unit {0})
offered s offer rooms = verdict (offered_plan_trials s offer rooms) tt

-- what is said of the question why a subject is out of a step
abbrev pub why : List ℕ → ℕ → ℕ → Says (Unit {0})
why s i p = verdict (why_trials s i p) tt

-- rooms of these lengths
abbrev pub room : ℕ → ℕ → ℕ → Rooms
room choice plan keys = record { choice = replicate choice 0; plan = replicate plan 0; keys = replicate keys 0 }

-- one leaf alone: it asks for rooms of 1, 2 and 2
abbrev pub leaf_alone : List ℕ
leaf_alone =
    65 ∷ 88 ∷ 80 ∷ 0 ∷ 1 ∷ 1 ∷ 1 ∷ 1 ∷ 1 ∷ 0 ∷ 1 ∷ 0 ∷ 0 ∷ 0 ∷ 0
    ∷ (a_relation 0 1 ++ a_grant 0 0 1 0 ++ a_node 0 255 255 0 255 1 0 ++ replicate 8 0)

-- the same of two subjects, of whom subject 1 sees nothing
abbrev pub leaf_of_two : List ℕ
leaf_of_two =
    65 ∷ 88 ∷ 80 ∷ 0 ∷ 1 ∷ 2 ∷ 1 ∷ 1 ∷ 1 ∷ 0 ∷ 1 ∷ 0 ∷ 0 ∷ 0 ∷ 0
    ∷ (a_relation 0 1 ++ a_grant 0 0 1 0 ++ a_node 0 255 255 0 255 1 0 ++ replicate 24 0)

-- a leaf of subject 0 and a select over it, which subject 0 alone may run, of two: one step; it asks for rooms of 2, 4 and 2
abbrev pub selected : ℕ → List ℕ
selected allowed =
    65 ∷ 88 ∷ 80 ∷ 0 ∷ 1 ∷ 2 ∷ 1 ∷ 1 ∷ 2 ∷ 0 ∷ 1 ∷ 0 ∷ 0 ∷ 0 ∷ allowed
    ∷ (a_relation 0 1 ++ a_grant 0 0 1 0 ++ a_node 0 255 255 0 255 1 0 ++ a_node 2 0 255 0 255 0 0 ++ replicate 32 0)

-- two owners who see nothing of each other's: nodes 0 and 1 as before, a leaf of subject 1, the product of 1 and 2, which no one may run, and a select
-- over it; one step
abbrev pub unseen : ℕ → List ℕ
unseen allowed =
    65 ∷ 88 ∷ 80 ∷ 0 ∷ 1 ∷ 2 ∷ 2 ∷ 2 ∷ 5 ∷ 0 ∷ 2 ∷ 0 ∷ 0 ∷ 0 ∷ allowed
    ∷ (a_relation 0 1 ++ a_relation 1 2 ++ a_grant 0 0 1 0 ++ a_grant 1 1 2 0
    ++ a_node 0 255 255 0 255 1 0 ++ a_node 2 0 255 0 255 0 0 ++ a_node 0 255 255 1 255 2 0 ++ a_node 4 1 2 255 255 0 0 ++ a_node 2 3 255 0 255 0 0
    ++ replicate 56 0)

-- the join on two pairs where any sees the second relation in clear, so that subject 0, its user, may have both leaves; subject 0 alone may run it: two steps
abbrev pub joined_on_pairs : ℕ → List ℕ
joined_on_pairs allowed = set (set (set (paired 0) 98 12) 106 0) 14 allowed

-- a leaf of subject 0, who sees it in clear from day 3 to 9 and is the user, and a select over it, which subject 1, who sees it sealed from day 5 on, may run
-- from then on: on day 4 one step, on day 5 two
abbrev pub selected_on : ℕ → ℕ → List ℕ
selected_on day allowed =
    65 ∷ 88 ∷ 80 ∷ 0 ∷ 4 ∷ 2 ∷ 1 ∷ 1 ∷ 2 ∷ 0 ∷ 2 ∷ 0 ∷ 0 ∷ 0 ∷ allowed ∷ 0 ∷ 0 ∷ 0 ∷ day
    ∷ (a_relation 0 1 ++ lasting 3 9 (a_grant 0 0 1 0) ++ lasting 5 9 (a_grant 0 1 0 1) ++ naming 0 0 (a_node 0 255 255 0 255 1 0)
    ++ naming 0 0 (a_node 2 0 255 0 255 0 0) ++ replicate 32 0)

pub record Verdicts : Type 0 where
  -- 1 to 11
  pub file : FileVerdicts
  -- the cheapest choice: 1 to 11, 17, 12, 13, 15; the last price of the file is not 0, no step is allowed, no room is lent
  pub file_before_candidates : cheapest (set (unseen 0) 264 1) (room 0 0 0) ≡ refuses 11 13
  -- 17: a leaf that the user may not have, though it sees it sealed; the lowest such node; before 12, 13 and 15; nobody is asked in version 1
  pub user_may : cheapest (with_user 0 (selected 1)) (room 2 4 2) ≡ answers tt
  pub user_blind : cheapest (with_user 1 (selected 1)) (room 2 4 2) ≡ refuses 17 0
  pub user_sealed : cheapest (with_user 0 small) (room 4 8 4) ≡ refuses 17 1
  pub file_before_user : cheapest (set (with_user 0 (unseen 0)) 265 1) (room 0 0 0) ≡ refuses 11 13
  pub user_before_candidates : cheapest (with_user 0 (unseen 1)) (room 5 10 4) ≡ refuses 17 2
  pub user_before_steps : cheapest (with_user 1 (selected 0)) (room 2 4 2) ≡ refuses 17 0
  pub user_leaf_alone : cheapest (with_user 1 leaf_of_two) (room 1 2 2) ≡ refuses 17 0
  pub user_before_rooms : cheapest (with_user 1 (selected 1)) (room 0 0 0) ≡ refuses 17 0
  -- 12: a step without candidate; the lowest node; before 13 and 15
  pub candidate_none : cheapest (unseen 1) (room 5 10 4) ≡ refuses 12 3
  pub candidates_before_steps : cheapest (unseen 0) (room 0 0 0) ≡ refuses 12 3
  -- 13: steps exceed those allowed, and no choice so far is answered; 0; before 15
  pub steps_enough : cheapest (selected 1) (room 2 4 2) ≡ answers tt
  pub steps_short : cheapest (selected 0) (room 2 4 2) ≡ refuses 13 0
  pub steps_before_rooms : cheapest (selected 0) (room 0 0 0) ≡ refuses 13 0
  -- 15: lent room too short; 1 choice, 2 plan, 3 keys, the lowest; room beyond is no fault
  pub rooms_enough : cheapest leaf_alone (room 1 2 2) ≡ answers tt
  pub rooms_longer : cheapest leaf_alone (room 2 3 3) ≡ answers tt
  pub choice_short : cheapest leaf_alone (room 0 2 2) ≡ refuses 15 1
  pub plan_short : cheapest leaf_alone (room 1 1 2) ≡ refuses 15 2
  pub keys_short : cheapest leaf_alone (room 1 2 1) ≡ refuses 15 3
  pub choice_before_plan : cheapest leaf_alone (room 0 1 2) ≡ refuses 15 1
  pub plan_before_keys : cheapest leaf_alone (room 1 1 1) ≡ refuses 15 2
  -- plan and keys are as long as nodes and attributes ask, two numbers for each
  pub plan_by_nodes : cheapest (selected 1) (room 2 3 2) ≡ refuses 15 2
  pub keys_by_attributes : cheapest (selected 1) (room 2 4 1) ≡ refuses 15 3
  -- an offered choice: 1 to 11, 17, 14, 15; neither 12 nor 13 is asked, nor the room for the choice
  pub file_before_offer : offered (set (selected 0) 129 1) [] (room 0 0 0) ≡ refuses 11 7
  pub file_before_offer_user : offered (set (with_user 1 (selected 0)) 130 1) [] (room 0 0 0) ≡ refuses 11 7
  pub user_before_offer_length : offered (with_user 1 (selected 0)) [] (room 0 0 0) ≡ refuses 17 0
  pub user_before_offer : offered (with_user 0 (unseen 1)) (1 ∷ 0 ∷ 1 ∷ 0 ∷ 0 ∷ []) (room 0 10 4) ≡ refuses 17 2
  pub user_offers : offered (with_user 0 (selected 0)) (0 ∷ 0 ∷ []) (room 0 4 2) ≡ answers tt
  pub offer_enough : offered (selected 0) (0 ∷ 0 ∷ []) (room 0 4 2) ≡ answers tt
  pub offer_without_candidate : offered (unseen 0) (0 ∷ 0 ∷ 1 ∷ 0 ∷ 0 ∷ []) (room 0 10 4) ≡ refuses 14 3
  -- 14: length not n; n; before the subjects and 15
  pub offer_shorter : offered (selected 1) (0 ∷ []) (room 0 4 2) ≡ refuses 14 2
  pub offer_longer : offered (selected 1) (0 ∷ 0 ∷ 0 ∷ []) (room 0 4 2) ≡ refuses 14 2
  pub length_before_subjects : offered (selected 1) (1 ∷ []) (room 0 0 0) ≡ refuses 14 2
  -- 14: a subject that is no candidate, or a leaf's that is not the owner; the lowest node; before 15
  pub offer_owner : offered (selected 1) (1 ∷ 0 ∷ []) (room 0 4 2) ≡ refuses 14 0
  pub offer_candidate : offered (selected 1) (0 ∷ 1 ∷ []) (room 0 4 2) ≡ refuses 14 1
  pub offer_missing : offered (selected 1) (0 ∷ 2 ∷ []) (room 0 4 2) ≡ refuses 14 1
  pub offer_lowest : offered (selected 1) (1 ∷ 1 ∷ []) (room 0 4 2) ≡ refuses 14 0
  pub step_before_leaf : offered (unseen 1) (0 ∷ 1 ∷ 0 ∷ 0 ∷ 0 ∷ []) (room 0 10 4) ≡ refuses 14 1
  pub offer_before_rooms : offered (selected 1) (0 ∷ 1 ∷ []) (room 0 0 0) ≡ refuses 14 1
  -- 15: plan and keys
  pub offered_plan_short : offered leaf_alone (0 ∷ []) (room 1 1 2) ≡ refuses 15 2
  pub offered_keys_short : offered leaf_alone (0 ∷ []) (room 1 2 1) ≡ refuses 15 3
  pub offered_plan_before_keys : offered leaf_alone (0 ∷ []) (room 1 1 1) ≡ refuses 15 2
  -- why a subject is out: 1 to 11, 16; neither 12 nor 13 nor 17 is asked
  pub file_before_asked : why (set (selected 0) 129 1) 0 2 ≡ refuses 11 7
  pub asked : why (selected 0) 1 1 ≡ answers tt
  pub user_unasked : why (with_user 1 (selected 0)) 1 1 ≡ answers tt
  pub asked_without_candidate : why (unseen 0) 3 0 ≡ answers tt
  -- 16: a node that is no step, or a subject that isn't there; the node asked for, also where its last byte alone would be a step
  pub asked_leaf : why (selected 1) 0 0 ≡ refuses 16 0
  pub asked_past : why (selected 1) 2 0 ≡ refuses 16 2
  pub asked_far : why (selected 1) 257 0 ≡ refuses 16 257
  pub asked_subject : why (unseen 0) 3 2 ≡ refuses 16 3
  -- in version 3: the user may have both leaves, may not have one, and what comes after it
  pub pairs_may : cheapest (joined_on_pairs 2) (room 3 6 8) ≡ answers tt
  pub pairs_user_sealed : cheapest (paired 0) (room 3 6 8) ≡ refuses 17 1
  pub pairs_user_first : cheapest (set (joined_on_pairs 0) 15 1) (room 0 0 0) ≡ refuses 17 0
  pub pairs_steps_short : cheapest (joined_on_pairs 1) (room 3 6 8) ≡ refuses 13 0
  pub pairs_offered : offered (joined_on_pairs 0) (0 ∷ 1 ∷ 0 ∷ []) (room 0 6 8) ≡ answers tt
  pub pairs_offer_candidate : offered (joined_on_pairs 0) (0 ∷ 1 ∷ 1 ∷ []) (room 0 6 8) ≡ refuses 14 2
  -- in version 4, of the night's day: 17 of a user who sees the leaf in clear to day 4 and sealed from day 5 on; 13 and 14 by the candidates of the day; 7 first
  pub day_user_may : cheapest (set (dated 4) 15 1) (room 1 2 2) ≡ answers tt
  pub day_user_sealed : cheapest (set (dated 5) 15 1) (room 1 2 2) ≡ refuses 17 0
  pub day_owner_first : cheapest (set (dated 2) 15 1) (room 0 0 0) ≡ refuses 7 0
  pub day_steps_enough : cheapest (selected_on 4 1) (room 2 4 2) ≡ answers tt
  pub day_steps_short : cheapest (selected_on 5 1) (room 2 4 2) ≡ refuses 13 0
  pub day_offered : offered (selected_on 5 0) (0 ∷ 1 ∷ []) (room 0 4 2) ≡ answers tt
  pub day_offer_early : offered (selected_on 4 0) (0 ∷ 1 ∷ []) (room 0 4 2) ≡ refuses 14 1
