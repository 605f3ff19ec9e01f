-- Where every grant is in force on every day, 5 to 17 say the same in a version with days, on any day.
use Prim.Native.Nat.{ℕ}
use mathlib.Core.Path.{◌≡◌, refl}
use mathlib.Core.Bool.{false, not}
use mathlib.Core.List.{List, [], ◌∷◌}
use lib.Dec.{eqb, ltb}
use lib.ListN.{length, get_or}
use Rattle.std.specs.Prelude.{if◌then◌else◌}
use Rattle.laws.specs.Trials.{trial, rows}
use Rattle.sets.specs.Sets.{member}
use Rattle.night.specs.Night.{Night, relation_of, node_of}
use Rattle.night.specs.Kinds.{a_leaf}
use Rattle.night.specs.Days.{in_version, ButDays}
use Rattle.night.proofs.Days.{clear_same, sealed_same}
use Rattle.model.specs.Candidates.{may}
use Rattle.model.specs.Choice.{owner_of}
use Rattle.model.specs.Days.{AnsweredAlike}
use Rattle.model.proofs.Days.{always_answered}
use Rattle.trials.proofs.Days.{always_read}
use Rattle.verdicts.specs.Refusals.{kept_from_user, user_trials, without_candidate, candidate_trials, steps_trials, offer_bad, offer_trials, choice_room_trials, plan_room_trials, keys_room_trials, no_step, asked_trials}
use Rattle.verdicts.specs.Days.{TriedAlike, AlwaysTried}

module _ (N : Night) (version day : ℕ) (but : ButDays N version day) where
  abbrev M : Night
  M = in_version N version day

  answered : AnsweredAlike N M
  answered = always_answered N version day but

  -- 17: the user sees the same, of the same tables
  user_same : user_trials N ≡ user_trials M
  unfolding user_trials kept_from_user node_of in_version
  user_same =
      λ d.
      rows N.header.nodes (λ i.
      trial
      (if but.delivering d then
      if eqb (node_of N i).kind a_leaf
      then not (may (answered.same.table i d) (clear_same N version day but N.header.user d) (sealed_same N version day but N.header.user d)) else false else
      false)
      17 i
      ∷ [])

  -- 12, 13, 14: the same candidates, in as many steps
  candidate_same : candidate_trials N ≡ candidate_trials M
  unfolding candidate_trials without_candidate node_of in_version
  candidate_same =
      λ d. rows N.header.nodes (λ i. trial (if eqb (node_of N i).kind 0 then false else eqb (answered.same.candidates i d) 0) 12 i ∷ [])

  steps_same : steps_trials N ≡ steps_trials M
  unfolding steps_trials in_version
  steps_same = λ d. trial (ltb N.header.steps (answered.counted d)) 13 0 ∷ []

  offer_same : (offer : List ℕ) → offer_trials N offer ≡ offer_trials M offer
  unfolding offer_trials offer_bad node_of relation_of in_version
  offer_same offer =
      λ d.
      trial (not (eqb (length offer) N.header.nodes)) 14 N.header.nodes
      ∷ rows N.header.nodes (λ i.
      trial
      (if eqb (node_of N i).kind 0 then not (eqb (get_or offer i 0) (owner_of N i)) else not (member (answered.same.candidates i d) (get_or offer i 0)))
      14 i
      ∷ [])

  -- 15 and 16 look at counts and kinds alone
  pub tried : TriedAlike N M
  unfolding choice_room_trials plan_room_trials keys_room_trials asked_trials no_step node_of in_version
  tried =
      record {
        records = (always_read N version day but).0;
        tree = (always_read N version day but).1;
        user = user_same;
        candidate = candidate_same;
        steps = steps_same;
        offer = offer_same;
        choice_room = λ room. refl;
        plan-room = λ room. refl;
        keys-room = λ room. refl;
        asked = λ i p. refl;
      }

pub always_tried : AlwaysTried
always_tried = tried
