-- Where every grant is in force on every day, 5 to 11, 17, 12, 13, 14, 15 and 16 say the same in a version with days, on any day (15 of the rooms for choice,
-- plan and keys; the writer's is of the file's length, which differs).
use Rattle.std.specs.Prelude.{ℕ, ◌≡◌, List}
use Rattle.night.specs.Night.{Night}
use Rattle.night.specs.Days.{in_version, ButDays}
use Rattle.trials.specs.Trials.{record_trials, tree_trials}
use Rattle.verdicts.specs.Refusals.{user_trials, candidate_trials, steps_trials, offer_trials, choice_room_trials, plan_room_trials, keys_room_trials, asked_trials}

-- these are the same trials of both nights, so that they refuse with the same numbers and places
pub record TriedAlike (N M : Night) : Type 0 where
  pub records : record_trials N ≡ record_trials M
  pub tree : tree_trials N ≡ tree_trials M
  pub user : user_trials N ≡ user_trials M
  pub candidate : candidate_trials N ≡ candidate_trials M
  pub steps : steps_trials N ≡ steps_trials M
  pub offer : (offer : List ℕ) → offer_trials N offer ≡ offer_trials M offer
  pub choice_room : (room : List ℕ) → choice_room_trials N room ≡ choice_room_trials M room
  pub plan-room : (room : List ℕ) → plan_room_trials N room ≡ plan_room_trials M room
  pub keys-room : (room : List ℕ) → keys_room_trials N room ≡ keys_room_trials M room
  pub asked : (i p : ℕ) → asked_trials N i p ≡ asked_trials M i p

abbrev pub AlwaysTried : Type 0
AlwaysTried = (N : Night) (version day : ℕ) → ButDays N version day → TriedAlike N (in_version N version day)
