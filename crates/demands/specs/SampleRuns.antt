-- The run of the sample night's plan, without a user and with U, and what is said of each subject as its user.
use Rattle.std.specs.Prelude.{ℕ, ◌≡◌, List, [], ◌∷◌, get_or}
use Rattle.laws.specs.Trials.{answers, refuses}
use Rattle.format.specs.Layout.{night_of}
use Rattle.trials.specs.Small.{with_user}
use Rattle.trials.specs.Trials.{check_of}
use Rattle.model.specs.Choice.{Choice}
use Rattle.model.specs.Plan.{built, plan_room, keys_room}
use Rattle.run.specs.Run.{holders, Clean}
use Rattle.verdicts.specs.Refusals.{choosing_of}
use Rattle.verdicts.specs.Verdicts.{cheapest, room}
use Rattle.demands.specs.Sample.{sample}
use Rattle.demands.specs.SampleNight.{sample_night, sample_user}

-- the subjects that document 01 gives the nodes
abbrev pub subjects : List ℕ
subjects = 0 ∷ 0 ∷ 1 ∷ 3 ∷ 3 ∷ 4 ∷ []

abbrev pub chosen : Choice
chosen i = get_or subjects i 0

pub record SampleRuns : Type 0 where
  -- reading accepts the file
  pub accepted :
      check_of sample ≡ answers (record { version = 1; subjects = 6; relations = 2; attributes = 6; nodes = 6; grants = 14; steps = 76; user = 0; pairs = 0; day = 0 })
  -- the plan that is built for these subjects runs clean
  pub clean : Clean sample_night (built sample_night chosen)
  -- the bytes with U as user hold these values
  pub decoded : night_of (with_user 2 sample) ≡ sample_user
  -- and that plan runs clean too, U taking the root's table
  pub user_clean : Clean sample_user (built sample_user chosen)
  -- the plan is the same
  pub same_plan : plan_room sample_user (built sample_user chosen) ≡ plan_room sample_night (built sample_night chosen)
  -- name and holders of each attribute's key; U opens T, attribute 3, which is delivered sealed, and is one more holder of key 3
  pub keys : keys_room sample_night (built sample_night chosen) ≡ 0 ∷ 3 ∷ 64 ∷ 0 ∷ 2 ∷ 1 ∷ 3 ∷ 1 ∷ 0 ∷ 3 ∷ 5 ∷ 18 ∷ []
  pub user_keys : keys_room sample_user (built sample_user chosen) ≡ 0 ∷ 3 ∷ 64 ∷ 0 ∷ 2 ∷ 1 ∷ 3 ∷ 5 ∷ 0 ∷ 3 ∷ 5 ∷ 18 ∷ []
  -- in the run too
  pub user_holders : holders sample_user (built sample_user chosen) 3 ≡ 5
  -- the sample night's subjects as its user: H may not have INS, all but U not HOSP, 6 is no subject
  pub sample_h : cheapest (with_user 0 sample) (room 6 12 12) ≡ refuses 17 2
  pub sample_i : cheapest (with_user 1 sample) (room 6 12 12) ≡ refuses 17 0
  pub sample_u : cheapest (with_user 2 sample) (room 6 12 12) ≡ answers tt
  pub sample_x : cheapest (with_user 3 sample) (room 6 12 12) ≡ refuses 17 0
  pub sample_y : cheapest (with_user 4 sample) (room 6 12 12) ≡ refuses 17 0
  pub sample_z : cheapest (with_user 5 sample) (room 6 12 12) ≡ refuses 17 0
  pub sample_passes :
      choosing_of (with_user 2 sample)
      ≡ answers (record { version = 2; subjects = 6; relations = 2; attributes = 6; nodes = 6; grants = 14; steps = 76; user = 2; pairs = 0; day = 0 })
  pub sample_none : cheapest (with_user 6 sample) (room 6 12 12) ≡ refuses 4 0
