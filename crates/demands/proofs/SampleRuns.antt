-- The plan of the sample night runs clean, since its subjects are owners and candidates, with U as user too.
use Prim.Native.Nat.{ℕ}
use mathlib.Core.Path.{◌≡◌, refl, sym}
use mathlib.Core.List.{[], ◌∷◌}
use native.Mathlib.Omega.{arith}
use lib.Count.{count_trailing_zeros}
use Rattle.laws.specs.BigEndian.{be}
use Rattle.laws.specs.Choose.{any_of}
use Rattle.laws.specs.First.{first, somewhere}
use Rattle.laws.specs.Upwards.{upwards}
use Rattle.sets.specs.Sets.{bit, member, union, meet, minus, within, apart, single, unions, lowest}
use Rattle.night.specs.Versions.{delivers, header_length, has_pairs, node_length, has_days, grant_length}
use Rattle.night.specs.Night.{Night, relation_of, grant_of, node_of, pair_of}
use Rattle.night.specs.Promised.{Promised}
use Rattle.night.specs.Kinds.{uses_left, uses_right, reads, read_together, visible_after, visible_step, visibles, its_pair, both_of, pairs_read}
use Rattle.night.specs.Views.{is_for, shares_day, is_for_on, grant_on, view_on, clear_on, sealed_on}
use Rattle.format.specs.Layout.{grants_from, nodes_from, step_prices_from, link_prices_from, header_of, relation_at, grant_at, node_at, prices_at, night_in, night_of, pairs_from, pairs_in, pair_at}
use Rattle.run.specs.Keys.{events, ever_sealed, group_of, key_name, holders_of, key_holders}
use Rattle.run.specs.Run.{tested_by, tied_by, spread_over, spread, spread_times, reached, key_of, leaving, opened_by, together, leaf_held, result_over, arriving, held_step, helds, result_of, delivered, sealed_in, deliveries, all_events, holders, Clean}
use Rattle.model.specs.Ties.{gathered, tie, merged}
use Rattle.model.specs.Tables.{least_view, tests, ties, joined, result, leaf_table, step_table, table_step, tables, table_of}
use Rattle.model.specs.Candidates.{clear_offends, sealed_offends, tied_offends, may, may_take, is_candidate, candidate_set}
use Rattle.model.specs.Choice.{Admissible}
use Rattle.model.specs.Plan.{leaves_sealed, arrives_sealed, opens_at, sealed_step, sealed_results, openings, seals_step, sealings, built, root_tied, name_in, holders_in, in_turn, plan_room, keys_room}
use Rattle.model.specs.User.{UserMay}
use Rattle.trials.specs.Small.{with_user}
use Rattle.trials.proofs.Promises.{accepted_promises}
use Rattle.verdicts.proofs.User.{choosing_accepted, passes_may}
use Rattle.verdicts.specs.Refusals.{offer_bad}
use Rattle.model.proofs.Weight.{d_there}
use Rattle.model.proofs.Demand.{built_runs}
use Rattle.choosing.proofs.Answered.{none_below, offer_admissible}
use Rattle.demands.specs.Sample.{sample}
use Rattle.demands.specs.SampleNight.{sample_in, sample_night, sample_user}
use Rattle.demands.specs.SampleRuns.{subjects, chosen, SampleRuns}
use Rattle.demands.proofs.Marked.{sound}
use Rattle.demands.proofs.SampleVerdicts.{said}

-- none of the subjects is refused, without a user or with U
none_bad : (first (offer_bad sample_night subjects) 6 ≡ 6) × (first (offer_bad sample_user subjects) 6 ≡ 6)
unfolding any_of first somewhere upwards bit member union meet minus within single unions relation_of grant_of pair_of node_of uses_right its_pair both_of pairs_read reads read_together visible_after is_for shares_day is_for_on grant_on view_on clear_on sealed_on gathered tie merged least_view tests ties joined result leaf_table step_table table_step tables table_of clear_offends sealed_offends tied_offends may may_take is_candidate candidate_set offer_bad sample_in
none_bad = (refl, refl)

module _ (version user : ℕ) (none : first (offer_bad (sample_in version user) subjects) 6 ≡ 6) where
  abbrev N : Night
  N = sample_in version user

  from_candidates : Admissible N chosen
  unfolding sample_in
  from_candidates = offer_admissible N subjects (none_below (offer_bad N subjects) 6 6 (sym none) (omega arith))

  runs : Promised N → UserMay N → Clean N (built N chosen)
  runs good may = built_runs N good may chosen (record { there = d_there N good chosen from_candidates; owners = from_candidates.leaf }) from_candidates.step

-- the values of the bytes, and the keys without a user and with U
computed :
    (night_of (with_user 2 sample) ≡ sample_user)
    × (plan_room sample_user (built sample_user chosen) ≡ plan_room sample_night (built sample_night chosen))
    × (keys_room sample_night (built sample_night chosen) ≡ 0 ∷ 3 ∷ 64 ∷ 0 ∷ 2 ∷ 1 ∷ 3 ∷ 1 ∷ 0 ∷ 3 ∷ 5 ∷ 18 ∷ [])
    × (keys_room sample_user (built sample_user chosen) ≡ 0 ∷ 3 ∷ 64 ∷ 0 ∷ 2 ∷ 1 ∷ 3 ∷ 5 ∷ 0 ∷ 3 ∷ 5 ∷ 18 ∷ [])
    × (holders sample_user (built sample_user chosen) 3 ≡ 5)
unfolding delivers has_pairs node_length header_length any_of be first somewhere upwards bit member union meet minus within apart single unions lowest relation_of grant_of pair_of node_of uses_left uses_right its_pair both_of pairs_read reads read_together visible_after visible_step visibles grants_from pairs_from pairs_in nodes_from step_prices_from link_prices_from header_of relation_at grant_at pair_at node_at prices_at night_in gathered tie merged least_view tests ties joined result leaf_table step_table table_step tables table_of leaves_sealed arrives_sealed opens_at sealed_step sealed_results openings seals_step sealings root_tied name_in holders_in in_turn plan_room keys_room events ever_sealed group_of key_name holders_of key_holders tested_by tied_by spread_over spread spread_times reached key_of leaving opened_by together leaf_held result_over arriving held_step helds result_of delivered sealed_in deliveries all_events holders sample_in sample count_trailing_zeros has_days grant_length
computed = (refl, refl, refl, refl, refl)

-- nobody asked in version 1
unasked : UserMay sample_night
unfolding delivers sample_in
unasked d = absurd (let z : ◌≡◌ {A = ℕ} 0 1 = cc in omega arith)

user_sound : Promised sample_user
user_sound = rw computed.0 at (accepted_promises (with_user 2 sample) _ (choosing_accepted (with_user 2 sample) _ said.4))

user_may : UserMay sample_user
user_may = rw computed.0 at (passes_may (with_user 2 sample) _ said.4)

pub sample_runs : SampleRuns
sample_runs =
    record {
      accepted = said.0;
      clean = runs 1 0 none_bad.0 sound unasked;
      decoded = computed.0;
      user_clean = runs 2 2 none_bad.1 user_sound user_may;
      same_plan = computed.1;
      keys = computed.2;
      user_keys = computed.3;
      user_holders = computed.4;
      sample_h = said.1;
      sample_i = said.2;
      sample_u = said.3;
      sample_passes = said.4;
      sample_x = said.5;
      sample_y = said.6;
      sample_z = said.7;
      sample_none = said.8;
    }
