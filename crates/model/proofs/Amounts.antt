-- What two choices cost, the plan for one of them, and who may run a step on which day, by computation. An edit of the choice or of the plan is seen here
-- first, since the prover names errors by file in the order of their names.
use mathlib.Core.Path.{refl}
use lib.Count.{count_trailing_zeros, ones}
use Rattle.laws.specs.Choose.{any_of}
use Rattle.laws.specs.First.{first, somewhere}
use Rattle.laws.specs.Sums.{sum}
use Rattle.laws.specs.Upwards.{upwards}
use Rattle.sets.specs.Sets.{bit, member, union, meet, minus, within, apart, single, lowest, unions, size}
use Rattle.night.specs.Versions.{delivers}
use Rattle.night.specs.Night.{grant_of, node_of, step_price, link_price}
use Rattle.night.specs.Kinds.{uses_left, uses_right, reads, read_together, visible_after, visible_step, visibles}
use Rattle.night.specs.Views.{is_for, shares_day, is_for_on, grant_on, view_on, clear_on, sealed_on}
use Rattle.night.specs.Days.{in_version}
use Rattle.run.specs.Keys.{events, ever_sealed, group_of, key_name, holders_of, key_holders}
use Rattle.run.specs.Run.{tested_by, tied_by, key_of, leaving, opened_by, together, leaf_held, result_over, arriving, held_step, helds, result_of, delivered, sealed_in, deliveries, all_events}
use Rattle.model.specs.Ties.{gathered, tie, merged}
use Rattle.model.specs.Tables.{least_view, tests, ties, joined, result, leaf_table, step_table, table_step, tables, table_of}
use Rattle.model.specs.Candidates.{clear_offends, sealed_offends, tied_offends, may, may_take, is_candidate, candidate_set}
use Rattle.model.specs.Choice.{handed, cost_at, total, weight, steps_at, steps}
use Rattle.model.specs.Dp.{better}
use Rattle.model.specs.Plan.{leaves_sealed, arrives_sealed, opens_at, sealed_step, sealed_results, openings, seals_step, sealings, root_tied, name_in, holders_in, in_turn, plan_room, keys_room}
use Rattle.model.specs.Order.{SmallPlan}
use Rattle.model.specs.ByDay.{ByDay}

pub small_plan : SmallPlan
unfolding any_of sum first somewhere upwards bit member union meet minus within apart single unions lowest ones size count_trailing_zeros node_of step_price link_price grant_of uses_left uses_right reads read_together visible_after visible_step visibles is_for shares_day is_for_on grant_on view_on clear_on sealed_on delivers events ever_sealed group_of key_name holders_of key_holders tested_by tied_by leaving opened_by together leaf_held result_over arriving held_step helds result_of delivered sealed_in deliveries all_events key_of gathered tie merged least_view tests ties joined result leaf_table step_table table_step tables table_of clear_offends sealed_offends tied_offends may may_take is_candidate candidate_set handed cost_at total weight steps_at steps better leaves_sealed arrives_sealed opens_at sealed_step sealed_results openings seals_step sealings root_tied name_in holders_in in_turn plan_room keys_room
small_plan =
    record {
      total_last = refl;
      total_first = refl;
      steps_all = refl;
      first_kept = refl;
      cheaper_taken = refl;
      root_seals = refl;
      plan_built = refl;
      keys_built = refl;
    }

pub by_day : ByDay
unfolding any_of sum first somewhere upwards bit member union meet minus within apart single unions ones size node_of grant_of uses_left uses_right reads read_together visible_after visible_step visibles is_for shares_day is_for_on grant_on view_on clear_on sealed_on in_version gathered tie merged least_view tests ties joined result leaf_table step_table table_step tables table_of clear_offends sealed_offends tied_offends may may_take is_candidate candidate_set weight steps_at steps
by_day = record { own = refl; sealed = refl; any = refl; steps_days = refl }
