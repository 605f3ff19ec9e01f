-- The room for the plan refuses, or the one for the keys says the rest.
use mathlib.Core.Path.{refl, sym}
use Rattle.std.proofs.lemmas.Result.{err_from_is_err_and}
use Rattle.layout.specs.Held.{night_held}
use Rattle.format.specs.Layout.{night_in}
use Rattle.laws.proofs.Trials.{refused_then, goes_on}
use Rattle.verdicts.specs.Refusals.{plan_room_trials, keys_room_trials}
use Rattle.planning.proofs.rooms.plan_fits.Goals as goal

pub returns-in_err-fits : goal.returns-in_err-fits
unfolding night_in plan_room_trials
returns-in_err-fits c =
    let N = night_held c.args.file.now in
    let p = err_from_is_err_and c.from_residual.result c.from_residual.ensures.1 in
    rw (p.1, p.2) (sym (refused_then (plan_room_trials N c.args.plan.now) (keys_room_trials N c.args.keys.now) (tt {0}) (tt {0}) _ _ (sym c.in_err-fits.ensures)))

pub returns : goal.returns
unfolding night_in plan_room_trials keys_room_trials
returns c =
    let N = night_held c.args.file.now in
    goes_on (plan_room_trials N c.args.plan.now) (keys_room_trials N c.args.keys.now) _ _ c.in_ok-fits.ensures refl c.fits-2.ensures
