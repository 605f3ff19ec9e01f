-- The room for the choice refuses, or the other two say the rest.
use mathlib.Core.Path.{refl, sym}
use Rattle.std.proofs.lemmas.Result.{err_from_is_err_and}
use Rattle.layout.specs.Held.{night_held}
use Rattle.format.specs.Layout.{night_in}
use Rattle.laws.proofs.Trials.{refused_then, goes_on}
use Rattle.verdicts.specs.Refusals.{choice_room_trials}
use Rattle.planning.proofs.Short.{two_trials}
use Rattle.planning.proofs.rooms.all_fit.Goals as goal

pub returns-in_err-fits : goal.returns-in_err-fits
unfolding night_in choice_room_trials
returns-in_err-fits c =
    let N = night_held c.args.file.now in
    let p = err_from_is_err_and c.from_residual.result c.from_residual.ensures.1 in
    rw (p.1, p.2) (sym (refused_then (choice_room_trials N c.args.choice.now) (two_trials N c.args.plan.now c.args.keys.now) (tt {0}) (tt {0}) _ _ (sym c.in_err-fits.ensures)))

pub returns : goal.returns
unfolding night_in choice_room_trials
returns c =
    let N = night_held c.args.file.now in
    goes_on (choice_room_trials N c.args.choice.now) (two_trials N c.args.plan.now c.args.keys.now) _ _ c.in_ok-fits.ensures refl c.plan_fits.ensures
