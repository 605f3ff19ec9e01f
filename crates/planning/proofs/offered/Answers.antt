-- The offer's refusal is passed up; then the lowest short room refuses; then the rooms are filled.
use mathlib.Core.List.{[]}
use mathlib.Core.Path.{refl}
use Rattle.std.proofs.lemmas.Result.{err_from_is_err_and}
use Rattle.planning.proofs.Answered.{offered_uncosted, offered_short, offered_fits, offered_filled}
use Rattle.planning.proofs.offered.Goals as goal

pub returns-in_err-costed : goal.returns-in_err-costed
returns-in_err-costed c =
    let p = err_from_is_err_and c.from_residual.result c.from_residual.ensures.1 in
    rw (p.1, p.2) (offered_uncosted c.args.file.now c.args.offer.now (record { choice = []; plan = c.args.plan.now; keys = c.args.keys.now }) _ c.in_err-costed.ensures)

pub returns-in_err-plan_fits : goal.returns-in_err-plan_fits
returns-in_err-plan_fits c =
    let p = err_from_is_err_and c.from_residual-in_err-plan_fits.result c.from_residual-in_err-plan_fits.ensures.1 in
    rw (p.1, p.2)
    (offered_short c.args.file.now c.args.offer.now c.header.result c.header.ensures (record { choice = []; plan = c.args.plan.now; keys = c.args.keys.now }) c.in_ok-costed.costed _
    c.in_ok-costed.ensures c.in_err-plan_fits.ensures)

pub fill_plan-requires : goal.fill_plan-requires
fill_plan-requires c =
    offered_fits c.args.file.now c.args.offer.now c.header.result c.header.ensures c.in_ok-costed.costed c.args.plan.now c.args.keys.now c.in_ok-costed.ensures c.in_ok-plan_fits.ensures

pub returns : goal.returns
returns c =
    offered_filled c.args.file.now c.args.offer.now c.header.result c.header.ensures c.in_ok-costed.costed (record { choice = []; plan = c.args.plan.now; keys = c.args.keys.now })
    (record { choice = []; plan = c.fill_plan.new.plan; keys = c.fill_plan.new.keys }) c.in_ok-costed.ensures c.in_ok-plan_fits.ensures c.fill_plan.ensures refl
