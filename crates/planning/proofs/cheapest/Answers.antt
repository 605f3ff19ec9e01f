-- The choice's refusal is passed up; then the lowest short room refuses; then the rooms are filled.
use mathlib.Core.Path.{refl, sym, ◌∙◌}
use lib.Seq.{length-take-le}
use Rattle.std.proofs.lemmas.Result.{err_from_is_err_and}
use Rattle.planning.proofs.Answered.{cheapest_unchosen, cheapest_short, cheapest_fits, cheapest_filled}
use Rattle.planning.proofs.cheapest.Goals as goal

pub returns-in_err-chosen : goal.returns-in_err-chosen
returns-in_err-chosen c =
    let p = err_from_is_err_and c.from_residual.result c.from_residual.ensures.1 in
    rw (p.1, p.2) (cheapest_unchosen c.args.file.now (record { choice = c.args.choice.now; plan = c.args.plan.now; keys = c.args.keys.now }) _ c.in_err-chosen.ensures)

pub returns-in_err-all_fit : goal.returns-in_err-all_fit
returns-in_err-all_fit c =
    let p = err_from_is_err_and c.from_residual-in_err-all_fit.result c.from_residual-in_err-all_fit.ensures.1 in
    rw (p.1, p.2)
    (cheapest_short c.args.file.now c.header.result c.header.ensures (record { choice = c.args.choice.now; plan = c.args.plan.now; keys = c.args.keys.now }) c.in_ok-chosen.chosen _
    c.in_ok-chosen.ensures c.in_err-all_fit.ensures)

pub slice_bounds-copy_from_slice-end : goal.slice_bounds-copy_from_slice-end
slice_bounds-copy_from_slice-end c =
    (cheapest_fits c.args.file.now c.header.result c.header.ensures c.in_ok-chosen.chosen c.args.choice.now c.args.plan.now c.args.keys.now c.in_ok-chosen.ensures c.in_ok-all_fit.ensures).choice_long

pub slice_bounds-copy_from_slice-end-2 : goal.slice_bounds-copy_from_slice-end-2
slice_bounds-copy_from_slice-end-2 c =
    let fit = cheapest_fits c.args.file.now c.header.result c.header.ensures c.in_ok-chosen.chosen c.args.choice.now c.args.plan.now c.args.keys.now c.in_ok-chosen.ensures c.in_ok-all_fit.ensures in
    sym (length-take-le c.header.result.nodes c.args.choice.now fit.choice_long)

pub shared_ref_as_front-copy_from_slice : goal.shared_ref_as_front-copy_from_slice
shared_ref_as_front-copy_from_slice c =
    (cheapest_fits c.args.file.now c.header.result c.header.ensures c.in_ok-chosen.chosen c.args.choice.now c.args.plan.now c.args.keys.now c.in_ok-chosen.ensures c.in_ok-all_fit.ensures).few

pub copy_from_slice-requires : goal.copy_from_slice-requires
copy_from_slice-requires c =
    let fit = cheapest_fits c.args.file.now c.header.result c.header.ensures c.in_ok-chosen.chosen c.args.choice.now c.args.plan.now c.args.keys.now c.in_ok-chosen.ensures c.in_ok-all_fit.ensures in
    length-take-le c.header.result.nodes c.args.choice.now fit.choice_long ∙ sym (length-take-le c.header.result.nodes c.in_ok-chosen.chosen.subjects (rw fit.whole fit.few))

pub fill_plan-requires : goal.fill_plan-requires
fill_plan-requires c =
    let fit = cheapest_fits c.args.file.now c.header.result c.header.ensures c.in_ok-chosen.chosen c.args.choice.now c.args.plan.now c.args.keys.now c.in_ok-chosen.ensures c.in_ok-all_fit.ensures in
    (fit.promised, fit.built, fit.plan_long, fit.keys_long)

pub returns : goal.returns
returns c =
    cheapest_filled c.args.file.now c.header.result c.header.ensures c.in_ok-chosen.chosen (record { choice = c.args.choice.now; plan = c.args.plan.now; keys = c.args.keys.now })
    (record { choice = _; plan = c.fill_plan.new.plan; keys = c.fill_plan.new.keys }) c.in_ok-chosen.ensures c.in_ok-all_fit.ensures
    (rw c.copy_from_slice.ensures.after refl) c.fill_plan.ensures
