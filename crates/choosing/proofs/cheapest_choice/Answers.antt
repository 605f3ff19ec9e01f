-- The refusals by 1 to 11, 17, 12 are passed up; then 13, and the cheapest choice.
use mathlib.Core.Path.{sym}
use Rattle.std.proofs.lemmas.Result.{err_from_is_err_and}
use Rattle.layout.specs.Held.{night_held}
use Rattle.choosing.proofs.Answered.{candidates_have, choice_unread, without_refused, steps_refused, choice_found}
use Rattle.choosing.proofs.cheapest_choice.Goals as goal

pub returns-in_err-who : goal.returns-in_err-who
returns-in_err-who c =
    let p = err_from_is_err_and c.from_residual.result c.from_residual.ensures.1 in
    rw (p.1, p.2) (choice_unread c.args.file.now _ c.in_err-who.ensures)

pub returns-in_err-all_have : goal.returns-in_err-all_have
returns-in_err-all_have c =
    let p = err_from_is_err_and c.from_residual-in_err-all_have.result c.from_residual-in_err-all_have.ensures.1 in
    rw (p.1, p.2) (without_refused c.args.file.now c.in_ok-who.who c.in_ok-who.built c.in_ok-who.ensures _ (sym c.in_err-all_have.ensures))

pub returns-then-who-steps : goal.returns-then-who-steps
returns-then-who-steps c =
    steps_refused c.args.file.now c.in_ok-who.who c.in_ok-who.built c.in_ok-who.ensures (sym c.in_ok-all_have.ensures) (rw (← c.steps-steps.ensures) c.if-who-steps.true)

pub least-total-requires : goal.least-total-requires
least-total-requires c =
    let r = c.in_ok-who.ensures.2 in
    (r, candidates_have (night_held c.in_ok-who.who.file) r.sound (sym c.in_ok-all_have.ensures))

pub returns : goal.returns
returns c =
    choice_found c.args.file.now c.in_ok-who.who c.in_ok-who.built c.in_ok-who.ensures (sym c.in_ok-all_have.ensures) _ _ _
    (rw (← c.steps-steps.ensures) c.if-who-steps.false) (rw c.steps-steps.ensures c.least-total.ensures)
