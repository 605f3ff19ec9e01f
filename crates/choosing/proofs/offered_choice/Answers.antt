-- The refusals by 1 to 11, 17, 14 are passed up; then the total of the offer.
use mathlib.Core.Path.{sym}
use Rattle.std.proofs.lemmas.Result.{err_from_is_err_and}
use Rattle.layout.specs.Held.{night_held}
use Rattle.format.specs.Layout.{night_in}
use Rattle.choosing.proofs.Answered.{offer_passed, offer_unread, offer_refused, offer_costs}
use Rattle.choosing.proofs.offered_choice.Goals as goal

pub returns-in_err-who : goal.returns-in_err-who
returns-in_err-who c =
    let p = err_from_is_err_and c.from_residual.result c.from_residual.ensures.1 in
    rw (p.1, p.2) (offer_unread c.args.file.now c.args.offer.now _ c.in_err-who.ensures)

pub returns-in_err-all_may : goal.returns-in_err-all_may
returns-in_err-all_may c =
    let p = err_from_is_err_and c.from_residual-in_err-all_may.result c.from_residual-in_err-all_may.ensures.1 in
    rw (p.1, p.2) (offer_refused c.args.file.now c.in_ok-who.who c.in_ok-who.built c.in_ok-who.ensures c.args.offer.now _ (sym c.in_err-all_may.ensures))

pub total-requires : goal.total-requires
unfolding night_in
total-requires c =
    let q = offer_passed (night_held c.in_ok-who.who.file) c.args.offer.now (sym c.in_ok-all_may.ensures) in
    (c.in_ok-who.ensures.2.sound, q.0, q.1)

pub returns : goal.returns
returns c =
    offer_costs c.args.file.now c.in_ok-who.who c.in_ok-who.built c.in_ok-who.ensures c.args.offer.now _ (sym c.in_ok-all_may.ensures) c.total.ensures
