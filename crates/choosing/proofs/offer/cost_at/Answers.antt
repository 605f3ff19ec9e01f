-- The price and both links.
use native.Mathlib.Omega.{arith}
use Rattle.layout.specs.Held.{night_held}
use Rattle.format.specs.Layout.{night_in}
use lib.ListN.{get_or}
use Rattle.model.proofs.CostRows.{paid}
use Rattle.choosing.proofs.Sets.{left_there, right_there}
use Rattle.choosing.proofs.Offers.{cost_made, paid_little}
use Rattle.choosing.proofs.offer.cost_at.Goals as goal

pub handed_over-requires : goal.handed_over-requires
unfolding night_in
handed_over-requires c =
    (c.requires.0, c.requires.1, c.requires.2, c.requires.3, λ u. omega (arith, c.requires.3, left_there _ c.args.i c.node-v.result c.node-v.ensures c.requires.0 c.requires.3 _ c.uses_left.ensures u))

pub handed_over-requires-2 : goal.handed_over-requires-2
unfolding night_in
handed_over-requires-2 c =
    (c.requires.0, c.requires.1, c.requires.2, c.requires.3, λ u. omega (arith, c.requires.3, right_there _ c.args.i c.node-v.result c.node-v.ensures c.requires.0 c.requires.3 _ c.uses_right.ensures u))

pub overflow_add-result : goal.overflow_add-result
unfolding night_in paid
overflow_add-result c =
    let N = night_held c.args.file.now in
    let p = paid_little N c.requires.0 c.args.offer.now c.requires.1 c.args.i c.paid.result c.requires.3 c.paid.ensures in
    omega (arith, p, c.handed_over.ensures.1)

pub overflow_add-result-2 : goal.overflow_add-result-2
unfolding night_in paid
overflow_add-result-2 c =
    let N = night_held c.args.file.now in
    let p = paid_little N c.requires.0 c.args.offer.now c.requires.1 c.args.i c.paid.result c.requires.3 c.paid.ensures in
    omega (arith, p, c.handed_over.ensures.1, c.handed_over-2.ensures.1)

pub returns : goal.returns
unfolding night_in paid
returns c =
    let N = night_held c.args.file.now in
    let p = paid_little N c.requires.0 c.args.offer.now c.requires.1 c.args.i c.paid.result c.requires.3 c.paid.ensures in
    (cost_made N c.args.i c.node-v.result c.node-v.ensures (λ j. get_or c.args.offer.now j 0) c.uses_left.result c.uses_right.result c.uses_left.ensures c.uses_right.ensures _ _ _ c.paid.ensures c.handed_over.ensures.0 c.handed_over-2.ensures.0, omega (arith, p, c.handed_over.ensures.1, c.handed_over-2.ensures.1))
