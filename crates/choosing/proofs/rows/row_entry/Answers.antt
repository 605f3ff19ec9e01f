-- The price and the least of both children.
use native.Mathlib.Omega.{arith}
use Prim.Native.Nat.{◌≤◌}
use Rattle.layout.specs.Held.{night_held}
use Rattle.format.specs.Layout.{night_in}
use Rattle.model.proofs.CostRows.{paid}
use Rattle.model.proofs.Weight.{paid_most}
use Rattle.choosing.proofs.Sets.{left_there, right_there}
use Rattle.choosing.proofs.Held.{lower_searched, entry_made}
use Rattle.choosing.proofs.rows.row_entry.Goals as goal

pub child_least-requires : goal.child_least-requires
unfolding night_in
child_least-requires c =
    let v = c.node-v in
    let r = c.requires.0 in
    (r, λ u. lower_searched _ c.args.i _ c.requires.2 r.sound c.requires.1 v.result.left (left_there _ c.args.i v.result v.ensures r.sound c.requires.1 _ c.uses_left.ensures u) c.args.s c.requires.3)

pub child_least-requires-2 : goal.child_least-requires-2
unfolding night_in
child_least-requires-2 c =
    let v = c.node-v in
    let r = c.requires.0 in
    (r, λ u. lower_searched _ c.args.i _ c.requires.2 r.sound c.requires.1 v.result.right (right_there _ c.args.i v.result v.ensures r.sound c.requires.1 _ c.uses_right.ensures u) c.args.s c.requires.3)

pub overflow_add-result : goal.overflow_add-result
unfolding night_in paid
overflow_add-result c =
    let p : c.paid.result ≤ 1000000 = rw c.paid.ensures (paid_most (night_held c.args.who.now.file) c.requires.0.sound c.args.i c.args.s c.requires.1 c.requires.3) in
    omega (arith, p, c.child_least.ensures.1)

pub overflow_add-result-2 : goal.overflow_add-result-2
unfolding night_in paid
overflow_add-result-2 c =
    let p : c.paid.result ≤ 1000000 = rw c.paid.ensures (paid_most (night_held c.args.who.now.file) c.requires.0.sound c.args.i c.args.s c.requires.1 c.requires.3) in
    omega (arith, p, c.child_least.ensures.1, c.child_least-2.ensures.1)

pub returns : goal.returns
returns c =
    entry_made _ c.args.i _ c.requires.2 c.args.s c.node-v.result c.node-v.ensures c.uses_left.result c.uses_right.result c.uses_left.ensures c.uses_right.ensures _ _ _ c.paid.ensures c.child_least.ensures.0 c.child_least-2.ensures.0
