-- A leaf's weight by its kind, a step's by its set.
use native.Mathlib.Omega.{arith}
use borrow.Author.Tests.{eq-eqb, ne_eqb}
use Rattle.layout.specs.Held.{night_held}
use Rattle.laws.proofs.Cases.{yes_is, no_is}
use mathlib.Core.Path.{◌≡◌}
use Rattle.model.specs.Choice.{weight}
use Rattle.choosing.proofs.Sets.{weight_at, weight_most}
use Rattle.choosing.proofs.steps.weight_of.Goals as goal

pub returns-then-node-eq-LEAF : goal.returns-then-node-eq-LEAF
returns-then-node-eq-LEAF c =
    let r = c.requires.0 in
    (rw (weight_at (night_held c.args.who.now.file) _ c.args.i r.has c.requires.1, ← c.node.ensures) (yes_is _ _ 1 _ (eq-eqb _ 0 c.if-node-eq-LEAF.true) (omega arith)), omega arith)

pub returns-else-node-eq-LEAF : goal.returns-else-node-eq-LEAF
returns-else-node-eq-LEAF c =
    let r = c.requires.0 in
    let N = night_held c.args.who.now.file in
    let made : c.size.result ≡ weight N c.args.i = rw (weight_at N _ c.args.i r.has c.requires.1, ← c.node.ensures) (no_is _ _ _ _ (ne_eqb _ 0 c.if-node-eq-LEAF.false) c.size.ensures) in
    (made, rw made (weight_most N r.sound c.args.i))
