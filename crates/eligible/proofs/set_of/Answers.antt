-- A leaf has no candidates; a step's are those that a walk from it leaves.
use mathlib.Core.Path.{refl, ◌∙◌}
use native.Mathlib.Omega.{arith}
use Rattle.layout.specs.Held.{night_held}
use Rattle.format.specs.Layout.{night_in}
use Rattle.model.specs.OneTest.{here}
use Rattle.eligible.proofs.Passes.{step_there, step_set, leaf_set}
use Rattle.eligible.proofs.set_of.Goals as goal

pub returns-then-node-eq-LEAF : goal.returns-then-node-eq-LEAF
returns-then-node-eq-LEAF c =
    leaf_set (night_held c.args.file) c.args.i (rw c.node.ensures at c.if-node-eq-LEAF.true)

pub walk-requires : goal.walk-requires
unfolding night_in
walk-requires c = (
  record { sound = c.requires; sees = record { in-clear = c.all_seen.ensures.0; in_sealed = c.all_seen.ensures.1 }; seals_long = refl; sets_long = refl },
  step_there c.args.file.bytes.now c.args.file.header c.args.i (rw c.node.ensures at c.if-node-eq-LEAF.false),
  refl,
)

pub offset_bounds-trail-i : goal.offset_bounds-trail-i
unfolding night_in
offset_bounds-trail-i c =
    omega (arith, step_there c.args.file.bytes.now c.args.file.header c.args.i (rw c.node.ensures at c.if-node-eq-LEAF.false), c.requires.counts.nodes_most)

pub bounds-trail-i : goal.bounds-trail-i
unfolding night_in
bounds-trail-i c =
    omega (arith, step_there c.args.file.bytes.now c.args.file.header c.args.i (rw c.node.ensures at c.if-node-eq-LEAF.false), c.requires.counts.nodes_most)

pub returns : goal.returns
unfolding night_in
returns c =
    let no_leaf = rw c.node.ensures at c.if-node-eq-LEAF.false in
    c.walk.ensures.2.subjects.filled c.args.i here ∙ step_set (night_held c.args.file) c.args.i no_leaf
