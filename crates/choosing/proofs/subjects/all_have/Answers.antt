-- The loop stops at the first step without candidate.
use native.Mathlib.Omega.{arith}
use Prim.Native.Nat.{◌<◌}
use mathlib.Core.Path.{refl, sym}
use borrow.Author.Tests.{eq-eqb, ne_eqb}
use Rattle.layout.specs.Held.{night_held}
use Rattle.format.specs.Layout.{night_in}
use Rattle.laws.proofs.First.{first_more}
use Rattle.choosing.proofs.Sets.{without_at}
use Rattle.choosing.proofs.Answered.{candidates_refused}
use Rattle.choosing.proofs.subjects.all_have.Goals as goal
use Rattle.choosing.proofs.subjects.all_have.Goals.{else-node-ne-LEAF-via-then-node-ne-LEAF+else-who-i-eq0, else-node-ne-LEAF-via-else-node-ne-LEAF}

pub returns-then-who-i-eq0 : goal.returns-then-who-i-eq0
unfolding night_in
returns-then-who-i-eq0 c =
    let N = night_held c.args.who.now.file in
    let few : c.loop-i.i < 64 = omega (arith, c.requires.sound.counts.nodes_most) in
    sym (candidates_refused N c.loop-i.i c.loop-i.invariant
    (rw (without_at N _ c.loop-i.i c.requires.has few, ← c.node.ensures, ne_eqb _ 0 c.if-node-ne-LEAF.true) (eq-eqb _ 0 c.if-who-i-eq0.true)) (omega arith))

pub loop-i-preserved : goal.loop-i-preserved
unfolding night_in
loop-i-preserved c =
    let N = night_held c.args.who.now.file in
    let few : c.loop-i.i < 64 = omega (arith, c.requires.sound.counts.nodes_most) in
    first_more _ c.loop-i.i c.loop-i.invariant
    (rw (without_at N _ c.loop-i.i c.requires.has few, ← c.node.ensures)
    (elim c.else-node-ne-LEAF.branch [
      | else-node-ne-LEAF-via-then-node-ne-LEAF+else-who-i-eq0 w ↦ rw (ne_eqb _ 0 w.if-node-ne-LEAF.true) (ne_eqb _ 0 w.if-who-i-eq0.false)
      | else-node-ne-LEAF-via-else-node-ne-LEAF w ↦ rw (eq-eqb _ 0 w.if-node-ne-LEAF.false) refl
    ]))
