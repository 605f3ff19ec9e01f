-- The array is the list worked out so far, with nothing after it.
use native.Mathlib.Omega.{arith}
use mathlib.Core.Path.{◌≡◌, refl}
use lib.ListN.{length-set}
use Rattle.layout.specs.Held.{night_held}
use Rattle.laws.specs.Upwards.{upwards}
use Rattle.laws.proofs.Upwards.{agrees_none, agrees_more}
use Rattle.night.specs.Kinds.{visible_step, visibles}
use Rattle.format.specs.Layout.{night_in}
use Rattle.reading.proofs.nodes.visible_sets.Goals as goal

pub loop-i-init : goal.loop-i-init
loop-i-init c = (refl, agrees_none (visible_step (night_held c.args.file.now)) 0 64)

pub loop-i-preserved : goal.loop-i-preserved
unfolding visible_step
loop-i-preserved c =
    let b = c.loop-i in
    let v = c.node-v.result in
    let f = visible_step (night_held c.args.file.now) in
    let e : c.visible_after.result ≡ f (upwards f b.i) b.i =
    rw (← c.node-v.ensures, ← b.invariant.1 v.left, ← c.entry-left.ensures, ← b.invariant.1 v.right, ← c.entry-right.ensures) c.visible_after.ensures
    in
    (simp length-set b.invariant.0, agrees_more f 0 b.i c.visible_after.result b.visible (omega arith) b.invariant.1 e)

pub returns : goal.returns
unfolding visibles night_in
returns c =
    let e : c.loop-i.i ≡ c.args.file.now.header.nodes = omega arith in
    λ k. rw e at (c.loop-i.invariant.1 k)
