-- A child that is used gets its subject, one of the night.
use native.Mathlib.Omega.{arith}
use Rattle.layout.specs.Held.{night_held}
use Rattle.format.specs.Layout.{night_in}
use Rattle.laws.proofs.Cases.{yes_is}
use Rattle.choosing.proofs.Held.{searched, child_given, given_more, child_below}
use Rattle.choosing.proofs.down.give_child.Goals as goal

pub best_child-best-requires : goal.best_child-best-requires
unfolding night_in
best_child-best-requires c =
    let r = c.requires.0.0 in
    let l = c.requires.2 c.if-used.true in
    (r, searched (night_held c.args.who.now.file) c.args.who.now.file.header.nodes _ c.requires.0.1 r.sound (omega arith) c.args.k l (omega (arith, l, r.sound.counts.nodes_most)) _ (c.requires.0.2.there c.args.i))

pub returns-then-used : goal.returns-then-used
unfolding night_in
returns-then-used c =
    let N = night_held c.args.who.now.file in
    let r = c.requires.0.0 in
    let lowest = c.best_child-best.ensures.1 in (
      yes_is _ _ _ _ c.if-used.true (child_given N r.sound _ _ c.requires.0.1 r.has _ c.args.i c.args.k _ lowest),
      given_more N r.sound _ c.args.k _ c.requires.0.2 (c.requires.2 c.if-used.true) (rw lowest (child_below N r.sound _ _ _ (c.requires.2 c.if-used.true))),
    )
