-- The rows, the last node, and all others from it down.
use native.Mathlib.Omega.{arith}
use Prim.Native.Nat.{◌-◌, ◌<◌}
use Rattle.layout.specs.Held.{night_held}
use Rattle.format.specs.Layout.{night_in}
use Rattle.model.specs.Dp.{chosen_last}
use Rattle.choosing.proofs.Held.{given_none, given_more, last_below}
use Rattle.choosing.proofs.Answered.{least_made}
use Rattle.choosing.proofs.down.least.Goals as goal

pub give_down-requires : goal.give_down-requires
unfolding night_in
give_down-requires c =
    let N = night_held c.args.who.now.file in
    let r = c.requires.0 in
    let l : c.args.who.now.file.header.nodes - 1 < c.args.who.now.file.header.nodes = omega (arith, r.sound.counts.nodes_some) in
    (r, c.cost_rows-known.ensures, given_more N r.sound _ _ _ (given_none N r.sound) l (rw c.best_last-top.ensures.1 (last_below N r.sound _)))

pub returns : goal.returns
unfolding night_in chosen_last
returns c =
    let top = c.best_last-top in
    least_made (night_held c.args.who.now.file) c.requires.0.sound c.requires.1 c.give_down.new.chosen top.result.least (rw top.ensures.1 at c.give_down.ensures.0) c.give_down.ensures.1 top.ensures.0
