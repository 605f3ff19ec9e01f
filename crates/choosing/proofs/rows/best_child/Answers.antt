-- The row and the set of the child.
use native.Mathlib.Omega.{arith}
use Prim.Native.Nat.{◌<◌}
use lib.ListN.{length}
use Rattle.layout.specs.Held.{night_held}
use Rattle.choosing.proofs.Held.{child_fits, child_made}
use Rattle.choosing.proofs.rows.best_child.Goals as goal

pub best_of-requires : goal.best_of-requires
best_of-requires c =
    let l : c.args.k < length c.args.rows.now = omega (arith, c.requires.1.0, c.requires.1.1) in
    child_fits (night_held c.args.who.now.file) c.args.rows.now _ c.args.k c.args.s c.node.result l c.requires.1.0 c.requires.0.has c.node.ensures c.requires.1.2

pub returns : goal.returns
returns c =
    let l : c.args.k < length c.args.rows.now = omega (arith, c.requires.1.0, c.requires.1.1) in
    rw (← child_made (night_held c.args.who.now.file) c.args.rows.now _ c.args.k c.args.s c.node.result l c.requires.1.0 c.requires.0.has c.node.ensures) c.best_of.ensures
