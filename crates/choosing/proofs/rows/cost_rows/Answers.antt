-- The array is the rows so far, with rows of no costs after them.
use native.Mathlib.Omega.{arith}
use Rattle.layout.specs.Held.{night_held}
use Rattle.format.specs.Layout.{night_in}
use Rattle.choosing.proofs.Held.{rows_none, rows_more}
use Rattle.choosing.proofs.rows.cost_rows.Goals as goal

pub loop-i-init : goal.loop-i-init
loop-i-init c = rows_none (night_held c.args.who.now.file)

pub loop-i-preserved : goal.loop-i-preserved
unfolding night_in
loop-i-preserved c =
    rows_more _ c.loop-i.i c.loop-i.rows c.row.result c.loop-i.invariant (omega (arith, c.requires.sound.counts.nodes_most)) c.row.ensures
