-- The array is the rows so far, with rows of no costs after them.
use Rattle.layout.specs.Held.{night_held}
use Rattle.choosing.specs.Held.{HasRows}
use Rattle.choosing.proofs.rows.cost_rows.Given as goal

abbrev pub invariant-loop-i : goal.invariant-loop-i
invariant-loop-i l = HasRows (night_held l.who.file) l.i l.rows
