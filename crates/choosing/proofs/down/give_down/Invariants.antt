-- Each turn gives the children of one node, from the last down: those below i are left.
use mathlib.Core.Path.{◌≡◌}
use Rattle.layout.specs.Held.{night_held}
use Rattle.model.specs.Dp.{cost_rows, give_down}
use Rattle.choosing.specs.Held.{Given}
use Rattle.choosing.proofs.down.give_down.Given as goal

abbrev pub invariant-loop-i : goal.invariant-loop-i
invariant-loop-i l =
    (give_down (night_held l.who.file) (cost_rows (night_held l.who.file)) l.i l.chosen ≡ give_down (night_held l.who.file) (cost_rows (night_held l.who.file)) l.who.file.header.nodes l.fn.chosen)
    × Given (night_held l.who.file) l.chosen
