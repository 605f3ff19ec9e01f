-- One subject is tried in a turn.
use mathlib.Core.Path.{◌≡◌}
use Rattle.layout.specs.Held.{night_held}
use Rattle.model.specs.Dp.{best_of}
use Rattle.choosing.proofs.rows.best_of.Given as goal

abbrev pub invariant-loop-t : goal.invariant-loop-t
invariant-loop-t l = l.best ≡ best_of (night_held l.file) l.row l.among l.size l.s l.t
