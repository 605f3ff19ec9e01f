-- The array is the row so far, with nothing after it.
use mathlib.Core.Path.{◌≡◌}
use lib.ListN.{length}
use Rattle.layout.specs.Held.{night_held}
use Rattle.laws.proofs.Upwards.{Agrees}
use Rattle.choosing.specs.Held.{entry_at}
use Rattle.choosing.proofs.rows.row.Given as goal

abbrev pub invariant-loop-s : goal.invariant-loop-s
invariant-loop-s l = (length l.made ≡ 16) × Agrees (λ before. entry_at (night_held l.who.file) l.i) 0 l.s l.made
