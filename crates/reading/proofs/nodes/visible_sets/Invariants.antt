-- The array is the list worked out so far, with nothing after it.
use mathlib.Core.Path.{◌≡◌}
use lib.ListN.{length}
use Rattle.layout.specs.Held.{night_held}
use Rattle.laws.proofs.Upwards.{Agrees}
use Rattle.night.specs.Kinds.{visible_step}
use Rattle.reading.proofs.nodes.visible_sets.Given as goal

abbrev pub invariant-loop-i : goal.invariant-loop-i
invariant-loop-i l = (length l.visible ≡ 64) × Agrees (visible_step (night_held l.file)) 0 l.i l.visible
