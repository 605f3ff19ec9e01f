-- The array is the list so far, with nothing after it.
use mathlib.Core.Path.{◌≡◌}
use lib.ListN.{length}
use Rattle.laws.proofs.Upwards.{Agrees}
use Rattle.layout.specs.Held.{night_held}
use Rattle.night.specs.Night.{node_of}
use Rattle.keying.proofs.built.all_opens.Given as goal

abbrev pub invariant-loop-i : goal.invariant-loop-i
invariant-loop-i l = (length l.opens ≡ 64) × Agrees (λ before i. (node_of (night_held l.file) i).needed) 0 l.i l.opens
