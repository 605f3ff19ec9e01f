-- The room is the pairs so far, and what it had after them.
use Prim.Native.Nat.{◌*◌}
use mathlib.Core.Path.{◌≡◌}
use mathlib.Core.List.{◌++◌}
use lib.ListN.{get_or, drop}
use Rattle.model.specs.Plan.{in_turn}
use Rattle.planning.proofs.rooms.fill_pairs.Given as goal

abbrev pub invariant-loop-i : goal.invariant-loop-i
invariant-loop-i l = l.room ≡ in_turn (λ j. get_or l.first j 0) (λ j. get_or l.second j 0) l.i ++ drop (2 * l.i) l.initial.room
