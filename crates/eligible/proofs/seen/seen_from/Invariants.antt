-- What any lets see grows by one relation's a turn.
use mathlib.Core.Path.{◌≡◌}
use Rattle.sets.specs.Sets.{unions}
use Rattle.eligible.specs.Seen.{any_for}
use Rattle.eligible.proofs.seen.seen_from.Given as goal

abbrev pub invariant-loop-r : goal.invariant-loop-r
invariant-loop-r l = l.any ≡ unions (any_for l.sets l.own l.p) l.r
