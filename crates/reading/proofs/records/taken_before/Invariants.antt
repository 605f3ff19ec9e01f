-- The union grows by one relation a turn.
use mathlib.Core.Path.{◌≡◌}
use Rattle.layout.specs.Held.{night_held}
use Rattle.sets.specs.Sets.{unions}
use Rattle.night.specs.Night.{relation_of}
use Rattle.reading.proofs.records.taken_before.Given as goal

abbrev pub invariant-loop-j : goal.invariant-loop-j
invariant-loop-j l = l.taken ≡ unions (λ k. (relation_of (night_held l.file) k).set) l.j
