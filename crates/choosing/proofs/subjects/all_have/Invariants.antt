-- No step before node i is without candidate.
use mathlib.Core.Path.{◌≡◌}
use Rattle.laws.specs.First.{first}
use Rattle.layout.specs.Held.{night_held}
use Rattle.verdicts.specs.Refusals.{without_candidate}
use Rattle.choosing.proofs.subjects.all_have.Given as goal

abbrev pub invariant-loop-i : goal.invariant-loop-i
invariant-loop-i l = first (without_candidate (night_held l.who.file)) l.i ≡ l.i
