-- What is gathered grows by one attribute's tied set a turn.
use mathlib.Core.Path.{◌≡◌}
use Rattle.model.specs.Ties.{gathered}
use Rattle.eligible.proofs.ties.gather.Given as goal

abbrev pub invariant-loop-k : goal.invariant-loop-k
invariant-loop-k l = l.all ≡ gathered l.tied l.set l.k
