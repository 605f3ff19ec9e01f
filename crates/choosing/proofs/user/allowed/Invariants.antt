-- No leaf before node i holds more than the user sees.
use mathlib.Core.Path.{◌≡◌}
use Rattle.laws.specs.First.{first}
use Rattle.layout.specs.Held.{night_held}
use Rattle.night.specs.Night.{node_of}
use Rattle.choosing.specs.Kept.{kept_back}
use Rattle.choosing.proofs.user.allowed.Given as goal

abbrev pub invariant-loop-i : goal.invariant-loop-i
invariant-loop-i l = first (λ j. kept_back (node_of (night_held l.file) j) l.seen) l.i ≡ l.i
