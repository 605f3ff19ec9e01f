-- No node before i is offered a subject that is refused.
use mathlib.Core.Path.{◌≡◌}
use Rattle.laws.specs.First.{first}
use Rattle.layout.specs.Held.{night_held}
use Rattle.verdicts.specs.Refusals.{offer_bad}
use Rattle.choosing.proofs.offer.all_may.Given as goal

abbrev pub invariant-loop-i : goal.invariant-loop-i
invariant-loop-i l = first (offer_bad (night_held l.who.file) l.offer) l.i ≡ l.i
