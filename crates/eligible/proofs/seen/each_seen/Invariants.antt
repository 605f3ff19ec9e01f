-- The array has what the subjects so far see, and nothing after them.
use mathlib.Core.Path.{◌≡◌}
use lib.ListN.{length}
use Rattle.laws.proofs.Upwards.{Agrees}
use Rattle.eligible.specs.Seen.{seen_from}
use Rattle.eligible.proofs.seen.each_seen.Given as goal

abbrev pub invariant-loop-p : goal.invariant-loop-p
invariant-loop-p l = (length l.seen ≡ 16) × Agrees (λ before. seen_from l.sets l.own) 0 l.p l.seen
