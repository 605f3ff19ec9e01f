-- No number so far is over.
use Rattle.std.proofs.Common.{◌≡◌, ◌+◌, ◌*◌}
use lib.Dec.{ltb}
use Rattle.laws.specs.BigEndian.{be}
use Rattle.laws.specs.First.{first}
use Rattle.layout.proofs.bytes.first_over_in.Given as goal

abbrev pub invariant-loop-p : goal.invariant-loop-p
invariant-loop-p l = first (λ k. ltb l.most (be l.file (l.at + 4 * k) 4)) l.p ≡ l.p
