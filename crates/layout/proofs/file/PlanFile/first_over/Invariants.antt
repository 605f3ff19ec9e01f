-- No price so far is over.
use Rattle.std.proofs.Common.{◌≡◌, ◌+◌, ◌*◌}
use lib.Dec.{ltb}
use Rattle.laws.specs.First.{first}
use Rattle.format.specs.Layout.{nth_price}
use Rattle.layout.proofs.file.PlanFile.first_over.Given as goal

abbrev pub invariant-loop-p : goal.invariant-loop-p
invariant-loop-p l = first (λ k. ltb l.most (nth_price l.self.bytes.now l.self.header (l.i * l.self.header.subjects + k))) l.p ≡ l.p
