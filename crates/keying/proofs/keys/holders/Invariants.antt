-- The array is the holders so far, with nothing after them.
use Prim.Native.Nat.{ℕ}
use mathlib.Core.Path.{◌≡◌}
use mathlib.Core.List.{List}
use lib.ListN.{length}
use Rattle.laws.proofs.Upwards.{Agrees}
use Rattle.run.specs.Keys.{holders_of}
use Rattle.keying.specs.declared.keys.Delivery.{Delivery}
use Rattle.keying.specs.Nodes.{events_to}
use Rattle.keying.proofs.Grouped.{group_among}
use Rattle.keying.proofs.keys.holders.Given as goal

-- the holders of attribute k's key
abbrev at : List ℕ → List ℕ → List ℕ → List ℕ → ℕ → Delivery → ℕ → ℕ → ℕ
at tied choice opens seals n d sealed k = holders_of (events_to choice opens seals n d) (group_among tied sealed k)

abbrev pub invariant-loop-k : goal.invariant-loop-k
invariant-loop-k l = (length l.all ≡ 64) × Agrees (λ before. at l.tied l.plan.choice.now l.plan.opens.now l.plan.seals.now l.plan.nodes l.d l.sealed) 0 l.k l.all
