-- The array is the names so far, with nothing after them.
use Prim.Native.Nat.{ℕ}
use mathlib.Core.Path.{◌≡◌}
use mathlib.Core.List.{List}
use lib.ListN.{length}
use Rattle.laws.proofs.Upwards.{Agrees}
use Rattle.sets.specs.Sets.{lowest}
use Rattle.keying.proofs.Grouped.{group_among}
use Rattle.keying.proofs.keys.names.Given as goal

-- the name of attribute k's key
abbrev at : List ℕ → ℕ → ℕ → ℕ
at tied sealed k = lowest 64 (group_among tied sealed k)

abbrev pub invariant-loop-k : goal.invariant-loop-k
invariant-loop-k l = (length l.all ≡ 64) × Agrees (λ before. at l.tied l.sealed) 0 l.k l.all
