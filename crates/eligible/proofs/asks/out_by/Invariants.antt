-- The subjects so far, one more a turn.
use Prim.Native.Nat.{ℕ}
use mathlib.Core.Path.{◌≡◌}
use mathlib.Core.List.{List}
use lib.ListN.{get_or}
use Rattle.std.specs.Prelude.{if◌then◌else◌}
use Rattle.sets.specs.Sets.{single, unions}
use Rattle.model.specs.OneTest.{splits}
use Rattle.eligible.proofs.asks.out_by.Given as goal

-- what is asked of subject p
abbrev asked : ℕ → List ℕ → List ℕ → ℕ → ℕ
asked set clear sealed p = if splits set (get_or clear p 0) (get_or sealed p 0) then single 16 p else 0

abbrev pub invariant-loop-p : goal.invariant-loop-p
invariant-loop-p l = l.out ≡ unions (asked l.set l.seen.clear l.seen.sealed) l.p
