-- The subjects so far, one more a turn.
use Prim.Native.Nat.{ℕ}
use mathlib.Core.Path.{◌≡◌}
use mathlib.Core.List.{List, []}
use lib.ListN.{get_or}
use Rattle.std.specs.Prelude.{if◌then◌else◌}
use Rattle.sets.specs.Sets.{single, unions}
use Rattle.model.specs.OneTest.{passes_both}
use Rattle.tables.specs.declared.Columns.{Columns}
use Rattle.tables.specs.Columns.{with_tied}
use Rattle.eligible.proofs.asks.passing.Given as goal

-- what is asked of subject p; of the tied sets nothing is
abbrev asked : Columns → List ℕ → List ℕ → ℕ → ℕ
asked t clear sealed p = if passes_both (with_tied t []) (get_or clear p 0) (get_or sealed p 0) then single 16 p else 0

abbrev pub invariant-loop-p : goal.invariant-loop-p
invariant-loop-p l = l.set ≡ unions (asked l.t l.seen.clear l.seen.sealed) l.p
