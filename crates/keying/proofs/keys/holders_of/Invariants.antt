-- The set grows by one node a turn.
use Prim.Native.Nat.{ℕ}
use mathlib.Core.Path.{◌≡◌}
use lib.ListN.{get_or}
use Rattle.std.specs.Prelude.{if◌then◌else◌}
use Rattle.sets.specs.Sets.{union, apart, single, unions}
use Rattle.keying.proofs.keys.holders_of.Given as goal

-- the subject where it opens or seals one of the group
abbrev held : ℕ → ℕ → ℕ → ℕ → ℕ
held group p opened sealed = if apart group (union opened sealed) then 0 else single 16 p

abbrev pub invariant-loop-i : goal.invariant-loop-i
invariant-loop-i l = l.all ≡ unions (λ j. held l.group (get_or l.plan.choice.now j 0) (get_or l.plan.opens.now j 0) (get_or l.plan.seals.now j 0)) l.i
