-- The room is the tied sets so far, and what it had after them.
use Prim.Native.Nat.{ℕ}
use mathlib.Core.Path.{◌≡◌}
use mathlib.Core.List.{List, ◌++◌}
use lib.ListN.{length, get_or, drop}
use Rattle.std.specs.Prelude.{if◌then◌else◌}
use Rattle.laws.specs.Upwards.{each}
use Rattle.sets.specs.Sets.{member}
use Rattle.eligible.proofs.ties.put.Given as goal

-- the tied set of attribute k after `all` is tied
abbrev tied_at : List ℕ → ℕ → ℕ → ℕ
tied_at tied all k = if member all k then all else get_or tied k 0

abbrev pub invariant-loop-k : goal.invariant-loop-k
invariant-loop-k l = (length l.tied ≡ length l.initial.tied) × (l.tied ≡ each l.k (tied_at l.initial.tied l.all) ++ drop l.k l.initial.tied)
