-- Forms of an attribute are told apart.
use Prim.Native.Nat.{ℕ}
use mathlib.Core.Path.{◌≡◌}
use native.Mathlib.Omega.{arith}
use Rattle.run.specs.Run.{absent, clear, sealed}

pub absent_clear : absent ≡ clear → ⊥
absent_clear e = let z : ◌≡◌ {A = ℕ} 0 1 = cc in omega arith

pub absent_sealed : {key : ℕ} → absent ≡ sealed key → ⊥
absent_sealed e = let z : ◌≡◌ {A = ℕ} 0 1 = cc in omega arith

pub sealed_clear : {key : ℕ} → sealed key ≡ clear → ⊥
sealed_clear e = let z : ◌≡◌ {A = ℕ} 0 1 = cc in omega arith

-- a key is known by what is sealed under it
pub same_sealed : {j k : ℕ} → sealed j ≡ sealed k → j ≡ k
same_sealed e = cc
