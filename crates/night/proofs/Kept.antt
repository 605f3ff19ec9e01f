-- A version keeps all earlier additions.
use Prim.Native.Nat.{ℕ}
use mathlib.Core.Path.{◌≡◌}
use mathlib.Core.Bool.{true}
use native.Mathlib.Omega.{arith}
use borrow.Author.Tests.{ltb-true, lt-ltb}
use Rattle.night.specs.Versions.{delivers, has_pairs, has_days}

-- a version with pairs has a user too
pub pairs_deliver : (version : ℕ) → has_pairs version ≡ true → delivers version ≡ true
unfolding has_pairs delivers
pairs_deliver version e = lt-ltb 1 version (omega (arith, ltb-true 2 version e))

-- and one with days has pairs
pub days_pairs : (version : ℕ) → has_days version ≡ true → has_pairs version ≡ true
unfolding has_days has_pairs
days_pairs version e = lt-ltb 2 version (omega (arith, ltb-true 3 version e))
