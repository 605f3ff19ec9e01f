-- The first number at which a test holds.
use Rattle.std.specs.Prelude.{ℕ, zero, suc, Bool, ltb, if◌then◌else◌}

-- the lowest number below n at which the test holds, or n where there is none
unfoldable pub first : (ℕ → Bool) → ℕ → ℕ
first p zero = zero
first p (suc n) = if ltb (first p n) n then first p n else if p n then n else suc n

-- the test holds at some number below n
unfoldable pub somewhere : (ℕ → Bool) → ℕ → Bool
somewhere p n = ltb (first p n) n
