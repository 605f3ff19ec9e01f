-- The grants are decoded and searched in stretches.
use Rattle.std.specs.Prelude.{ℕ, ◌<◌, ◌≤◌, ◌≡◌, Bool, true, false}

-- how many grants a stretch has at most
abbrev pub at_once : ℕ
at_once = 8

-- j is the next number from `start` on, below n, at which the test holds, or n where there is none
pub record Next (p : ℕ → Bool) (start n j : ℕ) : Type 0 where
  pub after : start ≤ j
  pub within : j ≤ n
  pub none : (k : ℕ) → start ≤ k → k < j → p k ≡ false
  pub found : j < n → p j ≡ true
