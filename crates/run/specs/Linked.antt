-- Attributes linked by ties.
use Rattle.std.specs.Prelude.{ℕ}
use Rattle.sets.specs.Sets.{In}

-- two attributes are linked by a chain of ties, T saying which sets were tied; one that is tied is linked with itself
pub data Chain (T : ℕ → Type 0) (i : ℕ) : ℕ → Type 0 where
  one : {j m : ℕ} → T m → In i m → In j m → Chain T i j
  step : {j k m : ℕ} → Chain T i j → T m → In j m → In k m → Chain T i k
