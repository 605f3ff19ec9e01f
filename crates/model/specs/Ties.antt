-- Tied sets: for each attribute the whole tied set that it stands in, empty where it is not tied.
use Rattle.std.specs.Prelude.{ℕ, zero, suc, ◌^◌, ◌<◌, List, eqb, get_or, replicate, if◌then◌else◌}
use Rattle.laws.specs.Upwards.{each}
use Rattle.sets.specs.Sets.{In, member, union}
use Rattle.run.specs.Linked.{Chain}

-- nothing is tied
abbrev pub untied : List ℕ
untied = replicate 64 0

-- the set with every tied set that it meets at an attribute below n
unfoldable pub gathered : List ℕ → ℕ → ℕ → ℕ
gathered t s zero = s
gathered t s (suc n) = if member s n then union (gathered t s n) (get_or t n 0) else gathered t s n

-- tying a set: it and every tied set that it meets become one
unfoldable pub tie : List ℕ → ℕ → List ℕ
tie t s = each 64 (λ k. if member (gathered t s 64) k then gathered t s 64 else get_or t k 0)

-- two operands' tied sets together: those of the second below n tied into those of the first, each where there is one
unfoldable pub merged : List ℕ → List ℕ → ℕ → List ℕ
merged t u zero = t
merged t u (suc n) = if eqb (get_or u n 0) 0 then merged t u n else tie (merged t u n) (get_or u n 0)

-- the tied sets are just what the chains of ties link, and every tied set fits 64 bits
pub record Classes (T : ℕ → Type 0) (t : List ℕ) : Type 0 where
  pub small : (m : ℕ) → T m → m < 2 ^ 64
  pub linked : (i j : ℕ) → In j (get_or t i 0) → Chain T i j
  pub held : (i j : ℕ) → Chain T i j → In j (get_or t i 0)
