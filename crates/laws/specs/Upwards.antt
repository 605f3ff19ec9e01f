-- A list worked out upwards: each entry is made from the entries before it.
use Rattle.std.specs.Prelude.{ℕ, zero, suc, List, [], ◌∷◌, ◌++◌}

-- entry i is f of the entries before i, and i
unfoldable pub upwards : {A : Type 0} → (List A → ℕ → A) → ℕ → List A
upwards f zero = []
upwards f (suc n) = upwards f n ++ (f (upwards f n) n ∷ [])

-- the list f 0, f 1, .. below n
abbrev pub each : {A : Type 0} → ℕ → (ℕ → A) → List A
each n f = upwards (λ before i. f i) n
