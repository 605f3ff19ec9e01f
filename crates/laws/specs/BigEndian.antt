-- Big-endian numbers in a list of bytes.
use Rattle.std.specs.Prelude.{ℕ, zero, suc, ◌+◌, ◌*◌, ◌/◌, ◌%◌, List, [], ◌∷◌, ◌++◌, get_or}

-- the number that the n bytes from `at` on make; a byte past the end counts as 0
unfoldable pub be : List ℕ → ℕ → ℕ → ℕ
be s at zero = 0
be s at (suc n) = be s at n * 256 + get_or s (at + n) 0

-- the n lowest bytes of a number, the highest of them first
unfoldable pub bytes : ℕ → ℕ → List ℕ
bytes zero v = []
bytes (suc n) v = bytes n (v / 256) ++ (v % 256 ∷ [])
