-- What each version of the file has. A version keeps all earlier additions. Nothing else compares version numbers.
use Rattle.std.specs.Prelude.{ℕ, Bool, [], ◌∷◌, eqb, ltb, if◌then◌else◌}
use Rattle.laws.specs.Choose.{any_of}

-- the versions that are read
unfoldable pub known : ℕ → Bool
known version = any_of (eqb version 1 ∷ eqb version 2 ∷ eqb version 3 ∷ eqb version 4 ∷ [])

-- from version 2 on the header names the user, to whom the root's table is delivered
unfoldable pub delivers : ℕ → Bool
delivers version = ltb 1 version

-- from version 3 on there is a list of pairs, which the header counts and nodes name
unfoldable pub has_pairs : ℕ → Bool
has_pairs version = ltb 2 version

-- from version 4 on a grant ends with a first and a last day, and the header with the night's day
unfoldable pub has_days : ℕ → Bool
has_days version = ltb 3 version

-- kind 9 comes with the pairs
unfoldable pub last_kind : ℕ → ℕ
last_kind version = if has_pairs version then 9 else 8

-- lengths of the header and of each record
unfoldable pub header_length : ℕ → ℕ
header_length version = if has_days version then 19 else if has_pairs version then 17 else if delivers version then 16 else 15

abbrev pub relation_length : ℕ → ℕ
relation_length version = 9

unfoldable pub grant_length : ℕ → ℕ
grant_length version = if has_days version then 22 else 18

unfoldable pub node_length : ℕ → ℕ
node_length version = if has_pairs version then 30 else 28

abbrev pub pair_length : ℕ → ℕ
pair_length version = 2
