-- What a node that names no pairs reads, by its fields alone: `reads` and `read_together` of the night are these of it.
use Rattle.std.specs.Prelude.{ℕ, Bool, [], ◌∷◌, eqb, if◌then◌else◌}
use Rattle.laws.specs.Choose.{any_of}
use Rattle.sets.specs.Sets.{union}
use Rattle.night.specs.Kinds.{a_select, a_compare, a_join, an_aggregate, a_count, a_function, attribute}

-- all that it reads
unfoldable pub plain_reads : ℕ → ℕ → ℕ → ℕ → ℕ
plain_reads kind x y set =
    if eqb kind a_select then attribute x else
    if eqb kind a_compare then union (attribute x) (attribute y) else
    if eqb kind a_join then union (attribute x) (attribute y) else
    if eqb kind an_aggregate then union set (attribute x) else
    if eqb kind a_count then set else
    if eqb kind a_function then set else
    0

-- it reads all that together: the second select, join, user function
unfoldable pub reads_at_once : ℕ → Bool
reads_at_once kind = any_of (eqb kind a_compare ∷ eqb kind a_join ∷ eqb kind a_function ∷ [])
