-- What is made of the entries of a list, one after the other.
use Rattle.std.specs.Prelude.{List, [], ◌∷◌, ◌++◌}

-- f of the first entry, then f of the second, and so on
unfoldable pub in_order : {A B : Type 0} → (A → List B) → List A → List B
in_order f [] = []
in_order f (x ∷ xs) = f x ++ in_order f xs
