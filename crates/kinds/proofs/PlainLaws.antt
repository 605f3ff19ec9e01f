-- What a node reads, by its fields where it names no pairs, and by its pairs where it does.
use Prim.Native.Nat.{ℕ}
use mathlib.Core.Path.{◌≡◌, refl}
use mathlib.Core.Bool.{Bool, true, false}
use mathlib.Core.List.{List, [], ◌∷◌}
use native.Mathlib.Omega.{arith}
use lib.Dec.{eqb}
use borrow.Author.Tests.{eqb-true, ne_eqb}
use Rattle.std.specs.Prelude.{if◌then◌else◌}
use Rattle.laws.specs.Choose.{any_of}
use Rattle.night.specs.declared.Node.{Node}
use Rattle.night.specs.Night.{Night}
use Rattle.night.specs.Kinds.{uses_pairs, pairs_read, reads, read_together}
use Rattle.kinds.specs.Plain.{plain_reads, reads_at_once}

module _ (N : Night) (v : Node) where
  pub reads_plain : uses_pairs v.kind ≡ false → reads N v ≡ plain_reads v.kind v.x v.y v.set
  unfolding uses_pairs reads plain_reads
  reads_plain u = rw u refl

  -- all at once, or nothing
  pub together_plain : uses_pairs v.kind ≡ false
      → read_together N v ≡ (if reads_at_once v.kind then plain_reads v.kind v.x v.y v.set ∷ [] else [])
  unfolding uses_pairs read_together reads_at_once any_of
  together_plain u = rw (u, reads_plain u) (go _ _ (eqb v.kind 3) (eqb v.kind 5) (eqb v.kind 8))
    where
      go : (x y : List ℕ) (a b c : Bool)
          → (if a then x else if b then x else if c then x else y) ≡ (if (if a then true else if b then true else if c then true else false) then x else y)
      go x y true b c = refl
      go x y false true c = refl
      go x y false false true = refl
      go x y false false false = refl

  pub reads_paired : uses_pairs v.kind ≡ true → reads N v ≡ pairs_read N v
  unfolding uses_pairs reads
  reads_paired u =
      let kind = eqb-true v.kind 9 u in
      rw (
        ne_eqb v.kind 2 (λ e. omega arith),
        ne_eqb v.kind 3 (λ e. omega arith),
        ne_eqb v.kind 5 (λ e. omega arith),
        ne_eqb v.kind 6 (λ e. omega arith),
        ne_eqb v.kind 7 (λ e. omega arith),
        ne_eqb v.kind 8 (λ e. omega arith),
        u,
      )
      refl
