-- How many sets are read together: as many as the pairs of a node that names some; else one, or none.
use mathlib.Core.Path.{◌≡◌, refl}
use mathlib.Core.Bool.{true, false}
use native.Mathlib.Omega.{arith}
use lib.ListN.{length}
use borrow.Author.Tests.{eqb-true, ne_eqb}
use Rattle.laws.proofs.Upwards.{each_length}
use Rattle.night.specs.declared.Node.{Node}
use Rattle.night.specs.Night.{Night}
use Rattle.night.specs.Kinds.{uses_pairs, its_pair, both_of, read_together}
use Rattle.kinds.specs.Plain.{reads_at_once}
use Rattle.kinds.proofs.PlainLaws.{together_plain}

module _ (N : Night) (v : Node) where
  pub together_pairs : uses_pairs v.kind ≡ true → v.count ≡ length (read_together N v)
  unfolding uses_pairs read_together
  together_pairs u =
      let kind = eqb-true v.kind 9 u in
      rw (
        ne_eqb v.kind 3 (λ e. omega arith),
        ne_eqb v.kind 5 (λ e. omega arith),
        ne_eqb v.kind 8 (λ e. omega arith),
        u,
        each_length (λ k. both_of (its_pair N v k)) v.count,
      )
      refl

  pub together_one : uses_pairs v.kind ≡ false → reads_at_once v.kind ≡ true → 1 ≡ length (read_together N v)
  together_one u e = rw (together_plain N v u, e) refl

  pub together_none : uses_pairs v.kind ≡ false → reads_at_once v.kind ≡ false → 0 ≡ length (read_together N v)
  together_none u e = rw (together_plain N v u, e) refl
