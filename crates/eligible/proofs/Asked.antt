-- What is asked of subjects by lists is what is asked by the night's views.
use Prim.Native.Nat.{ℕ, zero, suc, ◌+◌, ◌<◌, ◌≤◌}
use mathlib.Core.Path.{◌≡◌, refl, sym, ap, ◌∙◌}
use mathlib.Core.List.{List}
use native.Mathlib.Omega.{arith}
use lib.ListN.{get_or}
use Rattle.std.specs.Prelude.{if◌then◌else◌}
use Rattle.laws.proofs.Upwards.{each_at}
use Rattle.sets.specs.Sets.{single, union, unions}
use Rattle.sets.proofs.Words.{unions_more}
use Rattle.night.specs.Night.{Night}
use Rattle.night.specs.Views.{clear_of, sealed_of}
use Rattle.model.specs.declared.Table.{Table}
use Rattle.model.specs.OneTest.{passes_both, out_by}
use Rattle.model.proofs.OutLaws.{whole_empty}
use Rattle.model.proofs.TableLaws.{union_none}
use Rattle.eligible.specs.Asked.{out_among, pass_among, Sees}

-- nobody is out by an empty set
pub none_out : (s : ℕ) (clear sealed : List ℕ) → out_among s clear sealed 0 ≡ 0
unfolding unions
none_out zero clear sealed = refl
none_out (suc s) clear sealed = rw (none_out s clear sealed, whole_empty (get_or clear s 0) (get_or sealed s 0)) (union_none 0)

-- a turn of a loop that joins no set
pub unions_kept : {all next : ℕ} (f : ℕ → ℕ) (n : ℕ) → all ≡ unions f n → f n ≡ 0 → next ≡ all → next ≡ unions f (n + 1)
unions_kept f n so_far none next = next ∙ (so_far ∙ sym (unions_more f n ∙ (ap (λ (a : ℕ). union (unions f n) a) none ∙ union_none (unions f n))))

-- unions of the same sets are the same
pub unions_same : (f g : ℕ → ℕ) (n : ℕ) → ((k : ℕ) → k < n → f k ≡ g k) → unions f n ≡ unions g n
unfolding unions
unions_same f g zero h = refl
unions_same f g (suc n) h = rw (unions_same f g n (λ k l. h k (omega arith)), h n (omega arith)) refl

module _ (N : Night) (few : N.header.subjects ≤ 16) (clear sealed : List ℕ) (sees : Sees N clear sealed) where
  pub clear-at : (p : ℕ) → p < N.header.subjects → get_or clear p 0 ≡ clear_of N p
  clear-at p l = rw sees.in-clear (each_at (clear_of N) 0 p 16 (omega arith))

  pub sealed_at : (p : ℕ) → p < N.header.subjects → get_or sealed p 0 ≡ sealed_of N p
  sealed_at p l = rw sees.in_sealed (each_at (sealed_of N) 0 p 16 (omega arith))

  pub out_night : (S : ℕ) → out_among N.header.subjects clear sealed S ≡ out_by N S
  unfolding out_by
  out_night S = unions_same _ _ N.header.subjects (λ p l. rw (clear-at p l, sealed_at p l) refl)

  pub pass_night : (t : Table)
      → pass_among N.header.subjects clear sealed t ≡ unions (λ p. if passes_both t (clear_of N p) (sealed_of N p) then single 16 p else 0) N.header.subjects
  pass_night t = unions_same _ _ N.header.subjects (λ p l. rw (clear-at p l, sealed_at p l) refl)
