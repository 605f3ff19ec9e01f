-- A row of prices, of which the first that is over so much is looked for: read as plain numbers, and past the rows.
use Prim.Native.Nat.{ℕ, ◌+◌, ◌*◌, ◌<◌, ◌≤◌}
use mathlib.Core.Path.{◌≡◌, sym, ap, ◌∙◌}
use mathlib.Core.List.{List}
use native.Mathlib.Nat.{mul-le-mul, add-mul}
use native.Mathlib.Omega.{arith}
use lib.Dec.{ltb}
use borrow.Author.Tests.{le-ltb}
use Rattle.laws.specs.BigEndian.{be}
use Rattle.laws.specs.First.{first}
use Rattle.laws.proofs.First.{none_before, first_same}
use Rattle.night.specs.declared.Header.{Header}
use Rattle.format.specs.Layout.{step_prices_from, nth_price}
use Rattle.format.proofs.Sections.{cell_lt, price-in, price_past}

module _ (s : List ℕ) (h : Header) (i most : ℕ) where
  abbrev over : ℕ → ℕ
  over n = first (λ p. ltb most (nth_price s h (i * h.subjects + p))) n

  pub over_past : {n : ℕ} → h.nodes + h.subjects ≤ i → n ≡ h.subjects → n ≡ over h.subjects
  over_past l e = e ∙ sym (none_before _ h.subjects (λ p k. rw (price_past s h (i * h.subjects + p) (past p)) (le-ltb most 0 (omega arith))))
    where
      past : (p : ℕ) → h.nodes * h.subjects + h.subjects * h.subjects ≤ i * h.subjects + p
      past p = omega (arith, add-mul h.nodes h.subjects h.subjects, mul-le-mul {n₁ = h.nodes + h.subjects} {m₁ = h.subjects} {n₂ = i} {m₂ = h.subjects} l (omega arith))

  pub over_read : {from cell n v : ℕ}
      → i < h.nodes + h.subjects
      → from ≡ step_prices_from h
      → cell ≡ i * h.subjects + 0
      → n ≡ h.subjects
      → v ≡ first (λ p. ltb most (be s (from + 4 * cell + 4 * p) 4)) n
      → v ≡ over h.subjects
  over_read {from} {cell} {n} l start row many there =
      there ∙ first_same _ _ n (λ p k. ap (ltb most) (same p (omega arith))) ∙ ap over many
    where
      same : (p : ℕ) → p < h.subjects → be s (from + 4 * cell + 4 * p) 4 ≡ nth_price s h (i * h.subjects + p)
      same p k =
          let at : from + 4 * cell + 4 * p ≡ step_prices_from h + 4 * (i * h.subjects + p) = omega arith in
          let few : i * h.subjects + p < h.nodes * h.subjects + h.subjects * h.subjects =
          omega (arith, add-mul h.nodes h.subjects h.subjects, cell_lt (h.nodes + h.subjects) h.subjects i p l k)
          in
          ap (λ (a : ℕ). be s a 4) at ∙ sym (price-in s h (i * h.subjects + p) few)
