-- A step's parts, from what the functions over columns promise.
use Prim.Native.Nat.{ℕ}
use mathlib.Core.Path.{◌≡◌, refl, ap, ◌∙◌}
use mathlib.Core.List.{List, []}
use Rattle.std.specs.Prelude.{if◌then◌else◌}
use Rattle.night.specs.declared.Node.{Node}
use Rattle.night.specs.Night.{Night}
use Rattle.night.specs.Kinds.{uses_right, visible_after}
use Rattle.model.specs.Candidates.{clear_offends, sealed_offends}
use Rattle.model.specs.OneTest.{passes_both}
use Rattle.model.specs.Ties.{untied}
use Rattle.model.specs.Tables.{shown, least_view, joined, result, step_table, ties, tie_all}
use Rattle.tables.specs.declared.Columns.{Columns}
use Rattle.tables.specs.Columns.{with_tied, columns_of}
use Rattle.eligible.specs.Asked.{pass_among}
use Rattle.eligible.specs.Walk.{taken_columns}

module _ (v : Node) (l r : Columns) where
  -- what the step has of its operands
  pub close_taken : {left right taken : Columns}
      → ((tied : List ℕ) → with_tied left tied ≡ least_view v.needed (with_tied l tied))
      → ((tied : List ℕ) → with_tied right tied ≡ least_view v.needed (with_tied r tied))
      → ((tied other : List ℕ) → taken ≡ columns_of (if uses_right v.kind then joined (with_tied left tied) (with_tied right other) else with_tied left tied))
      → taken ≡ columns_of (taken_columns v l r)
  close_taken f g h = rw (← f untied, ← g untied) (h untied untied)

  -- its columns
  pub close_made : (N : Night) {taken made : Columns} → taken ≡ columns_of (taken_columns v l r)
      → ((M : Night) (tied other both : List ℕ)
      → with_tied made (tie_all both (ties M v)) ≡ result M v (visible_after v (shown (with_tied l tied)) (shown (with_tied r other))) (with_tied taken both))
      → made ≡ columns_of (step_table N v (with_tied l untied) (with_tied r untied))
  unfolding step_table result
  close_made N e f = ap columns_of (f N untied untied []) ∙ rw e refl

-- who passes is asked of the columns alone
pub pass_columns : (s : ℕ) (clear sealed : List ℕ) (v : Node) (l r taken : Columns) {set : ℕ} → taken ≡ columns_of (taken_columns v l r)
    → ((tied : List ℕ) → set ≡ pass_among s clear sealed (with_tied taken tied)) → set ≡ pass_among s clear sealed (taken_columns v l r)
unfolding passes_both clear_offends sealed_offends
pass_columns s clear sealed v l r taken e f = rw e at (f [])
