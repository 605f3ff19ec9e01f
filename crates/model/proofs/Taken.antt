-- A step's table from what the step has of its operands.
use Prim.Native.Nat.{ℕ, ◌<◌}
use mathlib.Core.Path.{◌≡◌, refl, ◌∙◌}
use mathlib.Core.Bool.{Bool, true, false}
use borrow.Author.Tests.{lt-ltb}
use Rattle.std.specs.Prelude.{if◌then◌else◌}
use Rattle.night.specs.declared.Node.{Node}
use Rattle.night.specs.Night.{Night, node_of}
use Rattle.night.specs.Kinds.{uses_right, visible_after}
use Rattle.night.specs.Promised.{Promised}
use Rattle.night.proofs.Visible.{left_alone, step_uses_left}
use Rattle.model.specs.declared.Table.{Table}
use Rattle.model.specs.Tables.{shown, result, step_table, table_of}
use Rattle.model.specs.OneTest.{taken_by}
use Rattle.model.proofs.TableLaws.{table-step, operand_of, both}

module _ (N : Night) (sound : Promised N) (i : ℕ) (l : i < N.header.nodes) (s : (node_of N i).kind ≡ 0 → ⊥) where
  abbrev v : Node
  v = node_of N i

  -- its result over what it has of them; what the right one shows is looked at only where there is one
  pub table_taken : table_of N i
      ≡ result N v (visible_after v (shown (table_of N v.left)) (if uses_right v.kind then shown (table_of N v.right) else 0)) (taken_by N i)
  unfolding step_table taken_by
  table_taken =
      table-step N i l s ∙ rw (lt-ltb v.left i ((sound.node i l).left_lower (step_uses_left v.kind s))) (go (uses_right v.kind) refl)
    where
      left : Table
      left = table_of N v.left

      go : (b : Bool) → uses_right v.kind ≡ b
          → result N v (visible_after v (shown left) (shown (operand_of N i v.right))) (both b v.needed left (operand_of N i v.right))
          ≡ result N v (visible_after v (shown left) (if b then shown (table_of N v.right) else 0)) (both b v.needed left (table_of N v.right))
      go true u = rw (lt-ltb v.right i ((sound.node i l).right_lower u)) refl
      go false u = rw (left_alone v (shown left) (shown (operand_of N i v.right)) 0 u) refl
