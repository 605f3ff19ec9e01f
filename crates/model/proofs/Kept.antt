-- A step's table keeps the implicit and tied parts of its operands.
use Prim.Native.Nat.{ℕ, ◌<◌}
use mathlib.Core.Path.{◌≡◌}
use mathlib.Core.Bool.{Bool, true, false}
use mathlib.Core.Logic.{inl, inr}
use native.Mathlib.Omega.{arith}
use borrow.Author.Tests.{lt-ltb}
use Rattle.laws.specs.Choose.{any_of}
use Rattle.sets.specs.Sets.{Within, union}
use Rattle.sets.proofs.Members.{in_union}
use Rattle.night.specs.declared.Node.{Node}
use Rattle.night.specs.Night.{Night, node_of}
use Rattle.night.specs.Kinds.{uses_left, uses_right}
use Rattle.night.specs.Promised.{Promised}
use Rattle.model.specs.declared.Table.{Table}
use Rattle.model.specs.Tables.{least_view, joined, result, step_table, table_of, under_left, under_right, Keeps, NeverRemoved}
use Rattle.model.proofs.Chains.{chain_map}
use Rattle.model.proofs.TableLaws.{table-step, operand_of, both}
use Rattle.model.proofs.Meaning.{tied_meaning}

-- a union has what each of the two has
first_of : (a b : ℕ) → Within a (union a b)
first_of a b k h = (in_union a b k).1 (inl h)

second_of : (a b : ℕ) → Within b (union a b)
second_of a b k h = (in_union a b k).1 (inr h)

both_left : (b : Bool) (needed : ℕ) (l r : Table) → Within l.tested (both b needed l r).tested × Within l.hidden (both b needed l r).hidden
unfolding joined least_view
both_left true needed l r = (first_of l.tested r.tested, first_of l.hidden r.hidden)
both_left false needed l r = ((λ k h. h), λ k h. h)

both_right : (b : Bool) (needed : ℕ) (l r : Table) → b ≡ true → Within r.tested (both b needed l r).tested × Within r.hidden (both b needed l r).hidden
unfolding joined least_view
both_right true needed l r e = (second_of l.tested r.tested, second_of l.hidden r.hidden)
both_right false needed l r e = absurd (let z : ◌≡◌ {A = ℕ} 0 1 = cc in omega arith)

-- a step's implicit parts have those
step_keeps : (N : Night) (v : Node) (l r : Table)
    → Within (both (uses_right v.kind) v.needed l r).tested (step_table N v l r).tested × Within (both (uses_right v.kind) v.needed l r).hidden (step_table N v l r).hidden
unfolding step_table result
step_keeps N v l r = (first_of _ _, first_of _ _)

-- a node with an operand is a step
pub left_step : (kind : ℕ) → uses_left kind ≡ true → kind ≡ 0 → ⊥
unfolding uses_left
left_step kind u z =
    let e : uses_left 0 ≡ true = rw z at u in
    let q : ◌≡◌ {A = ℕ} 0 1 = cc in
    omega arith

pub right_step : (kind : ℕ) → uses_right kind ≡ true → kind ≡ 0 → ⊥
unfolding uses_right any_of
right_step kind u z =
    let e : uses_right 0 ≡ true = rw z at u in
    let q : ◌≡◌ {A = ℕ} 0 1 = cc in
    omega arith

module _ (N : Night) (sound : Promised N) (i : ℕ) (l : i < N.header.nodes) where
  abbrev v : Node
  v = node_of N i

  keeps_left : uses_left v.kind ≡ true → Keeps (table_of N v.left) (table_of N i)
  keeps_left u =
      let lower : v.left < i = (sound.node i l).left_lower u in
      let made = both_left (uses_right v.kind) v.needed (table_of N v.left) (operand_of N i v.right) in
      let kept = step_keeps N v (table_of N v.left) (operand_of N i v.right) in
      record {
        tested = λ k h. rw (table-step N i l (left_step v.kind u), lt-ltb v.left i lower) (kept.0 k (made.0 k h));
        hidden = λ k h. rw (table-step N i l (left_step v.kind u), lt-ltb v.left i lower) (kept.1 k (made.1 k h));
        tied = λ j k h. (tied_meaning N sound i l).held j k (chain_map (λ m t. under_left u t) ((tied_meaning N sound v.left (omega arith)).linked j k h));
      }

  keeps_right : uses_right v.kind ≡ true → Keeps (table_of N v.right) (table_of N i)
  keeps_right u =
      let lower : v.right < i = (sound.node i l).right_lower u in
      let made = both_right (uses_right v.kind) v.needed (operand_of N i v.left) (table_of N v.right) u in
      let kept = step_keeps N v (operand_of N i v.left) (table_of N v.right) in
      record {
        tested = λ k h. rw (table-step N i l (right_step v.kind u), lt-ltb v.right i lower) (kept.0 k (made.0 k h));
        hidden = λ k h. rw (table-step N i l (right_step v.kind u), lt-ltb v.right i lower) (kept.1 k (made.1 k h));
        tied = λ j k h. (tied_meaning N sound i l).held j k (chain_map (λ m t. under_right u t) ((tied_meaning N sound v.right (omega arith)).linked j k h));
      }

pub never_removed : NeverRemoved
never_removed N sound i l = (keeps_left N sound i l, keeps_right N sound i l)
