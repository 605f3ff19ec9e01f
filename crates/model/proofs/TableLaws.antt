-- How tied sets and tables are worked out: what a turn of a loop adds, what a node's table is by its kind.
use Prim.Native.Nat.{ℕ, suc, ◌+◌, ◌<◌, ◌≤◌}
use mathlib.Core.Path.{◌≡◌, refl, sym, ◌∙◌}
use mathlib.Core.Bool.{Bool, true, false}
use mathlib.Core.List.{List}
use native.Mathlib.Numerals.{add-one}
use native.Mathlib.Omega.{arith}
use lib.Bits.{and_zero_l, or_zero_r}
use lib.Dec.{ltb}
use lib.ListN.{get_or}
use borrow.Author.Tests.{ltb-true, ltb-false, lt-ltb, eq-eqb, ne_eqb}
use Rattle.std.specs.Prelude.{if◌then◌else◌}
use Rattle.laws.specs.Choose.{any_of}
use Rattle.laws.specs.Upwards.{upwards, each}
use Rattle.laws.proofs.Upwards.{upwards_at, upwards_past}
use Rattle.sets.specs.Sets.{bit, member, union, meet, minus}
use Rattle.sets.proofs.Members.{bit_lt, bit_meet, bit_union, bit_minus, same_members}
use Rattle.night.specs.Night.{Night, node_of}
use Rattle.night.specs.Kinds.{attribute, its_pair, both_of, reads, read_together, uses_right, visible_after}
use Rattle.model.specs.declared.Table.{Table}
use Rattle.model.proofs.Chains.{tie_single}
use Rattle.model.specs.Ties.{gathered, tie, merged}
use Rattle.model.specs.Tables.{blank, shown, least_view, tests, ties, tie_all, joined, result, leaf_table, step_table, FunctionTies, table_step, tables, table_of}

-- one attribute more is gathered
pub gathered_none : (t : List ℕ) (s : ℕ) → gathered t s 0 ≡ s
unfolding gathered
gathered_none t s = refl

pub gathered_more : (t : List ℕ) (s n : ℕ) → gathered t s (n + 1) ≡ (if member s n then union (gathered t s n) (get_or t n 0) else gathered t s n)
unfolding gathered
gathered_more t s n = rw add-one refl

-- no tied set is merged
pub merged_none : (t u : List ℕ) → merged t u 0 ≡ t
unfolding merged
merged_none t u = refl

-- sets
pub meet_none : (a : ℕ) → meet 0 a ≡ 0
unfolding meet
meet_none a = and_zero_l a

pub union_none : (a : ℕ) → union a 0 ≡ a
unfolding union
union_none a = or_zero_r a

pub same_bits : (a b : ℕ) → ((k : ℕ) → bit a k ≡ bit b k) → a ≡ b
same_bits a b f = same_members a b (λ k h. sym (f k) ∙ h) (λ k h. f k ∙ h)

union_across : (a b c d : ℕ) → union (union a b) (union c d) ≡ union (union a c) (union b d)
union_across a b c d = same_bits (union (union a b) (union c d)) (union (union a c) (union b d)) (λ k. simp bit_union (omega arith))

union_split : (a b : ℕ) → union (meet a b) (minus b a) ≡ b
union_split a b = same_bits (union (meet a b) (minus b a)) b (λ k. simp (bit_union, bit_meet, bit_minus) (omega (arith, bit_lt a k, bit_lt b k)))

meet_union_left : (a b : ℕ) → meet a (union a b) ≡ a
meet_union_left a b = same_bits (meet a (union a b)) a (λ k. simp (bit_union, bit_meet) (omega arith))

meet_union_right : (a b : ℕ) → meet b (union a b) ≡ b
meet_union_right a b = same_bits (meet b (union a b)) b (λ k. simp (bit_union, bit_meet) (omega arith))

-- node i's table, from those of the nodes before it
table_made : (N : Night) (i : ℕ) → i < N.header.nodes → table_of N i ≡ table_step N (upwards (table_step N) i) i
unfolding table_of tables
table_made N i h = upwards_at (table_step N) blank i N.header.nodes h

-- the table of operand c of node i: blank where it is not lower
abbrev pub operand_of : Night → ℕ → ℕ → Table
operand_of N i c = if ltb c i then table_of N c else blank

operand_made : (N : Night) (i c : ℕ) → i < N.header.nodes → get_or (upwards (table_step N) i) c blank ≡ operand_of N i c
operand_made N i c h = go (ltb c i) refl
  where
    go : (b : Bool) → ltb c i ≡ b → get_or (upwards (table_step N) i) c blank ≡ (if b then table_of N c else blank)
    go true e = upwards_at (table_step N) blank c i (ltb-true c i e) ∙ sym (table_made N c (omega (arith, ltb-true c i e)))
    go false e = upwards_past (table_step N) blank c i (ltb-false c i e)

-- a leaf's table, a step's table, and none past the nodes
pub table_leaf : (N : Night) (i : ℕ) → i < N.header.nodes → (node_of N i).kind ≡ 0 → table_of N i ≡ leaf_table (node_of N i)
unfolding table_step
table_leaf N i h e = table_made N i h ∙ rw (eq-eqb (node_of N i).kind 0 e) refl

pub table-step : (N : Night) (i : ℕ) → i < N.header.nodes → ((node_of N i).kind ≡ 0 → ⊥)
    → table_of N i ≡ step_table N (node_of N i) (operand_of N i (node_of N i).left) (operand_of N i (node_of N i).right)
unfolding table_step
table-step N i h no_leaf =
    table_made N i h ∙ rw (ne_eqb (node_of N i).kind 0 no_leaf, operand_made N i (node_of N i).left h, operand_made N i (node_of N i).right h) refl

pub table_past : (N : Night) (i : ℕ) → N.header.nodes ≤ i → table_of N i ≡ blank
unfolding table_of tables
table_past N i h = upwards_past (table_step N) blank i N.header.nodes h

-- a least view shows all that its table shows, and two tables joined show what either does
pub shown_least : (needed : ℕ) (t : Table) → shown (least_view needed t) ≡ shown t
unfolding least_view
shown_least needed t = union_split needed (shown t)

pub shown_joined : (t u : Table) → shown (joined t u) ≡ union (shown t) (shown u)
unfolding joined
shown_joined t u = union_across t.clear u.clear t.sealed u.sealed

-- what a step has of its operands: their least views, joined where there are two
abbrev pub both : Bool → ℕ → Table → Table → Table
both b needed l r = if b then joined (least_view needed l) (least_view needed r) else least_view needed l

-- the least views of node i's operands
abbrev pub left_view : Night → ℕ → Table
left_view N i = least_view (node_of N i).needed (table_of N (node_of N i).left)

abbrev pub right_view : Night → ℕ → Table
right_view N i = least_view (node_of N i).needed (table_of N (node_of N i).right)

-- the table of a step by its kind, where its operands are lower
module _ (N : Night) (i : ℕ) (known : i < N.header.nodes) (left_lower : (node_of N i).left < i) where
  one_operand : (k : ℕ) → (node_of N i).kind ≡ suc k → table_of N i ≡ step_table N (node_of N i) (table_of N (node_of N i).left) (operand_of N i (node_of N i).right)
  one_operand k e = table-step N i known (λ z. omega arith) ∙ rw (lt-ltb (node_of N i).left i left_lower) refl

  all_stays : shown (left_view N i) ≡ shown (table_of N (node_of N i).left)
  all_stays = shown_least (node_of N i).needed (table_of N (node_of N i).left)

  two_operands : (k : ℕ) → (node_of N i).kind ≡ suc k → (node_of N i).right < i → table_of N i ≡ step_table N (node_of N i) (table_of N (node_of N i).left) (table_of N (node_of N i).right)
  two_operands k e l = one_operand k e ∙ rw (lt-ltb (node_of N i).right i l) refl

  both_stay : union (shown (table_of N (node_of N i).left)) (shown (table_of N (node_of N i).right)) ≡ shown (joined (left_view N i) (right_view N i))
  both_stay = rw (shown_joined (left_view N i) (right_view N i), all_stays, shown_least (node_of N i).needed (table_of N (node_of N i).right)) refl

  -- project: the set stays
  pub table_project : (node_of N i).kind ≡ 1
      → table_of N i
      ≡ record {
        clear = meet (left_view N i).clear (node_of N i).set;
        sealed = meet (left_view N i).sealed (node_of N i).set;
        tested = (left_view N i).tested;
        hidden = (left_view N i).hidden;
        tied = (left_view N i).tied;
      }
  unfolding step_table result tests ties reads read_together visible_after uses_right any_of
  table_project e = one_operand 0 e ∙ rw e (simp (meet_none, union_none))

  -- select with a value: x is tested in its form
  pub table_select : (node_of N i).kind ≡ 2
      → table_of N i
      ≡ record {
        clear = (left_view N i).clear;
        sealed = (left_view N i).sealed;
        tested = union (left_view N i).tested (meet (attribute (node_of N i).x) (left_view N i).clear);
        hidden = union (left_view N i).hidden (meet (attribute (node_of N i).x) (left_view N i).sealed);
        tied = (left_view N i).tied;
      }
  unfolding step_table result tests ties reads read_together visible_after uses_right any_of
  table_select e = one_operand 1 e ∙ rw (e, ← all_stays) (simp (meet_union_left, meet_union_right))

  -- select with an attribute: x and y are tied
  pub table_compare : (node_of N i).kind ≡ 3
      → table_of N i
      ≡ record {
        clear = (left_view N i).clear;
        sealed = (left_view N i).sealed;
        tested = (left_view N i).tested;
        hidden = (left_view N i).hidden;
        tied = tie (left_view N i).tied (union (attribute (node_of N i).x) (attribute (node_of N i).y));
      }
  unfolding step_table result tests ties reads read_together visible_after uses_right any_of
  table_compare e = one_operand 2 e ∙ rw (e, ← all_stays) (simp (meet_none, union_none, meet_union_left, meet_union_right))

  -- product: all of both
  pub table_product : (node_of N i).right < i → (node_of N i).kind ≡ 4 → table_of N i ≡ joined (left_view N i) (right_view N i)
  unfolding step_table result tests ties reads read_together visible_after uses_right any_of
  table_product l e = two_operands 3 e l ∙ rw (e, both_stay) (simp (meet_none, union_none, meet_union_left, meet_union_right))

  -- join: all of both, and x and y are tied
  pub table_join : (node_of N i).right < i → (node_of N i).kind ≡ 5
      → table_of N i
      ≡ record {
        clear = union (left_view N i).clear (right_view N i).clear;
        sealed = union (left_view N i).sealed (right_view N i).sealed;
        tested = union (left_view N i).tested (right_view N i).tested;
        hidden = union (left_view N i).hidden (right_view N i).hidden;
        tied = tie (merged (left_view N i).tied (right_view N i).tied 64) (union (attribute (node_of N i).x) (attribute (node_of N i).y));
      }
  unfolding step_table result tests ties reads read_together visible_after uses_right any_of joined
  table_join l e = two_operands 4 e l ∙ rw (e, both_stay) (simp (meet_none, union_none, meet_union_left, meet_union_right))

  -- group and aggregate: the set and x stay, and the set is tested
  pub table_aggregate : (node_of N i).kind ≡ 6
      → table_of N i
      ≡ record {
        clear = meet (left_view N i).clear (union (node_of N i).set (attribute (node_of N i).x));
        sealed = meet (left_view N i).sealed (union (node_of N i).set (attribute (node_of N i).x));
        tested = union (left_view N i).tested (meet (node_of N i).set (left_view N i).clear);
        hidden = union (left_view N i).hidden (meet (node_of N i).set (left_view N i).sealed);
        tied = (left_view N i).tied;
      }
  unfolding step_table result tests ties reads read_together visible_after uses_right any_of
  table_aggregate e = one_operand 5 e ∙ rw e refl

  -- group and count: the set stays and is tested
  pub table_count : (node_of N i).kind ≡ 7
      → table_of N i
      ≡ record {
        clear = meet (left_view N i).clear (node_of N i).set;
        sealed = meet (left_view N i).sealed (node_of N i).set;
        tested = union (left_view N i).tested (meet (node_of N i).set (left_view N i).clear);
        hidden = union (left_view N i).hidden (meet (node_of N i).set (left_view N i).sealed);
        tied = (left_view N i).tied;
      }
  unfolding step_table result tests ties reads read_together visible_after uses_right any_of
  table_count e = one_operand 6 e ∙ rw e refl

  -- user function: the set is tied, and of it x stays
  pub table_function : (node_of N i).kind ≡ 8
      → table_of N i
      ≡ record {
        clear = meet (left_view N i).clear (union (minus (shown (left_view N i)) (node_of N i).set) (attribute (node_of N i).x));
        sealed = meet (left_view N i).sealed (union (minus (shown (left_view N i)) (node_of N i).set) (attribute (node_of N i).x));
        tested = (left_view N i).tested;
        hidden = (left_view N i).hidden;
        tied = tie (left_view N i).tied (node_of N i).set;
      }
  unfolding step_table result tests ties reads read_together visible_after uses_right any_of
  table_function e = one_operand 7 e ∙ rw (e, ← all_stays) (simp (meet_none, union_none))

  -- join on pairs: all of both, and each pair is tied, one after the other
  pub table_pairs : (node_of N i).right < i → (node_of N i).kind ≡ 9
      → table_of N i
      ≡ record {
        clear = union (left_view N i).clear (right_view N i).clear;
        sealed = union (left_view N i).sealed (right_view N i).sealed;
        tested = union (left_view N i).tested (right_view N i).tested;
        hidden = union (left_view N i).hidden (right_view N i).hidden;
        tied = tie_all (merged (left_view N i).tied (right_view N i).tied 64) (each (node_of N i).count (λ k. both_of (its_pair N (node_of N i) k)));
      }
  unfolding step_table result tests ties reads read_together visible_after uses_right any_of joined
  table_pairs l e = two_operands 8 e l ∙ rw (e, both_stay) (simp (meet_none, union_none, meet_union_left, meet_union_right))

-- a user function over one attribute
pub function_ties : FunctionTies
unfolding step_table result least_view ties read_together reads uses_right any_of
function_ties N v a l r low e s = rw (e, s) (tie_single l.tied a low)
