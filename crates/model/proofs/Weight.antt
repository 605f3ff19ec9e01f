-- How much a row and a total can reach: far less than a number of 64 bits holds.
use Prim.Native.Nat.{ℕ, ◌+◌, ◌*◌, ◌<◌, ◌≤◌}
use mathlib.Core.Path.{◌≡◌, refl}
use mathlib.Core.Bool.{Bool, true, false}
use mathlib.Core.List.{List}
use native.Mathlib.Nat.{mul-le-mul}
use native.Mathlib.Omega.{arith}
use lib.Dec.{ltb, eqb}
use lib.ListN.{get_or}
use borrow.Author.Tests.{ltb-true, ltb-false, eqb-false}
use Rattle.std.specs.Prelude.{is_some, if◌then◌else◌}
use Rattle.laws.specs.Upwards.{upwards}
use Rattle.laws.proofs.Sums.{sum_last, sum_le, sum_tight, sum_add, sum_const}
use Rattle.laws.proofs.Upwards.{upwards_past, agrees_none}
use Rattle.sets.specs.Sets.{In, member}
use Rattle.sets.proofs.Members.{member_in}
use Rattle.night.specs.Night.{Night, node_of, step_price, link_price}
use Rattle.night.specs.Kinds.{uses_left, uses_right, is_child}
use Rattle.night.specs.Promised.{Promised}
use Rattle.night.proofs.Visible.{step_uses_left}
use Rattle.model.specs.Choice.{Choice, Admissible, handed, cost_at, total}
use Rattle.model.specs.Dp.{subjects_of, least_of, lowest_of, handed_on, best_of, no_row, best_child, row_step, cost_rows}
use Rattle.model.proofs.Parents.{children, children_le, child_lower, once_below, once}
use Rattle.model.proofs.Lowest.{Found, best_found, found_some}
use Rattle.model.proofs.CostRows.{paid, cost_of, least_child, cost_children, row_known, subject-there, subject_in, cost_is, cost_else, child_found, child_least}

blank_row : (s : ℕ) → get_or no_row s 0 ≡ 0
unfolding upwards
blank_row s = agrees_none {A = ℕ} (λ before i. 0) 0 16 s

-- the cheapest entry of node k's row
lightest : Night → ℕ → ℕ
lightest N k = least_of (best_of N (get_or (cost_rows N) k no_row) (subjects_of N k) 0 0 16)

-- what is found costs no more than all could
pub best_most : (N : Night) (row : List ℕ) (among size s k bound : ℕ) → ((t : ℕ) → t < k → In t among → handed_on N row size s t ≤ bound)
    → least_of (best_of N row among size s k) ≤ bound
best_most N row among size s k bound h = go (is_some (best_of N row among size s k)) refl (best_found N row among size s k)
  where
    go : (b : Bool) → is_some (best_of N row among size s k) ≡ b → Found (handed_on N row size s) among k (best_of N row among size s k)
        → least_of (best_of N row among size s k) ≤ bound
    go true e F = omega (arith, h _ (F.below e) (F.there e), F.cost e)
    go false e F = omega (arith, F.nothing e)

module _ (N : Night) (sound : Promised N) where
  abbrev n : ℕ
  n = N.header.nodes

  -- what it costs to hand node k over
  pub link_most : (k t s : ℕ) → k < n → t < N.header.subjects → s < N.header.subjects → (node_of N k).size * link_price N t s ≤ 1000000000
  link_most k t s l p q = mul-le-mul (sound.node k l).size_most (sound.link-price t s p q)

  -- what a subject is paid for a node
  pub paid_most : (i s : ℕ) → i < n → s < N.header.subjects → paid N i s ≤ 1000000
  unfolding paid
  paid_most i s l h = go (eqb (node_of N i).kind 0)
    where
      go : (b : Bool) → (if b then 0 else step_price N i s) ≤ 1000000
      go true = omega arith
      go false = sound.step-price i s l h

  -- node 0 is a leaf
  paid_first : (s : ℕ) → paid N 0 s ≡ 0
  unfolding paid
  paid_first s = go (eqb (node_of N 0).kind 0) refl
    where
      go : (b : Bool) → eqb (node_of N 0).kind 0 ≡ b → (if b then 0 else step_price N 0 s) ≡ 0
      go true e = refl
      go false e = absurd (omega (arith, (sound.node 0 sound.counts.nodes_some).left_lower (step_uses_left (node_of N 0).kind (eqb-false (node_of N 0).kind 0 e))))

  -- the total of an admissible choice
  module _ (d : Choice) (A : Admissible N d) where
    pub d_there : (i : ℕ) → i < n → d i < N.header.subjects
    d_there i l = subject-there N sound i l (d i) (subject_in N sound i l d A)

    cost_le : (i : ℕ) → i < n → cost_at N d i ≤ paid N i (d i) + children N (λ k. 1000000000) i
    unfolding handed
    cost_le i l = omega (arith, cost_children N d i, children_le N i (λ k. handed N d i k) (λ k. 1000000000) (λ k e. one k e (omega (arith, child_lower N sound i k l e))))
      where
        one : (k : ℕ) → is_child (node_of N i) k ≡ true → k < n → (node_of N k).size * link_price N (d k) (d i) ≤ 1000000000
        one k e h = link_most k (d k) (d i) h (d_there k h) (d_there i l)

    pub total_most : total N d ≤ 63063000000
    unfolding total
    total_most =
        omega (
          arith,
          sum_le (cost_at N d) (λ i. paid N i (d i) + children N (λ k. 1000000000) i) n cost_le,
          sum_add (λ i. paid N i (d i)) (children N (λ k. 1000000000)) n,
          once N sound (λ k. 1000000000),
          sum_const 1000000000 n,
          sum_tight (λ i. paid N i (d i)) (λ i. 1000000) 0 n sound.counts.nodes_some (λ i l. paid_most i (d i) l (d_there i l)),
          paid_first (d 0),
          sum_const 1000000 n,
          sound.counts.nodes_most,
        )

  -- a child handed over costs no more than its cheapest entry and the link
  lightest_found : (k : ℕ) → Found (λ t. cost_of N k t + 0 * link_price N t 0) (subjects_of N k) 16 (best_of N (get_or (cost_rows N) k no_row) (subjects_of N k) 0 0 16)
  unfolding cost_of handed_on
  lightest_found k = best_found N (get_or (cost_rows N) k no_row) (subjects_of N k) 0 0 16

  child_most : (k s : ℕ) → k < n → s < N.header.subjects → least_child N k s ≤ lightest N k + 1000000000
  unfolding least_child lightest
  child_most k s l h = go (is_some (best_child N (cost_rows N) k s)) refl
    where
      go : (b : Bool) → is_some (best_child N (cost_rows N) k s) ≡ b
          → least_of (best_child N (cost_rows N) k s) ≤ least_of (best_of N (get_or (cost_rows N) k no_row) (subjects_of N k) 0 0 16) + 1000000000
      go true e =
          let F = child_found N sound k l s in
          let t = lowest_of (best_of N (get_or (cost_rows N) k no_row) (subjects_of N k) 0 0 16) in
          let f = found_some _ (lightest_found k) (F.below e) (F.there e) in
          let g = (lightest_found k).there f in
          omega (arith, child_least N sound k l s t g, (lightest_found k).cost f, link_most k t s l (subject-there N sound k l t g) h)
      go false e = omega (arith, (child_found N sound k l s).nothing e)

  two_children : (i : ℕ) → children N (λ k. lightest N k + 1000000000) i ≤ children N (lightest N) i + 2000000000
  unfolding children
  two_children i = go (uses_left (node_of N i).kind) (uses_right (node_of N i).kind) (lightest N (node_of N i).left) (lightest N (node_of N i).right)
    where
      go : (a b : Bool) (x y : ℕ) → (if a then x + 1000000000 else 0) + (if b then y + 1000000000 else 0) ≤ (if a then x else 0) + (if b then y else 0) + 2000000000
      go true true x y = omega arith
      go true false x y = omega arith
      go false true x y = omega arith
      go false false x y = omega arith

  entry_most : (i s : ℕ) → i < n → In s (subjects_of N i) → cost_of N i s ≤ children N (lightest N) i + 2001000000
  entry_most i s l h =
      let there = subject-there N sound i l s h in
      omega (
        arith,
        cost_is N sound i l s h,
        paid_most i s l there,
        two_children i,
        children_le N i (λ k. least_child N k s) (λ k. lightest N k + 1000000000) (λ k e. child_most k s (omega (arith, child_lower N sound i k l e)) there),
      )

  lightest_most : (i : ℕ) → i < n → lightest N i ≤ children N (lightest N) i + 2001000000
  unfolding lightest
  lightest_most i l = go (is_some (best_of N (get_or (cost_rows N) i no_row) (subjects_of N i) 0 0 16)) refl
    where
      go : (b : Bool) → is_some (best_of N (get_or (cost_rows N) i no_row) (subjects_of N i) 0 0 16) ≡ b
          → least_of (best_of N (get_or (cost_rows N) i no_row) (subjects_of N i) 0 0 16) ≤ children N (lightest N) i + 2001000000
      go true e = omega (arith, entry_most i _ l ((lightest_found i).there e), (lightest_found i).cost e)
      go false e = omega (arith, (lightest_found i).nothing e)

  -- what the nodes before i can reach
  children_most : (i : ℕ) → i < n → children N (lightest N) i ≤ i * 2001000000
  children_most i l =
      omega (
        arith,
        once_below N sound (lightest N) i l,
        sum_last (lightest N) i,
        sum_last (children N (lightest N)) i,
        sum_le (lightest N) (λ j. children N (lightest N) j + 2001000000) i (λ j h. lightest_most j (omega arith)),
        sum_add (children N (lightest N)) (λ j. 2001000000) i,
        sum_const 2001000000 i,
      )

  -- an entry of a row: 64 nodes, each with a price and two links
  pub cost_most : (i s : ℕ) → i < n → cost_of N i s ≤ 64 * (1000000 + 2 * 1000000 * 1000)
  cost_most i s l = go (member (subjects_of N i) s) refl
    where
      go : (b : Bool) → member (subjects_of N i) s ≡ b → cost_of N i s ≤ 64 * (1000000 + 2 * 1000000 * 1000)
      go true e = omega (arith, entry_most i s l (member_in (subjects_of N i) s e), children_most i l, sound.counts.nodes_most)
      go false e = omega (arith, cost_else N sound i l s e)

  -- the same while the rows are worked out
  pub row_most : (i k s : ℕ) → i ≤ n → get_or (get_or (upwards (row_step N) i) k no_row) s 0 ≤ 64 * (1000000 + 2 * 1000000 * 1000)
  unfolding cost_of
  row_most i k s l = go (ltb k i) refl
    where
      go : (b : Bool) → ltb k i ≡ b → get_or (get_or (upwards (row_step N) i) k no_row) s 0 ≤ 64 * (1000000 + 2 * 1000000 * 1000)
      go true e = rw (row_known N k i (ltb-true k i e) l) (cost_most k s (omega (arith, ltb-true k i e)))
      go false e = rw (upwards_past (row_step N) no_row k i (ltb-false k i e)) (omega (arith, blank_row s))

  -- a child's offer to its parent
  pub offer_most : (i k s t : ℕ) → i ≤ n → k < n → s < N.header.subjects → t < N.header.subjects
      → handed_on N (get_or (upwards (row_step N) i) k no_row) (node_of N k).size s t ≤ 129064000000
  unfolding handed_on
  offer_most i k s t l h p q = omega (arith, row_most i k t l, link_most k t s h q p)
