-- The choice that is worked out is the cheapest.
use Prim.Native.Nat.{ℕ, suc, ◌+◌, ◌-◌, ◌*◌, ◌<◌, ◌≤◌}
use mathlib.Core.Path.{◌≡◌, sym}
use mathlib.Core.Bool.{true}
use mathlib.Core.Logic.{⊎_elim}
use native.Mathlib.Nat.{eq-or-lt_of_le}
use native.Mathlib.Omega.{arith}
use lib.ListN.{get_or}
use Rattle.std.specs.Prelude.{is_some}
use Rattle.sets.specs.Sets.{In}
use Rattle.night.specs.Night.{Night, node_of, link_price}
use Rattle.night.specs.Kinds.{is_child}
use Rattle.night.specs.Promised.{Promised}
use Rattle.model.specs.Choice.{Choice, Admissible, AllHave, handed, total, Earlier, Least, LeastThere}
use Rattle.model.specs.Dp.{subjects_of, least_of, lowest_of, handed_on, no_row, best_child, cost_rows, best_last, chosen}
use Rattle.model.proofs.Parents.{root_there, child_lower}
use Rattle.model.proofs.Lowest.{Found, best_found, found_some}
use Rattle.model.proofs.Follows.{chosen_follows}
use Rattle.model.proofs.CostRows.{cost_of, least_child, subject_low, subject_leaf, subject_step, subject_in, subject_some, child_found}
use Rattle.model.proofs.Greedy.{entry_at, child_at, last_le, child_tight, last_is}

-- the last node's search
last_found : (N : Night) → Found (λ t. cost_of N (N.header.nodes - 1) t + 0 * link_price N t 0) (subjects_of N (N.header.nodes - 1)) 16 (best_last N (cost_rows N))
unfolding best_last cost_of handed_on
last_found N = best_found N (get_or (cost_rows N) (N.header.nodes - 1) no_row) (subjects_of N (N.header.nodes - 1)) 0 0 16

module _ (N : Night) (sound : Promised N) (some : AllHave N) where
  abbrev n : ℕ
  n = N.header.nodes

  abbrev c : Choice
  c i = get_or (chosen N) i 0

  last : n - 1 < n
  last = root_there N sound

  -- a search among a node's subjects finds one
  child_there : (k s : ℕ) → k < n → is_some (best_child N (cost_rows N) k s) ≡ true
  child_there k s l =
      let w = subject_some N sound k l (some k l) in
      found_some w.0 (child_found N sound k l s) (subject_low N sound k l w.0 w.1) w.1

  last_there : is_some (best_last N (cost_rows N)) ≡ true
  last_there =
      let w = subject_some N sound (n - 1) last (some (n - 1) last) in
      found_some w.0 (last_found N) (subject_low N sound (n - 1) last w.0 w.1) w.1

  last_chosen : c (n - 1) ≡ lowest_of (best_last N (cost_rows N))
  last_chosen = (chosen_follows N sound).last

  child_chosen : (i k : ℕ) → i < n → is_child (node_of N i) k ≡ true → c k ≡ lowest_of (best_child N (cost_rows N) k (c i))
  child_chosen i k l e = (chosen_follows N sound).given i k (omega arith) l e

  -- every subject is one of its node's
  chosen_in : (k : ℕ) → k < n → In (c k) (subjects_of N k)
  chosen_in k l = ⊎_elim at_last under (eq-or-lt_of_le l)
    where
      at_last : suc k ≡ n → In (c k) (subjects_of N k)
      at_last e =
          let q : k ≡ n - 1 = omega arith in
          rw (q, last_chosen) ((last_found N).there last_there)

      under : suc k < n → In (c k) (subjects_of N k)
      under h =
          let w = sound.parent k (omega arith) in
          rw (child_chosen w.0 k w.1 w.2) ((child_found N sound k l (c w.0)).there (child_there k (c w.0) l))

  chosen_admissible : Admissible N c
  chosen_admissible =
      record {
        leaf = λ i l e. subject_leaf N sound i l (c i) e (chosen_in i l);
        step = λ i l e. subject_step N sound i l (c i) e (chosen_in i l);
      }

  -- each child is the least
  child_exact : (i k : ℕ) → i < n → is_child (node_of N i) k ≡ true → least_child N k (c i) ≡ child_at N sound c chosen_in i k
  unfolding least_child child_at entry_at handed
  child_exact i k l e =
      let h : k < n = omega (arith, child_lower N sound i k l e) in
      rw (child_chosen i k l e) (sym ((child_found N sound k h (c i)).cost (child_there k (c i) h)))

  -- the last node's least cost is the total
  pub chosen_total : total N (λ i. get_or (chosen N) i 0) ≡ least_of (best_last N (cost_rows N))
  unfolding entry_at
  chosen_total =
      let e : cost_of N (n - 1) (c (n - 1)) + 0 * link_price N (c (n - 1)) 0 ≡ least_of (best_last N (cost_rows N)) = rw last_chosen ((last_found N).cost last_there) in
      omega (arith, last_is N sound c chosen_in child_exact)

  module _ (d : Choice) (A : Admissible N d) where
    d_in : (i : ℕ) → i < n → In (d i) (subjects_of N i)
    d_in i l = subject_in N sound i l d A

    chosen_cheapest : total N c ≤ total N d
    unfolding entry_at
    chosen_cheapest =
        omega (arith, chosen_total, last_le N sound d d_in, (last_found N).cheapest (d (n - 1)) (subject_low N sound (n - 1) last (d (n - 1)) (d_in (n - 1) last)) (d_in (n - 1) last))

    chosen_earliest : total N d ≡ total N c → Earlier n d c → ⊥
    unfolding entry_at child_at least_child handed
    chosen_earliest e E = ⊎_elim at_last under (eq-or-lt_of_le E.there)
      where
        p : ℕ
        p = E.node

        at_last : suc p ≡ n → ⊥
        at_last q =
            let z : p ≡ n - 1 = omega arith in
            let s : d (n - 1) < c (n - 1) = rw z at E.smaller in
            omega (
              arith,
              chosen_total,
              last_le N sound d d_in,
              (last_found N).low (d (n - 1)) (subject_low N sound (n - 1) last (d (n - 1)) (d_in (n - 1) last)) (d_in (n - 1) last) (rw last_chosen at s),
            )

        under : suc p < n → ⊥
        under q =
            let w = sound.parent p (omega arith) in
            let above : p < w.0 = child_lower N sound w.0 p w.1 w.2 in
            let same : d w.0 ≡ c w.0 = E.same_after w.0 above w.1 in
            let top : d (n - 1) ≡ c (n - 1) = E.same_after (n - 1) (omega arith) last in
            let tight : total N d ≤ cost_of N (n - 1) (d (n - 1)) = rw top (omega (arith, last_is N sound c chosen_in child_exact)) in
            omega (
              arith,
              rw same at (child_tight N sound d d_in w.0 p w.1 w.2 tight),
              (child_found N sound p E.there (c w.0)).low (d p) (subject_low N sound p E.there (d p) (d_in p E.there)) (d_in p E.there)
                  (rw (child_chosen w.0 p w.1 w.2) at E.smaller),
            )

-- what is worked out is the cheapest choice
pub dp_least : (N : Night) → Promised N → AllHave N → Least N (λ i. get_or (chosen N) i 0)
dp_least N sound some =
    record {
      admissible = chosen_admissible N sound some;
      cheapest = chosen_cheapest N sound some;
      earliest = chosen_earliest N sound some;
    }

pub least_there : LeastThere
least_there N sound some = (λ i. get_or (chosen N) i 0, dp_least N sound some)
