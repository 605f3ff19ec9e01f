-- The subjects given from the last node down: the last node has the lowest of its cheapest, and each child the lowest of those for its parent's subject.
use Prim.Native.Nat.{ℕ, zero, suc, ◌+◌, ◌-◌, ◌<◌, ◌≤◌}
use mathlib.Core.Path.{◌≡◌, refl, sym, ◌∙◌}
use mathlib.Core.Bool.{Bool, true, false}
use mathlib.Core.List.{List}
use mathlib.Core.Logic.{⊎_elim}
use native.Mathlib.Nat.{eq-or-lt_of_le}
use native.Mathlib.Numerals.{add-one}
use native.Mathlib.Omega.{arith}
use lib.ListN.{length, get_or, set, replicate, length-set, length-replicate}
use lib.Seq.{get_or-set_same, get_or-set_other}
use Rattle.laws.proofs.Cases.{clash}
use Rattle.std.specs.Prelude.{if◌then◌else◌}
use Rattle.night.specs.declared.Node.{Node}
use Rattle.night.specs.Night.{Night, node_of}
use Rattle.night.specs.Kinds.{uses_left, uses_right, is_child}
use Rattle.night.specs.Promised.{Promised}
use Rattle.night.proofs.Children.{is-child}
use Rattle.model.specs.Dp.{lowest_of, best_child, cost_rows, give_child, give_left, give_both, give_down, best_last, chosen_last, chosen}
use Rattle.model.proofs.Lowest.{not_holds}
use Rattle.model.proofs.Parents.{child_left, child_right, child_lower, one_parent}

-- a loop from the last node down
pub down_none : (N : Night) (rows : List (List ℕ)) (c : List ℕ) → give_down N rows 0 c ≡ c
unfolding give_down
down_none N rows c = refl

pub down_more : (N : Night) (rows : List (List ℕ)) (i : ℕ) (c : List ℕ) → give_down N rows (i + 1) c ≡ give_down N rows i (give_both N rows i c)
unfolding give_down
down_more N rows i c = rw add-one refl

-- what is no child differs from the operands that are used
not_left : (v : Node) (j : ℕ) → is_child v j ≡ false → uses_left v.kind ≡ true → j ≡ v.left → ⊥
not_left v j e u q = clash (sym (child_left v u) ∙ rw q at e)

not_right : (v : Node) (j : ℕ) → is_child v j ≡ false → uses_right v.kind ≡ true → j ≡ v.right → ⊥
not_right v j e u q = clash (sym (child_right v u) ∙ rw q at e)

module _ (N : Night) (sound : Promised N) (rows : List (List ℕ)) where
  abbrev n : ℕ
  n = N.header.nodes

  module _ (i : ℕ) (l : i < n) (c : List ℕ) (long : length c ≡ 64) where
    abbrev v : Node
    v = node_of N i

    left_long : length (give_left N rows i c) ≡ 64
    unfolding give_left give_child
    left_long = go (uses_left v.kind)
      where
        go : (a : Bool) → length (if a then set c v.left (lowest_of (best_child N rows v.left (get_or c i 0))) else c) ≡ 64
        go true = length-set c _ _ ∙ long
        go false = long

    both_long : length (give_both N rows i c) ≡ 64
    unfolding give_both give_child
    both_long = go (uses_right v.kind)
      where
        go : (b : Bool)
            → length (if b then set (give_left N rows i c) v.right (lowest_of (best_child N rows v.right (get_or (give_left N rows i c) i 0))) else give_left N rows i c) ≡ 64
        go true = length-set (give_left N rows i c) _ _ ∙ left_long
        go false = left_long

    -- nothing else changes
    left_other : (j : ℕ) → (uses_left v.kind ≡ true → j ≡ v.left → ⊥) → get_or (give_left N rows i c) j 0 ≡ get_or c j 0
    unfolding give_left give_child
    left_other j h = go (uses_left v.kind) h
      where
        go : (a : Bool) → (a ≡ true → j ≡ v.left → ⊥) → get_or (if a then set c v.left (lowest_of (best_child N rows v.left (get_or c i 0))) else c) j 0 ≡ get_or c j 0
        go true h = get_or-set_other c v.left j _ 0 (h refl)
        go false h = refl

    both_other : (j : ℕ) → (uses_left v.kind ≡ true → j ≡ v.left → ⊥) → (uses_right v.kind ≡ true → j ≡ v.right → ⊥)
        → get_or (give_both N rows i c) j 0 ≡ get_or c j 0
    unfolding give_both give_child
    both_other j p q = go (uses_right v.kind) q ∙ left_other j p
      where
        go : (b : Bool) → (b ≡ true → j ≡ v.right → ⊥)
            → get_or (if b then set (give_left N rows i c) v.right (lowest_of (best_child N rows v.right (get_or (give_left N rows i c) i 0))) else give_left N rows i c) j 0
            ≡ get_or (give_left N rows i c) j 0
        go true h = get_or-set_other (give_left N rows i c) v.right j _ 0 (h refl)
        go false h = refl

    not_given : (j : ℕ) → is_child v j ≡ false → get_or (give_both N rows i c) j 0 ≡ get_or c j 0
    not_given j e = both_other j (not_left v j e) (not_right v j e)

    -- each child gets its subject
    left_given : uses_left v.kind ≡ true → get_or (give_both N rows i c) v.left 0 ≡ lowest_of (best_child N rows v.left (get_or c i 0))
    unfolding give_both give_left give_child
    left_given u = rw u (go (uses_right v.kind) (λ r e. (sound.node i l).children_differ r (sym e)))
      where
        h : v.left < length c
        h = omega (arith, (sound.node i l).left_lower u, sound.counts.nodes_most)

        given : List ℕ
        given = set c v.left (lowest_of (best_child N rows v.left (get_or c i 0)))

        here : get_or given v.left 0 ≡ lowest_of (best_child N rows v.left (get_or c i 0))
        here = get_or-set_same c v.left _ 0 h

        go : (b : Bool) → (b ≡ true → v.left ≡ v.right → ⊥)
            → get_or (if b then set given v.right (lowest_of (best_child N rows v.right (get_or given i 0))) else given) v.left 0
            ≡ lowest_of (best_child N rows v.left (get_or c i 0))
        go true d = get_or-set_other given v.right v.left _ 0 (d refl) ∙ here
        go false d = here

    right_given : uses_right v.kind ≡ true → get_or (give_both N rows i c) v.right 0 ≡ lowest_of (best_child N rows v.right (get_or c i 0))
    unfolding give_both give_child
    right_given u =
        rw u
        (get_or-set_same (give_left N rows i c) v.right _ 0 (omega (arith, left_long, (sound.node i l).right_lower u, sound.counts.nodes_most))
        ∙ rw (left_other i (λ w e. omega (arith, (sound.node i l).left_lower w))) refl)

    both_given : (k : ℕ) → is_child v k ≡ true → get_or (give_both N rows i c) k 0 ≡ lowest_of (best_child N rows k (get_or c i 0))
    both_given k e = ⊎_elim (λ w. rw w.1 at (left_given w.0)) (λ w. rw w.1 at (right_given w.0)) (is-child v k e)

  -- the nodes from m on have given their children's subjects
  pub record Follows (m : ℕ) (c : List ℕ) : Type 0 where
    pub long : length c ≡ 64
    pub last : get_or c (N.header.nodes - 1) 0 ≡ lowest_of (best_last N rows)
    pub given : (j k : ℕ) → m ≤ j → j < N.header.nodes → is_child (node_of N j) k ≡ true → get_or c k 0 ≡ lowest_of (best_child N rows k (get_or c j 0))

  follow_step : (i : ℕ) (c : List ℕ) → i < n → Follows (suc i) c → Follows i (give_both N rows i c)
  follow_step i c l F =
      record {
        long = both_long i l c F.long;
        last = kept (n - 1) (omega arith) (omega arith) ∙ F.last;
        given = λ j k h g e. ⊎_elim (λ q. here j k q e) (λ q. later j k q g e) (eq-or-lt_of_le h);
      }
    where
      -- what is not lower is no child
      kept : (j : ℕ) → i ≤ j → j < n → get_or (give_both N rows i c) j 0 ≡ get_or c j 0
      kept j h g = not_given i l c F.long j (not_holds (is_child (node_of N i) j) (λ e. omega (arith, child_lower N sound i j l e)))

      here : (j k : ℕ) → i ≡ j → is_child (node_of N j) k ≡ true → get_or (give_both N rows i c) k 0 ≡ lowest_of (best_child N rows k (get_or (give_both N rows i c) j 0))
      here j k q e = rw (← q) (rw (kept i (omega arith) l) (both_given i l c F.long k (rw (← q) at e)))

      later : (j k : ℕ) → i < j → j < n → is_child (node_of N j) k ≡ true → get_or (give_both N rows i c) k 0 ≡ lowest_of (best_child N rows k (get_or (give_both N rows i c) j 0))
      later j k q g e =
          rw
          (kept j (omega arith) g, not_given i l c F.long k (not_holds (is_child (node_of N i) k) (λ p. one_parent N sound i j k l g p e (λ z. omega arith))))
          (F.given j k q g e)

  follow_down : (m : ℕ) (c : List ℕ) → m ≤ n → Follows m c → Follows 0 (give_down N rows m c)
  unfolding give_down
  follow_down zero c l F = F
  follow_down (suc m) c l F = follow_down m (give_both N rows m c) (omega arith) (follow_step m c l F)

  follow_start : Follows n (chosen_last N rows)
  unfolding chosen_last
  follow_start =
      record {
        long = length-set (replicate 64 0) (n - 1) _ ∙ length-replicate {A = ℕ} 64 0;
        last = get_or-set_same (replicate 64 0) (n - 1) _ 0 (omega (arith, length-replicate {A = ℕ} 64 0, sound.counts.nodes_some, sound.counts.nodes_most));
        given = λ j k h g. absurd (omega arith);
      }

pub chosen_follows : (N : Night) (sound : Promised N) → Follows N sound (cost_rows N) 0 (chosen N)
unfolding chosen
chosen_follows N sound = follow_down N sound (cost_rows N) N.header.nodes (chosen_last N (cost_rows N)) (omega arith) (follow_start N sound (cost_rows N))
