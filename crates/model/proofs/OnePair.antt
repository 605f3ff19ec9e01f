-- A join on one pair is the join of kind 5 on its two attributes.
use Prim.Native.Nat.{ℕ, ◌<◌}
use mathlib.Core.Path.{◌≡◌, refl, sym, ap, subst, ◌∙◌}
use mathlib.Core.Bool.{Bool, true, false}
use native.Mathlib.Nat.{lt_of_not-le}
use native.Mathlib.Omega.{arith}
use lib.Dec.{eqb}
use lib.ListN.{length, get_or-eq_default}
use lib.Seq.{get_or-set_same, get_or-set_other}
use borrow.Author.Tests.{eqb-true, eqb-false}
use Rattle.laws.specs.Choose.{any_of}
use Rattle.laws.specs.Upwards.{upwards}
use Rattle.sets.specs.Sets.{union, unions}
use Rattle.night.specs.declared.Node.{Node}
use Rattle.night.specs.Night.{Night, no_node, grant_of, node_of, pair_of}
use Rattle.night.specs.Kinds.{uses_right, its_pair, both_of, pairs_read, reads, read_together, visible_after}
use Rattle.night.specs.Views.{grant_on, view_on, clear_on, sealed_on}
use Rattle.model.specs.Tables.{tests}
use Rattle.model.specs.OnePair.{as_join, joined_at, OnePair}
use Rattle.model.proofs.NightsAlike.{AlikeNodes, AlikeNights, headers_self, alike_same}

-- the node and its join, in whatever night the join is
join_alike : (N M : Night) (v : Node) → v.kind ≡ 9 → v.count ≡ 1 → AlikeNodes N M v (as_join N v)
unfolding as_join uses_right any_of upwards union unions visible_after reads pairs_read read_together its_pair both_of tests
join_alike N M v e c =
    record {
      leaf = rw e refl;
      uses-right = rw e refl;
      left = refl;
      right = refl;
      set = refl;
      needed = refl;
      shows = λ l r. rw e refl;
      read = rw (e, c) refl;
      tested = rw e refl;
      tied = rw (e, c) refl;
    }

-- a node in both nights
stays_alike : (N : Night) (i : ℕ) (v : Node) → AlikeNodes N (joined_at N i) v v
unfolding joined_at reads pairs_read read_together its_pair pair_of
stays_alike N i v =
    record { leaf = refl; uses-right = refl; left = refl; right = refl; set = refl; needed = refl; shows = λ l r. refl; read = refl; tested = refl; tied = refl }

module _ (N : Night) (i : ℕ) (e : (node_of N i).kind ≡ 9) (c : (node_of N i).count ≡ 1) where
  -- the night has a node i
  there : i < length N.nodes
  unfolding node_of
  there = lt_of_not-le (λ l. omega (arith, sym e ∙ ap (λ (v : Node). v.kind) (get_or-eq_default N.nodes no_node l)))

  -- which is joined, and the others are as they were
  joined_here : node_of (joined_at N i) i ≡ as_join N (node_of N i)
  unfolding joined_at node_of
  joined_here = get_or-set_same N.nodes i _ no_node there

  joined_other : (j : ℕ) → (j ≡ i → ⊥) → node_of (joined_at N i) j ≡ node_of N j
  unfolding joined_at node_of
  joined_other j no-i = get_or-set_other N.nodes i j _ no_node no-i

  nodes_alike : (j : ℕ) → AlikeNodes N (joined_at N i) (node_of N j) (node_of (joined_at N i) j)
  nodes_alike j = go (eqb j i) refl
    where
      go : (b : Bool) → eqb j i ≡ b → AlikeNodes N (joined_at N i) (node_of N j) (node_of (joined_at N i) j)
      go true q = rw (eqb-true j i q) (subst (λ (w : Node). AlikeNodes N (joined_at N i) (node_of N i) w) (sym joined_here) (join_alike N (joined_at N i) (node_of N i) e c))
      go false q = subst (λ (w : Node). AlikeNodes N (joined_at N i) (node_of N j) w) (sym (joined_other j (eqb-false j i q))) (stays_alike N i (node_of N j))

  nights_alike : AlikeNights N (joined_at N i)
  unfolding joined_at clear_on sealed_on view_on grant_on grant_of
  nights_alike = record { header = headers_self N.header; clears = λ q. refl; sealeds = λ q. refl; node = nodes_alike }

pub one_pair : OnePair
one_pair N i e c = alike_same N (joined_at N i) (nights_alike N i e c)
