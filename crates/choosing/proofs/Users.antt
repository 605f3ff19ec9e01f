-- What both choices begin with, from what the code finds: 17 is asked of leaves alone, and there condition 1 alone can fail.
use Prim.Native.Nat.{ℕ, ◌<◌}
use mathlib.Core.Path.{◌≡◌, refl, sym, ◌∙◌}
use mathlib.Core.Bool.{Bool, true, false, not}
use mathlib.Core.List.{List}
use native.Mathlib.Omega.{arith}
use lib.Dec.{eqb}
use lib.ListN.{get_or}
use borrow.Author.Tests.{eqb-true}
use Rattle.std.specs.Prelude.{if◌then◌else◌}
use Rattle.laws.specs.First.{first}
use Rattle.laws.specs.Trials.{answers, refuses, verdict}
use Rattle.laws.specs.Upwards.{each}
use Rattle.laws.proofs.First.{first_none, first_more, first_same, first_below, first_found}
use Rattle.laws.proofs.Upwards.{each_at}
use Rattle.laws.proofs.Trials.{rows_pass, rows_stop}
use Rattle.sets.specs.Sets.{Within, within}
use Rattle.sets.proofs.Members.{within_exactly, in_none}
use Rattle.night.specs.declared.Node.{Node}
use Rattle.night.specs.Versions.{delivers}
use Rattle.night.specs.Night.{Night, node_of}
use Rattle.night.specs.Promised.{Promised}
use Rattle.night.specs.Views.{clear_of, sealed_of}
use Rattle.model.specs.Tables.{leaf_table, table_of}
use Rattle.model.specs.Candidates.{May, may}
use Rattle.model.proofs.Chains.{unlinked, untied_classes}
use Rattle.model.proofs.May.{may_exactly}
use Rattle.model.proofs.Sees.{may_sees, sees_may}
use Rattle.model.proofs.TableLaws.{table_leaf}
use Rattle.verdicts.specs.Refusals.{kept_from_user, user_trials}
use Rattle.choosing.specs.Kept.{kept_back}

-- a leaf's table may be had just where its set is seen in clear
leaf_may : (v : Node) (P E : ℕ) → Within v.set P → May (leaf_table v) P E
unfolding leaf_table
leaf_may v P E h =
    sees_may (leaf_table v) P E
    (record {
      clear = h;
      tested = λ a q. absurd (in_none a q);
      sealed = λ a q. absurd (in_none a q);
      hidden = λ a q. absurd (in_none a q);
      tied = λ a b c l q r out off. unlinked (untied_classes.linked a b q);
    })

may_within : (v : Node) (P E : ℕ) → may (leaf_table v) P E ≡ within v.set P
unfolding leaf_table
may_within v P E = go (may (leaf_table v) P E) (within v.set P) refl refl
  where
    go : (a b : Bool) → may (leaf_table v) P E ≡ a → within v.set P ≡ b → a ≡ b
    go true b e q = sym ((within_exactly v.set P).1 (may_sees (leaf_table v) P E ((may_exactly (leaf_table v) P E).0 e)).clear) ∙ q
    go false true e q = sym e ∙ (may_exactly (leaf_table v) P E).1 (leaf_may v P E ((within_exactly v.set P).0 q))
    go false false e q = refl

-- so 17 asks of each node what the code asks
module _ (N : Night) (d : delivers N.header.version ≡ true) where
  kept_asked : (i : ℕ) → i < N.header.nodes → kept_from_user N i ≡ kept_back (node_of N i) (clear_of N N.header.user)
  unfolding kept_from_user kept_back
  kept_asked i l = rw d (go (eqb (node_of N i).kind 0) refl)
    where
      go : (b : Bool) → eqb (node_of N i).kind 0 ≡ b
          → (if b then not (may (table_of N i) (clear_of N N.header.user) (sealed_of N N.header.user)) else false) ≡ (if b then not (within (node_of N i).set (clear_of N N.header.user)) else false)
      go true e = rw (table_leaf N i l (eqb-true _ 0 e), may_within (node_of N i) (clear_of N N.header.user) (sealed_of N N.header.user)) refl
      go false e = refl

  kept_first : first (kept_from_user N) N.header.nodes ≡ first (λ i. kept_back (node_of N i) (clear_of N N.header.user)) N.header.nodes
  kept_first = first_same _ _ N.header.nodes kept_asked

-- the trials of 17: nobody asked; a leaf is kept from the user; none is
module _ (N : Night) where
  pub user_none : delivers N.header.version ≡ false → verdict (user_trials N) (tt {0}) ≡ answers tt
  unfolding user_trials kept_from_user
  user_none d = rows_pass (kept_from_user N) 17 N.header.nodes (λ i l. rw d refl)

  module _ (d : delivers N.header.version ≡ true) where
    abbrev pub back : ℕ → Bool
    back i = kept_back (node_of N i) (clear_of N N.header.user)

    pub user_refused : (i : ℕ) → first back i ≡ i → back i ≡ true → i < N.header.nodes → verdict (user_trials N) (tt {0}) ≡ refuses 17 i
    unfolding user_trials
    user_refused i none here l =
        let found : first (kept_from_user N) N.header.nodes ≡ i = kept_first N d ∙ first_found back i N.header.nodes none here l in
        rw found at (rows_stop (kept_from_user N) 17 N.header.nodes (rw found l))

    pub user_passes : first back N.header.nodes ≡ N.header.nodes → verdict (user_trials N) (tt {0}) ≡ answers tt
    unfolding user_trials
    user_passes none = rows_pass (kept_from_user N) 17 N.header.nodes (λ i q. first_below (kept_from_user N) N.header.nodes i (omega (arith, kept_first N d)))

    -- what the user sees, where the code holds what everyone sees
    pub user_sees : Promised N → (clear : List ℕ) → clear ≡ each 16 (clear_of N) → get_or clear N.header.user 0 ≡ clear_of N N.header.user
    user_sees sound clear seen = rw seen (each_at (clear_of N) 0 N.header.user 16 (omega (arith, sound.counts.user_there d, sound.counts.subjects_most)))

-- for `search`: how a loop over the leaves begins and goes on
pub ruleset user_loop = (first_none, first_more, user_none)
