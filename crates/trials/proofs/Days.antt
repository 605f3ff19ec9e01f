-- Versions without days, and files that differ in days alone.
use Prim.Native.Nat.{ℕ}
use mathlib.Core.Path.{◌≡◌, refl, ap}
use mathlib.Core.Bool.{Bool}
use mathlib.Core.List.{[], ◌∷◌, ◌++◌}
use native.Mathlib.Omega.{arith}
use lib.Dec.{ltb}
use Rattle.std.specs.Prelude.{if◌then◌else◌}
use Rattle.laws.specs.First.{somewhere}
use Rattle.laws.specs.Trials.{trial, rows}
use Rattle.laws.proofs.First.{first_same}
use Rattle.laws.proofs.Upwards.{each_at}
use Rattle.night.specs.Versions.{last_kind}
use Rattle.night.specs.Night.{Night, no_grant, relation_of, grant_of, node_of, pair_of, step_price, link_price}
use Rattle.night.specs.Kinds.{taken, visibles, visible_step, reads, read_together, pairs_read, its_pair}
use Rattle.night.specs.Views.{is_for, is_for_on}
use Rattle.night.specs.Days.{in_version, ButDays}
use Rattle.night.proofs.Days.{view_same, always_for}
use Rattle.format.specs.Layout.{header_of, grant_at, night_in}
use Rattle.trials.specs.Rules.{owner_bad, shape_bad, pair_bad, pairs_bad, needed_bad, grant_bad, relation_bad, leaf_bad, names_bad, left_over, subject_there}
use Rattle.trials.specs.Trials.{taken_before, pair_seen, leaf_before, attributes_bad, price_in, most_in, count_in, trials_of, section, left_trials, record_trials, tree_trials}
use Rattle.trials.specs.declared.Section.TheVariants.{Relations, Grants, Owners, Nodes, Parents, Prices}
use Rattle.trials.specs.Days.{OlderAlways, OlderPairs, AlwaysRead}

pub older_always : OlderAlways
unfolding header_of night_in grant_at grant_of
older_always s e =
    (λ j l. rw (each_at _ no_grant j (header_of s).grants l, e) (refl, refl), rw e refl)

pub older_pairs : OlderPairs
unfolding pair_seen somewhere
older_pairs N always i l = (
  rw ((always i l).0, (always i l).1) refl,
  ap (λ (k : ℕ). ltb k i)
      (first_same (λ j. is_for_on (grant_of N j) (grant_of N i).relation (grant_of N i).subject (grant_of N i).first (grant_of N i).last)
      (λ j. is_for (grant_of N j) (grant_of N i).relation (grant_of N i).subject) i
      (λ j k. always_for (grant_of N j) _ _ _ _ (always j (omega arith)) (rw (always i l).0 (omega arith)))),
)

module _ (N : Night) (version day : ℕ) (but : ButDays N version day) where
  abbrev M : Night
  M = in_version N version day

  -- relations, attributes left over, and grants are the same; owners see the same
  relations_same : section N Relations ≡ section M Relations
  unfolding section count_in trials_of relation_bad taken_before relation_of in_version
  relations_same = refl

  grants_same : section N Grants ≡ section M Grants
  unfolding section count_in trials_of grant_bad subject_there pair_seen relation_of grant_of in_version
  grants_same = refl

  owners_same : section N Owners ≡ section M Owners
  unfolding section count_in trials_of relation_of in_version
  owners_same =
      λ d. rows N.header.relations (λ i. trial (owner_bad (relation_of N i) (view_same N version day but (relation_of N i).owner i d).clear) 7 i ∷ [])

  records_same : record_trials N ≡ record_trials M
  unfolding record_trials left_over taken_before relation_of in_version
  records_same = λ d. relations_same d ++ (left_trials N ++ (grants_same d ++ owners_same d))

  -- the last kind is the same, and nodes, parents and prices are
  kinds_same : last_kind N.header.version ≡ last_kind version
  unfolding last_kind
  kinds_same = λ d. if but.pairing d then 9 else 8

  shape_same : (i : ℕ) (a b : Bool) → shape_bad N.header (node_of N i) i a b ≡ shape_bad M.header (node_of M i) i a b
  unfolding shape_bad names_bad node_of in_version
  shape_same i a b = rw kinds_same refl

  nodes_same : section N Nodes ≡ section M Nodes
  unfolding section count_in trials_of taken attributes_bad leaf_bad leaf_before pairs_bad pair_bad needed_bad reads read_together pairs_read its_pair pair_of visibles visible_step relation_of node_of in_version
  nodes_same =
      λ d.
      rows N.header.nodes (λ i.
      trial (shape_same i (taken N i (node_of N i).left) (taken N i (node_of N i).right) d) 8 i
      ∷ trial (attributes_bad N i) 9 i
      ∷ trial (needed_bad N (node_of N i)) 10 i
      ∷ [])

  parents_same : section N Parents ≡ section M Parents
  unfolding section count_in trials_of taken node_of in_version
  parents_same = refl

  prices_same : section N Prices ≡ section M Prices
  unfolding section count_in trials_of price_in most_in step_price link_price node_of in_version
  prices_same = refl

  tree_same : tree_trials N ≡ tree_trials M
  unfolding tree_trials
  tree_same = λ d. nodes_same d ++ (parents_same d ++ prices_same d)

pub always_read : AlwaysRead
always_read N version day but = (records_same N version day but, tree_same N version day but)
