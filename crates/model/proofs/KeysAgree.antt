-- The keys by the root's tied sets are the run's, since every node is under the root.
use Prim.Native.Nat.{ℕ, ◌-◌, ◌<◌}
use mathlib.Core.Path.{◌≡◌, refl}
use mathlib.Core.List.{List}
use mathlib.Core.Logic.{inl, inr, ⊎_elim, ◌↔◌}
use native.Mathlib.Omega.{arith}
use Rattle.sets.specs.Sets.{union}
use Rattle.sets.proofs.Members.{same_members, in_union}
use Rattle.night.specs.Night.{Night}
use Rattle.night.specs.Kinds.{attribute}
use Rattle.night.specs.Promised.{Promised}
use Rattle.model.specs.Ties.{Classes}
use Rattle.model.specs.Tables.{table_of, TiedAt, here, under_left, under_right}
use Rattle.run.specs.Keys.{Event, group_of, key_name, key_holders}
use Rattle.model.specs.Plan.{root_tied, name_in, holders_in}
use Rattle.run.specs.Run.{Tied, reached, key_of, holders, result_of}
use Rattle.model.specs.Demand.{KeysAgree, ReachedMeaning}
use Rattle.model.proofs.Chains.{chain_map}
use Rattle.model.proofs.Meaning.{tied_meaning}
use Rattle.model.proofs.PastLaws.{past_tied}
use Rattle.model.proofs.Parents.{root_there}
use Rattle.model.proofs.Reached.{TiedBelow, reached_exactly}
use Rattle.model.proofs.Under.{under_tied, all_under}

module _ (N : Night) (sound : Promised N) where
  abbrev n : ℕ
  n = N.header.nodes

  -- what is tied under a node is tied by a node
  tied_somewhere : {i m : ℕ} → i < n → TiedAt N i m → TiedBelow N n m
  tied_somewhere {i} l (here h) = (i, l, h)
  tied_somewhere {i} l (under_left u h) = tied_somewhere (omega (arith, (sound.node i l).left_lower u)) h
  tied_somewhere {i} l (under_right u h) = tied_somewhere (omega (arith, (sound.node i l).right_lower u)) h

  last : n - 1 < n
  last = root_there N sound

  root_ties : (m : ℕ) → TiedAt N (n - 1) m ↔ TiedBelow N n m
  root_ties m = (tied_somewhere last, λ w. under_tied (all_under N sound w.0 w.1) (here w.2))

  -- the root's tied set of an attribute is what the run reaches from it, with the attribute itself
  same_reached : (k : ℕ) → union (attribute k) (root_tied N k) ≡ union (attribute k) (reached N k)
  unfolding root_tied
  same_reached k =
      same_members (union (attribute k) (root_tied N k)) (union (attribute k) (reached N k))
      (λ j h.
      (in_union (attribute k) (reached N k) j).1
      (⊎_elim inl (λ q. inr ((reached_exactly N sound k j).1 (inr (chain_map (λ m. (root_ties m).0) (classes.linked k j q))))) ((in_union (attribute k) (root_tied N k) j).0 h)))
      (λ j h.
      (in_union (attribute k) (root_tied N k) j).1
      (⊎_elim inl (λ q. ⊎_elim inl (λ c. inr (classes.held k j (chain_map (λ m. (root_ties m).1) c))) ((reached_exactly N sound k j).0 q)) ((in_union (attribute k) (reached N k) j).0 h)))
    where
      classes : Classes (TiedAt N (n - 1)) (table_of N (n - 1)).tied
      classes = tied_meaning N sound (n - 1) last

  same_group : (es : List Event) (k : ℕ) → group_of (root_tied N) es k ≡ group_of (reached N) es k
  unfolding group_of
  same_group es k = rw (same_reached k) refl

pub keys_agree : KeysAgree
unfolding name_in holders_in key_of holders key_name key_holders
keys_agree N sound p k = (rw (same_group N sound _ k) refl, rw (same_group N sound _ k) refl)

-- what the run reaches from an attribute is what chains of the ties in the root's past link with it
pub reached_past : ReachedMeaning
reached_past N sound p k j = (
  λ h. ⊎_elim inl (λ q. inr (chain_map (λ m w. (past m).1 ((root_ties N sound m).1 w)) q)) ((reached_exactly N sound k j).0 h),
  λ h. (reached_exactly N sound k j).1 (⊎_elim inl (λ q. inr (chain_map (λ m w. (root_ties N sound m).0 ((past m).0 w)) q)) h),
)
  where
    past : (m : ℕ) → Tied N (result_of N p (N.header.nodes - 1)).past m ↔ TiedAt N (N.header.nodes - 1) m
    past m = past_tied N p sound (N.header.nodes - 1) m (last N sound)
