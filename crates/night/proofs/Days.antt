-- The same night on another day, and what a view on a day rests on.
use Prim.Native.Nat.{ℕ, ◌<◌}
use mathlib.Core.Path.{◌≡◌, refl, sym, ap, ◌∙◌}
use mathlib.Core.Bool.{Bool, true, false}
use mathlib.Core.Logic.{◌⊎◌, inl, inr}
use native.Mathlib.Omega.{arith}
use lib.Dec.{ltb}
use borrow.Author.Tests.{ltb-true}
use Rattle.std.specs.Prelude.{if◌then◌else◌}
use Rattle.laws.specs.First.{first}
use Rattle.laws.proofs.Cases.{last_is, clash}
use Rattle.laws.proofs.First.{first_same, first_holds}
use Rattle.sets.specs.Sets.{unions}
use Rattle.night.specs.declared.Grant.{Grant}
use Rattle.night.specs.declared.View.{View}
use Rattle.night.specs.Night.{Night, relation_of, grant_of, node_of, pair_of, step_price, link_price}
use Rattle.night.specs.Kinds.{reads, read_together, pairs_read, its_pair, visibles, visible_step}
use Rattle.night.specs.Views.{any_subject, is_for, in_force, is_for_on, grant_on, seen_by, view_on, view_of, clear_on, clear_of, sealed_on, sealed_of}
use Rattle.night.specs.Promised.{Promised, SoundCounts, SoundRelation, SoundGrant, SoundNode}
use Rattle.night.specs.Days.{in_version, on_day, Itself, SeenThen, AnyDay, OnlyInForce, AlwaysFirst, AlwaysSame, ButDays}
use Rattle.night.proofs.Views.{shares-day}

pub itself : Itself
unfolding in_version
itself N = refl

pub seen_then : SeenThen
unfolding in_version view_on clear_on sealed_on grant_on grant_of
seen_then N day p = (λ r. refl, refl, refl)

-- every fact is the same fact, since none looks at the day
module _ (N : Night) (sound : Promised N) (day : ℕ) where
  counts_then : SoundCounts (on_day N day)
  unfolding in_version
  counts_then =
      record {
        subjects_some = sound.counts.subjects_some;
        subjects_most = sound.counts.subjects_most;
        relations_some = sound.counts.relations_some;
        relations_most = sound.counts.relations_most;
        attributes_some = sound.counts.attributes_some;
        attributes_most = sound.counts.attributes_most;
        nodes_some = sound.counts.nodes_some;
        nodes_most = sound.counts.nodes_most;
        grants_some = sound.counts.grants_some;
        grants_most = sound.counts.grants_most;
        user_there = sound.counts.user_there;
      }

  relation_then : (i : ℕ) → i < N.header.relations → SoundRelation (on_day N day) i
  unfolding in_version relation_of
  relation_then i l =
      let v = sound.relation i l in
      record {
        owner_there = v.owner_there;
        some = v.some;
        below_a = v.below_a;
        apart_before = v.apart_before;
      }

  grant_then : (i : ℕ) → i < N.header.grants → SoundGrant (on_day N day) i
  unfolding in_version relation_of grant_of
  grant_then i l =
      let v = sound.grant i l in
      record {
        relation_there = v.relation_there;
        subject-there = v.subject-there;
        sets_apart = v.sets_apart;
        clear_within = v.clear_within;
        sealed_within = v.sealed_within;
        once = v.once;
      }

  node_then : (i : ℕ) → i < N.header.nodes → SoundNode (on_day N day) i
  unfolding in_version relation_of node_of pair_of its_pair reads read_together pairs_read visibles visible_step
  node_then i l =
      let v = sound.node i l in
      record {
        left_lower = v.left_lower;
        right_lower = v.right_lower;
        children_differ = v.children_differ;
        children_once = v.children_once;
        size_most = v.size_most;
        leaf_relation = v.leaf_relation;
        leaf_within = v.leaf_within;
        leaf_once = v.leaf_once;
        set_some = v.set_some;
        x_visible = v.x_visible;
        y_visible_left = v.y_visible_left;
        y_visible_right = v.y_visible_right;
        set_visible = v.set_visible;
        x_outside = v.x_outside;
        x_inside = v.x_inside;
        pair_visible_left = v.pair_visible_left;
        pair_visible_right = v.pair_visible_right;
        needed_read = v.needed_read;
        needed_together = v.needed_together;
      }

pub any_day : AnyDay
unfolding in_version relation_of node_of step_price link_price
any_day N sound day =
    record {
      counts = counts_then N sound day;
      relation = relation_then N sound day;
      relations_all = sound.relations_all;
      grant = grant_then N sound day;
      node = node_then N sound day;
      parent = sound.parent;
      step-price = sound.step-price;
      leaf_price = sound.leaf_price;
      link-price = sound.link-price;
      link_self = sound.link_self;
    }

-- a grant that is always in force is for a pair on some of the days exactly when it is for the pair
pub always_for : (g : Grant) (r p from to : ℕ) → (g.first ≡ 0) × (g.last ≡ 65535) → from < 65536 → is_for_on g r p from to ≡ is_for g r p
unfolding is_for_on
always_for g r p from to (a, b) low = rw (shares-day g from to (rw a (omega arith)) (rw b (omega (arith, low)))) (sym (last_is (is_for g r p) (is_for g r p) refl))

pub always_first : AlwaysFirst
unfolding grant_on
always_first N always day r p low =
    first_same (λ j. is_for_on (grant_of N j) r p day day) (λ j. is_for (grant_of N j) r p) N.header.grants (λ j l. always_for (grant_of N j) r p day day (always j l) low)

pub always_same : AlwaysSame
unfolding view_on
always_same N always day other p r l k =
    let same : (q : ℕ) → grant_on N day r q ≡ grant_on N other r q = λ q. always_first N always day r q l ∙ sym (always_first N always other r q k) in
    rw (same p, same any_subject) refl

-- so all see the same
module _ (N : Night) (version day : ℕ) (but : ButDays N version day) where
  pub view_same : (p r : ℕ) → view_of N p r ≡ view_of (in_version N version day) p r
  unfolding in_version view_on grant_on grant_of
  view_same p r = always_same N but.always N.header.day day p r but.its_day but.that_day

  pub clear_same : (p : ℕ) → clear_of N p ≡ clear_of (in_version N version day) p
  unfolding clear_on in_version
  clear_same p = λ d. unions (λ r. (view_same p r d).clear) N.header.relations

  pub sealed_same : (p : ℕ) → sealed_of N p ≡ sealed_of (in_version N version day) p
  unfolding sealed_on in_version
  sealed_same p = λ d. unions (λ r. (view_same p r d).sealed) N.header.relations

-- a grant that is for a pair on the day is in force
on_force : (g : Grant) (r q day : ℕ) → is_for_on g r q day day ≡ true → in_force g day ≡ true
unfolding is_for_on
on_force g r q day e = go (is_for g r q) e
  where
    go : (b : Bool) → (if b then in_force g day else false) ≡ true → in_force g day ≡ true
    go true e = e
    go false e = absurd (clash (sym e))

module _ (N M : Night) (day r : ℕ) (count : N.header.grants ≡ M.header.grants)
    (agree : (j : ℕ) → j < N.header.grants → (in_force (grant_of N j) day ≡ true) ⊎ (in_force (grant_of M j) day ≡ true) → grant_of N j ≡ grant_of M j) where
  -- each grant is for a pair on the day in both nights, or in neither
  alike : (q j : ℕ) → j < N.header.grants → is_for_on (grant_of N j) r q day day ≡ is_for_on (grant_of M j) r q day day
  alike q j l = go (is_for_on (grant_of N j) r q day day) (is_for_on (grant_of M j) r q day day) refl refl
    where
      go : (x y : Bool) → is_for_on (grant_of N j) r q day day ≡ x → is_for_on (grant_of M j) r q day day ≡ y
          → is_for_on (grant_of N j) r q day day ≡ is_for_on (grant_of M j) r q day day
      go true y e f = ap (λ (g : Grant). is_for_on g r q day day) (agree j l (inl (on_force (grant_of N j) r q day e)))
      go false true e f = ap (λ (g : Grant). is_for_on g r q day day) (agree j l (inr (on_force (grant_of M j) r q day f)))
      go false false e f = e ∙ sym f

  found_same : (q : ℕ) → grant_on N day r q ≡ grant_on M day r q
  unfolding grant_on
  found_same q =
      first_same (λ j. is_for_on (grant_of N j) r q day day) (λ j. is_for_on (grant_of M j) r q day day) N.header.grants (alike q)
      ∙ ap (first (λ j. is_for_on (grant_of M j) r q day day)) count

  -- and what it lets see is the same
  seen_same : (q : ℕ) (v w : View) → v ≡ w
      → (if ltb (grant_on N day r q) N.header.grants then seen_by (grant_of N (grant_on N day r q)) else v)
      ≡ (if ltb (grant_on M day r q) M.header.grants then seen_by (grant_of M (grant_on M day r q)) else w)
  unfolding grant_on grant_of
  seen_same q v w same = rw (← found_same q, ← count) (go (ltb (grant_on N day r q) N.header.grants) refl)
    where
      go : (b : Bool) → ltb (grant_on N day r q) N.header.grants ≡ b
          → (if b then seen_by (grant_of N (grant_on N day r q)) else v) ≡ (if b then seen_by (grant_of M (grant_on N day r q)) else w)
      go true e =
          ap seen_by (agree (grant_on N day r q) (ltb-true _ _ e) (inl (on_force (grant_of N (grant_on N day r q)) r q day
          (first_holds (λ j. is_for_on (grant_of N j) r q day day) N.header.grants (ltb-true _ _ e)))))
      go false e = same

pub only_in_force : OnlyInForce
unfolding view_on
only_in_force N M day p r count agree = seen_same N M day r count agree p _ _ (seen_same N M day r count agree any_subject _ _ refl)
