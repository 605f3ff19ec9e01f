-- What the trials of counts, relations, grants and owners leave true where they pass.
use Prim.Native.Nat.{ℕ, zero, suc, ◌<◌, ◌≤◌}
use mathlib.Core.Path.{◌≡◌, refl, sym, ◌∙◌}
use mathlib.Core.Bool.{Bool, true, false}
use mathlib.Core.Logic.{◌⊎◌, inl, inr}
use native.Mathlib.Omega.{arith}
use lib.Dec.{eqb, ltb}
use borrow.Author.Tests.{ltb-true, ltb-false, eqb-true, eqb-false, not-false}
use Rattle.std.specs.Prelude.{if◌then◌else◌}
use Rattle.laws.specs.Choose.{any_of}
use Rattle.laws.specs.Trials.{Passes}
use Rattle.laws.proofs.Cases.{none-of}
use Rattle.laws.proofs.First.{somewhere_false}
use Rattle.laws.proofs.Trials.{passes_row}
use Rattle.sets.specs.Sets.{In, Within, below}
use Rattle.sets.proofs.Members.{within_exactly, apart_exactly, in_unions, in_none, same_members}
use Rattle.sets.proofs.Words.{in_below}
use Rattle.night.specs.declared.Header.{Header}
use Rattle.night.specs.Night.{Night, relation_of, grant_of}
use Rattle.night.specs.Views.{any_subject, shares_day, is_for_on, view_of}
use Rattle.night.proofs.Views.{is-for, no_grants}
use Rattle.night.specs.Versions.{delivers}
use Rattle.night.specs.Promised.{SoundCounts, SoundRelation, SoundGrant, OwnersSee}
use Rattle.trials.specs.Rules.{user_bad, counts_bad, relation_bad, left_over, subject_there, grant_bad, owner_bad}
use Rattle.trials.specs.Trials.{taken_before, pair_seen, count_in, trials_of, section}
use Rattle.trials.specs.declared.Section.TheVariants.{Relations, Grants, Owners}

-- a relation's own trial
pub relation_sound : (N : Night) → Passes (section N Relations) → (i : ℕ) → i < N.header.relations → SoundRelation N i
unfolding section count_in trials_of relation_bad taken_before
relation_sound N p i l =
    let v = relation_of N i in
    let q = none-of _ (passes_row (trials_of N Relations) N.header.relations i l p).0 in
    record {
      owner_there = ltb-true v.owner N.header.subjects (not-false _ q.0);
      some = eqb-false v.set 0 q.1.0;
      below_a = λ k m. ((in_below 64 N.header.attributes k).0 ((within_exactly v.set (below 64 N.header.attributes)).0 (not-false _ q.1.1.0) k m)).0;
      apart_before =
          λ j m k h g.
          (apart_exactly v.set (taken_before N i)).0 (not-false _ q.1.1.1.0) k h ((in_unions (λ j. (relation_of N j).set) i k).1 (j, m, g));
    }

-- its owner's
pub owners_see : (N : Night) → Passes (section N Owners) → OwnersSee N
unfolding section count_in trials_of owner_bad
owners_see N o i l =
    let v = relation_of N i in
    (within_exactly v.set (view_of N v.owner i).clear).0 (not-false _ (passes_row (trials_of N Owners) N.header.relations i l o).0)

-- no attribute is left over
pub relations_sound : (N : Night) → N.header.attributes ≤ 64 → left_over N.header (taken_before N N.header.relations) ≡ false
    → (k : ℕ) → k < N.header.attributes → (i : ℕ) × (i < N.header.relations) × In k (relation_of N i).set
unfolding left_over taken_before
relations_sound N most e k l =
    let same : taken_before N N.header.relations ≡ below 64 N.header.attributes = eqb-true _ _ (not-false _ e) in
    (in_unions (λ j. (relation_of N j).set) N.header.relations k).0 (rw same ((in_below 64 N.header.attributes k).1 (l, omega arith)))

-- the subject of a grant is there, or stands for any
subject_is : (h : Header) (p : ℕ) → subject_there h p ≡ true → (p < h.subjects) ⊎ (p ≡ any_subject)
unfolding subject_there any_of
subject_is h p e = go (ltb p h.subjects) (eqb p any_subject) refl refl e
  where
    go : (a b : Bool) → ltb p h.subjects ≡ a → eqb p any_subject ≡ b → (if a then true else if b then true else false) ≡ true
        → (p < h.subjects) ⊎ (p ≡ any_subject)
    go true b q r e = inl (ltb-true p h.subjects q)
    go false true q r e = inr (eqb-true p any_subject r)
    go false false q r e = absurd (let z : ◌≡◌ {A = ℕ} 0 1 = cc in omega arith)

-- a grant's two trials
pub grant_sound : (N : Night) → Passes (section N Grants) → (i : ℕ) → i < N.header.grants → SoundGrant N i
unfolding section count_in trials_of grant_bad pair_seen is_for_on
grant_sound N p i l =
    let v = grant_of N i in
    let s = (relation_of N v.relation).set in
    let t = passes_row (trials_of N Grants) N.header.grants i l p in
    let q = none-of _ t.0 in
    record {
      relation_there = ltb-true v.relation N.header.relations (not-false _ q.0);
      subject-there = subject_is N.header v.subject (not-false _ q.1.1.0);
      sets_apart = (apart_exactly v.clear v.sealed).0 (not-false _ q.1.1.1.0);
      clear_within = (within_exactly v.clear s).0 (not-false _ q.1.1.1.1.0);
      sealed_within = (within_exactly v.sealed s).0 (not-false _ q.1.1.1.1.1.0);
      once = λ j m. other j (somewhere_false (λ j. is_for_on (grant_of N j) v.relation v.subject v.first v.last) i t.1.0 j m);
    }
  where
    for_on : (j : ℕ) → (grant_of N j).relation ≡ (grant_of N i).relation → (grant_of N j).subject ≡ (grant_of N i).subject
        → shares_day (grant_of N j) (grant_of N i).first (grant_of N i).last ≡ true
        → is_for_on (grant_of N j) (grant_of N i).relation (grant_of N i).subject (grant_of N i).first (grant_of N i).last ≡ true
    for_on j a b d = rw (is-for (grant_of N j) (grant_of N i).relation (grant_of N i).subject a b) d

    other : (j : ℕ) → is_for_on (grant_of N j) (grant_of N i).relation (grant_of N i).subject (grant_of N i).first (grant_of N i).last ≡ false
        → (grant_of N j).relation ≡ (grant_of N i).relation → (grant_of N j).subject ≡ (grant_of N i).subject
        → shares_day (grant_of N j) (grant_of N i).first (grant_of N i).last ≡ true → ⊥
    other j e a b d =
        let z : ◌≡◌ {A = ℕ} 0 1 = cc (sym (for_on j a b d) ∙ e) in
        omega arith

-- an owner sees something, so there is a grant
grants_some : (N : Night) → SoundRelation N 0 → Within (relation_of N 0).set (view_of N (relation_of N 0).owner 0).clear → 1 ≤ N.header.grants
grants_some N w sees = go N.header.grants refl
  where
    go : (g : ℕ) → N.header.grants ≡ g → 1 ≤ N.header.grants
    go zero e = absurd (w.some (same_members (relation_of N 0).set 0 (λ k m. rw (no_grants N N.header.day (relation_of N 0).owner 0 e) at (sees k m)) (λ k m. absurd (in_none k m))))
    go (suc g) e = omega arith

-- the user, in a version that has one
user_sound : (N : Night) → user_bad N.header ≡ false → delivers N.header.version ≡ true → N.header.user < N.header.subjects
unfolding user_bad
user_sound N e d = ltb-true N.header.user N.header.subjects (not-false _ (rw d at e))

-- the counts
pub counts_sound : (N : Night) → counts_bad N.header ≡ false → ((i : ℕ) → i < N.header.relations → SoundRelation N i) → OwnersSee N → SoundCounts N
unfolding counts_bad
counts_sound N e relation owners =
    let q = none-of _ e in
    let relations_some : 1 ≤ N.header.relations = ltb-false N.header.relations 1 q.1.1.0 in
    record {
      subjects_some = ltb-false N.header.subjects 1 q.0;
      subjects_most = ltb-false 16 N.header.subjects q.1.0;
      relations_some = relations_some;
      relations_most = ltb-false 16 N.header.relations q.1.1.1.0;
      attributes_some = ltb-false N.header.attributes 1 q.1.1.1.1.0;
      attributes_most = ltb-false 64 N.header.attributes q.1.1.1.1.1.0;
      nodes_some = ltb-false N.header.nodes 1 q.1.1.1.1.1.1.0;
      nodes_most = ltb-false 64 N.header.nodes q.1.1.1.1.1.1.1.0;
      grants_some = grants_some N (relation 0 relations_some) (owners 0 relations_some);
      grants_most = ltb-false 272 N.header.grants q.1.1.1.1.1.1.1.1.0;
      user_there = user_sound N q.1.1.1.1.1.1.1.1.1.0;
    }
