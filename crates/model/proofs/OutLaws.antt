-- Condition 3 as sets are tied, and the subjects whom it puts out.
use Prim.Native.Nat.{ℕ, ◌^◌, ◌<◌}
use mathlib.Core.Path.{◌≡◌, refl, sym, ◌∙◌}
use mathlib.Core.Bool.{Bool, true, false}
use mathlib.Core.List.{List}
use mathlib.Core.Logic.{◌⊎◌, inl, inr, ⊎_elim, ◌↔◌}
use lib.Dec.{eqb}
use lib.ListN.{get_or}
use borrow.Author.Tests.{eqb-true, eqb-false}
use Rattle.laws.specs.First.{somewhere}
use Rattle.laws.proofs.Cases.{clash}
use Rattle.laws.proofs.First.{somewhere_true, somewhere_false, nowhere}
use Rattle.sets.specs.Sets.{In, Within, member, union, unions}
use Rattle.sets.proofs.Members.{same_members, member_in, in_union, in_unions, in_none}
use Rattle.sets.proofs.Words.{some_member}
use Rattle.night.specs.Night.{Night}
use Rattle.night.specs.Views.{clear_of, sealed_of}
use Rattle.model.specs.Ties.{untied, gathered, tie, Classes}
use Rattle.model.specs.OneTest.{splits, WholeAll, TieHolds, out_by, out_of}
use Rattle.model.proofs.Chains.{blank, chain_map, gathered_in, in_word, tie_met, tie_kept, tie_classes}
use Rattle.model.proofs.Lowest.{not_fails}
use Rattle.model.proofs.May.{in_chosen}
use Rattle.model.proofs.Merged.{tied_word}
use Rattle.model.proofs.Sees.{whole_exactly}

-- a test that fails exactly when two others do holds exactly when one of them does
one_of : (a b c : Bool) → (a ≡ false) ↔ ((b ≡ false) × (c ≡ false)) → (a ≡ true) ↔ ((b ≡ true) ⊎ (c ≡ true))
one_of a true c f = (λ e. inl refl, λ h. not_fails a (λ e. clash (f.0 e).0))
one_of a false true f = (λ e. inr refl, λ h. not_fails a (λ e. clash (f.0 e).1))
one_of a false false f = (λ e. absurd (clash (sym e ∙ f.1 (refl, refl))), ⊎_elim (λ e. absurd (clash (sym e))) (λ e. absurd (clash (sym e))))

-- what lies in a set that does not split does not split
pub whole_part : (a b P E : ℕ) → Within a b → splits b P E ≡ false → splits a P E ≡ false
whole_part a b P E f e = (whole_exactly a P E).1 (⊎_elim (λ w. inl (λ k h. w k (f k h))) (λ w. inr (λ k h. w k (f k h))) ((whole_exactly b P E).0 e))

-- nor does the empty set
pub whole_empty : (P E : ℕ) → splits 0 P E ≡ false
whole_empty P E = (whole_exactly 0 P E).1 (inl (λ k h. absurd (in_none k h)))

module _ (T : ℕ → Type 0) (t : List ℕ) (s : ℕ) (C : Classes T t) (low : s < 2 ^ 64) where
  abbrev made : ℕ
  made = gathered t s 64

  -- each member of the set that is made has that set from now on
  made_at : (k : ℕ) → In k made → (k < 64) × (get_or (tie t s) k 0 ≡ made)
  made_at k h = (below, tie_met t s k below h)
    where
      below : k < 64
      below = ⊎_elim (in_word s k low) (λ w. in_word (get_or t w.0 0) k (tied_word T t C w.0) w.2) (gathered_in t s 64 k h)

  -- a tied set loses nothing
  tie_grows : (k : ℕ) → Within (get_or t k 0) (get_or (tie t s) k 0)
  tie_grows k j h = (tie_classes T t s C low).held k j (chain_map (λ m. inr) (C.linked k j h))

  module _ (P E : ℕ) where
    -- the set that is made is empty or one of the tied sets
    made_whole : WholeAll (tie t s) P E → splits made P E ≡ false
    made_whole all = go (eqb made 0) refl
      where
        go : (b : Bool) → eqb made 0 ≡ b → splits made P E ≡ false
        go true e = rw (eqb-true made 0 e) (whole_empty P E)
        go false e =
            let w = some_member made (eqb-false made 0 e) in
            let x = made_at w.0 w.1 in
            rw x.1 at (all w.0 x.0)

    -- each tied set is the one that is made, or was there before
    still_whole : WholeAll t P E → splits made P E ≡ false → WholeAll (tie t s) P E
    still_whole all e k l = go (member made k) refl
      where
        go : (b : Bool) → member made k ≡ b → splits (get_or (tie t s) k 0) P E ≡ false
        go true m = rw (tie_met t s k l (member_in made k m)) e
        go false m = rw (tie_kept t s k l m) (all k l)

pub tie_holds : TieHolds
tie_holds T t s C low P E = (
  λ all. (λ k l. whole_part (get_or t k 0) (get_or (tie t s) k 0) P E (tie_grows T t s C low k) (all k l), made_whole T t s C low P E all),
  λ w. still_whole T t s C low P E w.0 w.1,
)

-- the test of condition 3 on all tied sets
abbrev pub some_splits : List ℕ → ℕ → ℕ → Bool
some_splits t P E = somewhere (λ k. splits (get_or t k 0) P E) 64

pub none_splits : (t : List ℕ) (P E : ℕ) → (some_splits t P E ≡ false) ↔ WholeAll t P E
none_splits t P E = (somewhere_false (λ k. splits (get_or t k 0) P E) 64, nowhere (λ k. splits (get_or t k 0) P E) 64)

module _ (N : Night) where
  -- who is put out by one set, and by all tied sets
  out_by_exactly : (S p : ℕ) → In p (out_by N S) ↔ ((p < N.header.subjects) × (p < 16) × (splits S (clear_of N p) (sealed_of N p) ≡ true))
  unfolding out_by
  out_by_exactly S p = in_chosen (λ q. splits S (clear_of N q) (sealed_of N q)) N.header.subjects p

  pub out_of_exactly : (t : List ℕ) (p : ℕ) → In p (out_of N t) ↔ ((p < N.header.subjects) × (p < 16) × (some_splits t (clear_of N p) (sealed_of N p) ≡ true))
  unfolding out_of
  out_of_exactly t p = in_chosen (λ q. some_splits t (clear_of N q) (sealed_of N q)) N.header.subjects p

  -- by all tied sets those whom one of them puts out
  pub out_each : (t : List ℕ) → out_of N t ≡ unions (λ k. out_by N (get_or t k 0)) 64
  out_each t =
      same_members (out_of N t) (unions each 64)
      (λ p h.
      let w = (out_of_exactly t p).0 h in
      let x = somewhere_true (λ k. splits (get_or t k 0) (clear_of N p) (sealed_of N p)) 64 w.2 in
      (in_unions each 64 p).1 (x.0, x.1, (out_by_exactly (get_or t x.0 0) p).1 (w.0, w.1, x.2)))
      (λ p h.
      let w = (in_unions each 64 p).0 h in
      let x = (out_by_exactly (get_or t w.0 0) p).0 w.2 in
      (out_of_exactly t p).1 (x.0, x.1, not_fails _ (λ e. clash (sym x.2 ∙ (none_splits t (clear_of N p) (sealed_of N p)).0 e w.0 w.1))))
    where
      each : ℕ → ℕ
      each k = out_by N (get_or t k 0)

  -- so each of them puts out no others
  pub out_one : (t : List ℕ) (k : ℕ) → k < 64 → Within (out_by N (get_or t k 0)) (out_of N t)
  out_one t k l p h = rw (out_each t) ((in_unions (λ j. out_by N (get_or t j 0)) 64 p).1 (k, l, h))

  -- and where each has grown, those whom they put out before are out still
  pub out_grows : (t u : List ℕ) → ((k : ℕ) → Within (get_or t k 0) (get_or u k 0)) → Within (out_of N t) (out_of N u)
  out_grows t u f p h =
      let w = (out_of_exactly t p).0 h in
      let whole = none_splits u (clear_of N p) (sealed_of N p) in
      (out_of_exactly u p).1
      (w.0, w.1, not_fails _ (λ e. clash (sym w.2 ∙ (none_splits t _ _).1 (λ k l. whole_part (get_or t k 0) (get_or u k 0) _ _ (f k) (whole.0 e k l)))))

  -- nobody where nothing is tied
  pub out_untied : out_of N untied ≡ 0
  out_untied =
      same_members (out_of N untied) 0
      (λ p h.
      absurd
      (clash
      (sym ((out_of_exactly untied p).0 h).2
      ∙ (none_splits untied (clear_of N p) (sealed_of N p)).1 (λ k l. rw (blank 64 k) (whole_empty (clear_of N p) (sealed_of N p))))))
      (λ p h. absurd (in_none p h))

  -- one set more is tied: also those whom the set that is made puts out
  pub out_tie : (T : ℕ → Type 0) (t : List ℕ) (s : ℕ) → Classes T t → s < 2 ^ 64 → out_of N (tie t s) ≡ union (out_of N t) (out_by N (gathered t s 64))
  out_tie T t s C low =
      same_members (out_of N (tie t s)) (union (out_of N t) (out_by N (gathered t s 64)))
      (λ p h.
      let w = (out_of_exactly (tie t s) p).0 h in
      (in_union (out_of N t) (out_by N (gathered t s 64)) p).1
      (⊎_elim (λ e. inl ((out_of_exactly t p).1 (w.0, w.1, e))) (λ e. inr ((out_by_exactly (gathered t s 64) p).1 (w.0, w.1, e))) ((tests p).0 w.2)))
      (λ p h.
      ⊎_elim
      (λ m. let w = (out_of_exactly t p).0 m in (out_of_exactly (tie t s) p).1 (w.0, w.1, (tests p).1 (inl w.2)))
      (λ m. let w = (out_by_exactly (gathered t s 64) p).0 m in (out_of_exactly (tie t s) p).1 (w.0, w.1, (tests p).1 (inr w.2)))
      ((in_union (out_of N t) (out_by N (gathered t s 64)) p).0 h))
    where
      tests : (p : ℕ) → (some_splits (tie t s) (clear_of N p) (sealed_of N p) ≡ true)
          ↔ ((some_splits t (clear_of N p) (sealed_of N p) ≡ true) ⊎ (splits (gathered t s 64) (clear_of N p) (sealed_of N p) ≡ true))
      tests p =
          let w = tie_holds T t s C low (clear_of N p) (sealed_of N p) in
          let after = none_splits (tie t s) (clear_of N p) (sealed_of N p) in
          let before = none_splits t (clear_of N p) (sealed_of N p) in
          one_of _ _ _ (λ e. let x = w.0 (after.0 e) in (before.1 x.0, x.1), λ e. after.1 (w.1 (before.0 e.0, e.1)))
