-- What one pass over the grants of a checked file holds gives each subject what its views say: one grant at most for a pair is in force on the day.
use Prim.Native.Nat.{ℕ, ◌+◌, ◌<◌, ◌≤◌}
use mathlib.Core.Path.{◌≡◌, refl, sym, ap, ◌∙◌}
use mathlib.Core.Bool.{Bool, true, false, not}
use mathlib.Core.List.{List}
use mathlib.Core.Logic.{◌⊎◌, inl, inr, ⊎_elim, ◌↔◌}
use native.Mathlib.Omega.{arith}
use lib.Dec.{eqb, ltb}
use lib.ListN.{get_or}
use borrow.Author.Tests.{eq-eqb, ne_eqb, eqb-true, eqb-false, ltb-true, ltb-false}
use Rattle.std.specs.Prelude.{if◌then◌else◌}
use Rattle.laws.proofs.Cases.{clash}
use Rattle.laws.proofs.First.{first_below, first_holds}
use Rattle.laws.specs.Upwards.{each}
use Rattle.laws.proofs.Upwards.{each_same}
use Rattle.sets.specs.Sets.{In, member, single, unions}
use Rattle.sets.proofs.Members.{same_members, in_none, in_union, in_unions, out_member, not_member}
use Rattle.sets.proofs.Words.{in_single}
use Rattle.night.specs.declared.Grant.{Grant}
use Rattle.night.specs.declared.View.{View}
use Rattle.night.specs.Night.{Night, grant_of}
use Rattle.night.specs.Views.{any_subject, is_for, shares_day, in_force, is_for_on, grant_on, seen_by, view_on}
use Rattle.night.specs.Promised.{Promised}
use Rattle.night.proofs.Views.{is-for-on, shares-day, own_replaces, any_serves, nothing_seen}
use Rattle.model.proofs.Lowest.{not_below}
use Rattle.eligible.specs.Seen.{place, when_in, held, grantees, any_for, seen_from}
use Rattle.eligible.proofs.SeenHeld.{in_held}

-- what is in a set that is left out or not
in_unchosen : (b : Bool) (s a : ℕ) → In a (if b then 0 else s) → (b ≡ false) × In a s
in_unchosen true s a h = absurd (in_none a h)
in_unchosen false s a h = (refl, h)

-- the place of a grant
-- what is in the set of a grant that must be in force
in_when : (day : ℕ) (sets : Grant → ℕ) (g : Grant) (a : ℕ) → In a (when_in day sets g) → (in_force g day ≡ true) × In a (sets g)
in_when day sets g a h = go (in_force g day) refl h
  where
    go : (b : Bool) → in_force g day ≡ b → In a (if b then sets g else 0) → (in_force g day ≡ true) × In a (sets g)
    go true e h = (e, h)
    go false e h = absurd (in_none a h)

when-in : (day : ℕ) (sets : Grant → ℕ) (g : Grant) (a : ℕ) → in_force g day ≡ true → In a (sets g) → In a (when_in day sets g)
when-in day sets g a e h = rw e h

-- in force: from its first day to its last
in_days : (g : Grant) (from to : ℕ) → shares_day g from to ≡ true → (g.first ≤ to) × (from ≤ g.last)
unfolding shares_day
in_days g from to e = go (ltb to g.first) (ltb g.last from) refl refl e
  where
    go : (x y : Bool) → ltb to g.first ≡ x → ltb g.last from ≡ y → (if x then false else not y) ≡ true → (g.first ≤ to) × (from ≤ g.last)
    go true y p q e = absurd (clash (sym e))
    go false true p q e = absurd (clash (sym e))
    go false false p q e = (ltb-false to g.first p, ltb-false g.last from q)

place_own : (g : Grant) → (g.subject ≡ any_subject → ⊥) → place g ≡ g.subject
unfolding place
place_own g h = rw (ne_eqb g.subject any_subject h) refl

place_any : (g : Grant) → g.subject ≡ any_subject → place g ≡ 16 + g.relation
unfolding place
place_any g e = rw (eq-eqb g.subject any_subject e) refl

any_or_not : (g : Grant) → (g.subject ≡ any_subject) ⊎ (g.subject ≡ any_subject → ⊥)
any_or_not g = go (eqb g.subject any_subject) refl
  where
    go : (b : Bool) → eqb g.subject any_subject ≡ b → (g.subject ≡ any_subject) ⊎ (g.subject ≡ any_subject → ⊥)
    go true e = inl (eqb-true _ _ e)
    go false e = inr (eqb-false _ _ e)

for-pair : (g : Grant) (r p from to : ℕ) → is_for_on g r p from to ≡ true → (g.relation ≡ r) × (g.subject ≡ p) × (shares_day g from to ≡ true)
unfolding is_for is_for_on
for-pair g r p from to e = go (eqb g.relation r) (eqb g.subject p) refl refl e
  where
    go : (b d : Bool) → eqb g.relation r ≡ b → eqb g.subject p ≡ d → (if (if b then d else false) then shares_day g from to else false) ≡ true
        → (g.relation ≡ r) × (g.subject ≡ p) × (shares_day g from to ≡ true)
    go true true q w e = (eqb-true _ _ q, eqb-true _ _ w, e)
    go true false q w e = absurd (clash (sym e))
    go false d q w e = absurd (clash (sym e))

module _ (N : Night) (sound : Promised N) (day : ℕ) where
  abbrev n : ℕ
  n = N.header.grants

  -- a grant's place, and from its place whose it is
  pub relation_low : (j : ℕ) → j < n → (grant_of N j).relation < 16
  relation_low j l = omega (arith, (sound.grant j l).relation_there, sound.counts.relations_most)

  pub place_low : (j : ℕ) → j < n → place (grant_of N j) < 32
  place_low j l =
      ⊎_elim
      (λ s. rw (place_own (grant_of N j) (λ e. omega (arith, sound.counts.subjects_most))) (omega (arith, sound.counts.subjects_most)))
      (λ e. rw (place_any (grant_of N j) e) (omega (arith, relation_low j l)))
      (sound.grant j l).subject-there

  own_of : (j p : ℕ) → p < 16 → place (grant_of N j) ≡ p → (grant_of N j).subject ≡ p
  own_of j p l e =
      ⊎_elim (λ any. absurd (omega (arith, place_any (grant_of N j) any))) (λ own. sym (place_own (grant_of N j) own) ∙ e) (any_or_not (grant_of N j))

  any_of : (j r : ℕ) → j < n → place (grant_of N j) ≡ 16 + r → ((grant_of N j).relation ≡ r) × ((grant_of N j).subject ≡ any_subject)
  any_of j r l e =
      ⊎_elim
      (λ s. absurd (omega (arith, sound.counts.subjects_most, place_own (grant_of N j) (λ q. omega (arith, sound.counts.subjects_most)))))
      (λ any. (omega (arith, place_any (grant_of N j) any), any))
      (sound.grant j l).subject-there

  -- the grant that is found for a pair is for it and in force, and every grant in force is the one found for its pair
  found_for : (r p : ℕ) → grant_on N day r p < n
      → ((grant_of N (grant_on N day r p)).relation ≡ r) × ((grant_of N (grant_on N day r p)).subject ≡ p) × (in_force (grant_of N (grant_on N day r p)) day ≡ true)
  unfolding grant_on
  found_for r p l = for-pair (grant_of N (grant_on N day r p)) r p day day (first_holds (λ j. is_for_on (grant_of N j) r p day day) n l)

  the_first : (j r p : ℕ) → j < n → (grant_of N j).relation ≡ r → (grant_of N j).subject ≡ p → in_force (grant_of N j) day ≡ true → grant_on N day r p ≡ j
  unfolding grant_on
  the_first j r p l on to force =
      let d = in_days (grant_of N j) day day force in
      let not-later : grant_on N day r p ≤ j =
      not_below (λ h. clash (sym (is-for-on (grant_of N j) r p day day on to d.0 d.1) ∙ first_below (λ k. is_for_on (grant_of N k) r p day day) n j h))
      in
      let not_earlier : j ≤ grant_on N day r p =
      not_below (λ h.
      let w = found_for r p (omega arith) in
      let e = in_days (grant_of N (grant_on N day r p)) day day w.2 in
      (sound.grant j l).once (grant_on N day r p) h (w.0 ∙ sym on) (w.1 ∙ sym to)
      (shares-day (grant_of N (grant_on N day r p)) (grant_of N j).first (grant_of N j).last (omega (arith, d.1, e.0)) (omega (arith, d.0, e.1))))
      in
      omega arith

  -- a subject is among those to whom a grant on the relation is exactly where one is found for it
  own_among : (r p : ℕ) → p < 16 → grant_on N day r p < n → In p (get_or (grantees day N n) r 0)
  own_among r p l f =
      let w = found_for r p f in
      (in_held (λ g. g.relation) (when_in day (λ g. single 16 g.subject)) N 16 n r p (rw w.0 at (relation_low (grant_on N day r p) f))).1
      (grant_on N day r p, f, w.0, when-in day (λ g. single 16 g.subject) (grant_of N (grant_on N day r p)) p w.2 ((in_single 16 p (grant_of N (grant_on N day r p)).subject).1 (sym w.1, rw w.1 l)))

  among_own : (r p : ℕ) → r < 16 → In p (get_or (grantees day N n) r 0) → grant_on N day r p < n
  among_own r p l h =
      let w = (in_held (λ g. g.relation) (when_in day (λ g. single 16 g.subject)) N 16 n r p l).0 h in
      let s = in_when day (λ g. single 16 g.subject) (grant_of N w.0) p w.3 in
      rw (the_first w.0 r p w.1 w.2 (sym ((in_single 16 p (grant_of N w.0).subject).0 s.1).0) s.0) w.1

  -- in clear and sealed alike, by what is taken of a view
  module _ (of : View → ℕ) (none : of (record { clear = 0; sealed = 0 }) ≡ 0) where
    abbrev sets : List ℕ
    sets = held day (λ g. of (seen_by g)) N n

    abbrev own : List ℕ
    own = grantees day N n

    -- what place k has is what a grant there lets see
    in_place : (k a : ℕ) → k < 32 → In a (get_or sets k 0) ↔ ((j : ℕ) × (j < n) × (place (grant_of N j) ≡ k) × In a (when_in day (λ g. of (seen_by g)) (grant_of N j)))
    in_place k a l = in_held place (when_in day (λ g. of (seen_by g))) N 32 n k a l

    module _ (p : ℕ) (l : p < 16) where
      -- what is seen is held: by an own grant, or by one to any where there is none
      own_held : (r a : ℕ) → grant_on N day r p < n → In a (of (view_on N day p r)) → In a (get_or sets p 0)
      own_held r a f h =
          let w = found_for r p f in
          let e = place_own (grant_of N (grant_on N day r p)) (λ q. omega (arith, w.1)) ∙ w.1 in
          (in_place p a (omega arith)).1 (grant_on N day r p, f, e, when-in day (λ g. of (seen_by g)) (grant_of N (grant_on N day r p)) a w.2 (rw (own_replaces N day p r f) at h))

      any_held : (r a : ℕ) → r < 16 → n ≤ grant_on N day r p → grant_on N day r any_subject < n → In a (of (view_on N day p r)) → In a (any_for sets own p r)
      unfolding any_for
      any_held r a b lacks f h =
          let w = found_for r any_subject f in
          let e = place_any (grant_of N (grant_on N day r any_subject)) w.1 ∙ ap (λ (x : ℕ). 16 + x) w.0 in
          rw (out_member (get_or own r 0) p (λ m. omega (arith, among_own r p b m)))
          ((in_place (16 + r) a (omega arith)).1 (grant_on N day r any_subject, f, e, when-in day (λ g. of (seen_by g)) (grant_of N (grant_on N day r any_subject)) a w.2 (rw (any_serves N day p r lacks f) at h)))

      seen_held : (r a : ℕ) → r < 16 → In a (of (view_on N day p r)) → In a (seen_from sets own p)
      unfolding seen_from
      seen_held r a b h = (in_union (get_or sets p 0) (unions (any_for sets own p) 16) a).1 (go (ltb (grant_on N day r p) n) (ltb (grant_on N day r any_subject) n) refl refl)
        where
          go : (x y : Bool) → ltb (grant_on N day r p) n ≡ x → ltb (grant_on N day r any_subject) n ≡ y → In a (get_or sets p 0) ⊎ In a (unions (any_for sets own p) 16)
          go true y e q = inl (own_held r a (ltb-true _ _ e) h)
          go false true e q = inr ((in_unions (any_for sets own p) 16 a).1 (r, b, any_held r a b (ltb-false _ _ e) (ltb-true _ _ q) h))
          go false false e q = absurd (in_none a (rw (nothing_seen N day p r (ltb-false _ _ e) (ltb-false _ _ q), none) at h))

      -- what is held is seen: of an own grant, and of one to any on a relation without one
      own_seen : (a : ℕ) → In a (get_or sets p 0) → (r : ℕ) × (r < N.header.relations) × In a (of (view_on N day p r))
      own_seen a h =
          let w = (in_place p a (omega arith)).0 h in
          let s = in_when day (λ g. of (seen_by g)) (grant_of N w.0) a w.3 in
          let r = (grant_of N w.0).relation in
          let f = the_first w.0 r p w.1 refl (own_of w.0 p l w.2) s.0 in
          let v : view_on N day p r ≡ seen_by (grant_of N w.0) = own_replaces N day p r (rw f w.1) ∙ ap (λ (j : ℕ). seen_by (grant_of N j)) f in
          (r, (sound.grant w.0 w.1).relation_there, rw v s.1)

      any_seen : (r a : ℕ) → r < 16 → In a (any_for sets own p r) → (r : ℕ) × (r < N.header.relations) × In a (of (view_on N day p r))
      unfolding any_for
      any_seen r a b h =
          let c = in_unchosen (member (get_or own r 0) p) (get_or sets (16 + r) 0) a h in
          let w = (in_place (16 + r) a (omega arith)).0 c.1 in
          let whose = any_of w.0 r w.1 w.2 in
          let s = in_when day (λ g. of (seen_by g)) (grant_of N w.0) a w.3 in
          let f = the_first w.0 r any_subject w.1 whose.0 whose.1 s.0 in
          let lacks : n ≤ grant_on N day r p = not_below (λ q. not_member (get_or own r 0) p c.0 (own_among r p l q)) in
          let v : view_on N day p r ≡ seen_by (grant_of N w.0) = any_serves N day p r lacks (rw f w.1) ∙ ap (λ (j : ℕ). seen_by (grant_of N j)) f in
          (r, rw whose.0 at (sound.grant w.0 w.1).relation_there, rw v s.1)

      held_seen : (a : ℕ) → In a (seen_from sets own p) → (r : ℕ) × (r < N.header.relations) × In a (of (view_on N day p r))
      unfolding seen_from
      held_seen a h =
          ⊎_elim
          (own_seen a)
          (λ m.
          let w = (in_unions (any_for sets own p) 16 a).0 m in
          any_seen w.0 a w.1 w.2)
          ((in_union (get_or sets p 0) (unions (any_for sets own p) 16) a).0 h)

      -- so what is held gives what the views say
      held_whole : seen_from sets own p ≡ unions (λ r. of (view_on N day p r)) N.header.relations
      held_whole =
          same_members (seen_from sets own p) (unions (λ r. of (view_on N day p r)) N.header.relations)
          (λ a h. (in_unions (λ r. of (view_on N day p r)) N.header.relations a).1 (held_seen a h))
          (λ a h.
          let w = (in_unions (λ r. of (view_on N day p r)) N.header.relations a).0 h in
          seen_held w.0 a (omega (arith, w.1, sound.counts.relations_most)) w.2)

    pub each_whole : each 16 (seen_from sets own) ≡ each 16 (λ p. unions (λ r. of (view_on N day p r)) N.header.relations)
    each_whole = each_same (seen_from sets own) (λ p. unions (λ r. of (view_on N day p r)) N.header.relations) 16 held_whole
