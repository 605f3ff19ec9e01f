-- Who may have a table, said by members.
use Prim.Native.Nat.{ℕ, ◌<◌}
use mathlib.Core.Path.{◌≡◌, refl}
use mathlib.Core.Bool.{Bool, true, false}
use mathlib.Core.Logic.{◌⊎◌, inl, inr, ⊎_elim, ◌↔◌}
use lib.ListN.{get_or}
use Rattle.std.specs.Prelude.{if◌then◌else◌}
use Rattle.laws.proofs.Cases.{clash}
use Rattle.sets.specs.Sets.{In, Within, union, minus, within}
use Rattle.sets.proofs.Members.{same_members, in_or_not, in_union, in_minus, in_none, within_exactly}
use Rattle.sets.proofs.Words.{not_within}
use Rattle.model.specs.declared.Table.{Table}
use Rattle.model.specs.Candidates.{clear_offends, sealed_offends, tied_offends, ClearHolds, SealedHolds, TiedHolds, May}
use Rattle.model.specs.OneTest.{splits}
use Rattle.model.specs.Reasons.{ClearLies, SealedLies, TiedLies}

-- what is visible or implicit in clear is in P, what is so sealed in P or E, and of a tied set all is in P or all in E
pub record Sees (t : Table) (P E : ℕ) : Type 0 where
  pub clear : Within t.clear P
  pub tested : Within t.tested P
  pub sealed : (a : ℕ) → In a t.sealed → In a P ⊎ In a E
  pub hidden : (a : ℕ) → In a t.hidden → In a P ⊎ In a E
  pub tied : (a b c : ℕ) → a < 64 → In b (get_or t.tied a 0) → In c (get_or t.tied a 0) → (In b P → ⊥) → (In c E → ⊥) → ⊥

-- nothing of a is outside b
outside : (a b : ℕ) → minus a b ≡ 0 → Within a b
outside a b e k h = ⊎_elim (λ q. q) (λ q. absurd (in_none k (rw e at ((in_minus a b k).1 (h, q))))) (in_or_not k b)

inside : (a b : ℕ) → Within a b → minus a b ≡ 0
inside a b f =
    same_members (minus a b) 0
    (λ k h.
    let w = (in_minus a b k).0 h in
    absurd (w.1 (f k w.0)))
    (λ k h. absurd (in_none k h))

-- a set that does not split lies wholly in P or wholly in E
pub whole_exactly : (S P E : ℕ) → (splits S P E ≡ false) ↔ (Within S P ⊎ Within S E)
unfolding splits
whole_exactly S P E = (
  go (within S P) (within S E) refl refl,
  ⊎_elim (λ w. rw ((within_exactly S P).1 w) refl) (λ w. rw ((within_exactly S E).1 w) (either (within S P))),
)
  where
    go : (x y : Bool) → within S P ≡ x → within S E ≡ y → (if x then false else if y then false else true) ≡ false → Within S P ⊎ Within S E
    go true y p q e = inl ((within_exactly S P).0 p)
    go false true p q e = inr ((within_exactly S E).0 q)
    go false false p q e = absurd (clash e)

    either : (x : Bool) → (if x then false else false) ≡ false
    either true = refl
    either false = refl

-- each condition by its offending set or tied set, and in document 01's words
module _ (t : Table) (P E : ℕ) where
  pub clear_lies : ClearHolds t P E ↔ ClearLies t P E
  unfolding clear_offends
  clear_lies = (
    λ e a h. outside (union t.clear t.tested) P e a ((in_union t.clear t.tested a).1 h),
    λ w. inside _ P (λ a h. w a ((in_union t.clear t.tested a).0 h)),
  )

  pub sealed_lies : SealedHolds t P E ↔ SealedLies t P E
  unfolding sealed_offends
  sealed_lies = (
    λ e a h. (in_union P E a).0 (outside (union t.sealed t.hidden) (union P E) e a ((in_union t.sealed t.hidden a).1 h)),
    λ w. inside _ (union P E) (λ a h. (in_union P E a).1 (w a ((in_union t.sealed t.hidden a).0 h))),
  )

  pub tied_whole : (k : ℕ) → tied_offends t P E k ≡ false → Within (get_or t.tied k 0) P ⊎ Within (get_or t.tied k 0) E
  unfolding tied_offends splits
  tied_whole k e = (whole_exactly (get_or t.tied k 0) P E).0 e

  whole_tied : (k : ℕ) → Within (get_or t.tied k 0) P ⊎ Within (get_or t.tied k 0) E → tied_offends t P E k ≡ false
  unfolding tied_offends splits
  whole_tied k w = (whole_exactly (get_or t.tied k 0) P E).1 w

  pub tied_lies : TiedHolds t P E ↔ TiedLies t P E
  tied_lies = (λ e k l. tied_whole k (e k l), λ w k l. whole_tied k (w k l))

  -- a tied set of which b is outside P and c outside E
  apart_tied : ((a b c : ℕ) → a < 64 → In b (get_or t.tied a 0) → In c (get_or t.tied a 0) → (In b P → ⊥) → (In c E → ⊥) → ⊥) → TiedLies t P E
  apart_tied f k l = go (within m P) (within m E) refl refl
    where
      m : ℕ
      m = get_or t.tied k 0

      go : (x y : Bool) → within m P ≡ x → within m E ≡ y → Within m P ⊎ Within m E
      go true y p q = inl ((within_exactly m P).0 p)
      go false true p q = inr ((within_exactly m E).0 q)
      go false false p q =
          let b = not_within m P p in
          let c = not_within m E q in
          absurd (f k b.0 c.0 l b.1 c.1 b.2 c.2)

  -- that is when the subject may have it
  pub may_sees : May t P E → Sees t P E
  may_sees m =
      record {
        clear = λ a h. clear_lies.0 m.first a (inl h);
        tested = λ a h. clear_lies.0 m.first a (inr h);
        sealed = λ a h. sealed_lies.0 m.second a (inl h);
        hidden = λ a h. sealed_lies.0 m.second a (inr h);
        tied = λ a b c l hb hc out off. ⊎_elim (λ w. out (w b hb)) (λ w. off (w c hc)) (tied_lies.0 m.third a l);
      }

  pub sees_may : Sees t P E → May t P E
  sees_may s =
      record {
        first = clear_lies.1 (λ a. ⊎_elim (s.clear a) (s.tested a));
        second = sealed_lies.1 (λ a. ⊎_elim (s.sealed a) (s.hidden a));
        third = tied_lies.1 (apart_tied s.tied);
      }
