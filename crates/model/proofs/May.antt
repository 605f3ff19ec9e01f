-- The tests of who may have a table and who may run a step say just what is declared.
use Prim.Native.Nat.{ℕ, ◌<◌, ◌≤◌}
use mathlib.Core.Path.{◌≡◌, refl}
use mathlib.Core.Bool.{Bool, true, false}
use mathlib.Core.Logic.{◌↔◌}
use native.Mathlib.Omega.{arith}
use lib.Dec.{eqb}
use borrow.Author.Tests.{eqb-true, eqb-false, eq-eqb, ne_eqb, not-true}
use Rattle.std.specs.Prelude.{if◌then◌else◌}
use Rattle.laws.proofs.First.{somewhere_false, nowhere}
use Rattle.sets.specs.Sets.{In, single, unions}
use Rattle.sets.proofs.Members.{in_unions, in_none}
use Rattle.sets.proofs.Words.{in_single}
use Rattle.night.specs.Night.{Night, node_of}
use Rattle.night.specs.Kinds.{uses_right}
use Rattle.night.specs.Views.{clear_of, sealed_of}
use Rattle.model.specs.declared.Table.{Table}
use Rattle.model.specs.Candidates.{clear_offends, sealed_offends, tied_offends, May, Candidate, may, may_take, is_candidate, candidate_set}

-- two tests, both of which hold
pub both_true : (a b : Bool) → (if a then b else false) ≡ true → (a ≡ true) × (b ≡ true)
both_true true b e = (refl, e)
both_true false b e = absurd (let z : ◌≡◌ {A = ℕ} 0 1 = cc in omega arith)

pub may_exactly : (t : Table) (P E : ℕ) → (may t P E ≡ true) ↔ May t P E
unfolding may
may_exactly t P E = (
  λ e.
      let w = both_true _ _ e in
      let v = both_true _ _ w.1 in
      record {
        first = eqb-true (clear_offends t P E) 0 w.0;
        second = eqb-true (sealed_offends t P E) 0 v.0;
        third = somewhere_false (tied_offends t P E) 64 (not-true _ v.1);
      },
  λ m. rw (eq-eqb (clear_offends t P E) 0 m.first, eq-eqb (sealed_offends t P E) 0 m.second, nowhere (tied_offends t P E) 64 m.third) refl,
)

-- a test that is asked of steps alone, and one that is asked only where another holds
step_true : (k : ℕ) (b : Bool) → (if eqb k 0 then false else b) ≡ true → (k ≡ 0 → ⊥) × (b ≡ true)
step_true k b e = go (eqb k 0) refl e
  where
    go : (a : Bool) → eqb k 0 ≡ a → (if a then false else b) ≡ true → (k ≡ 0 → ⊥) × (b ≡ true)
    go true q e = absurd (let z : ◌≡◌ {A = ℕ} 0 1 = cc in omega arith)
    go false q e = (eqb-false k 0 q, e)

if_true : (a b : Bool) → a ≡ true → (if a then b else true) ≡ true → b ≡ true
if_true true b q e = e
if_true false b q e = absurd (let z : ◌≡◌ {A = ℕ} 0 1 = cc in omega arith)

if_yes : (a b : Bool) → (a ≡ true → b ≡ true) → (if a then b else true) ≡ true
if_yes true b h = h refl
if_yes false b h = refl

module _ (N : Night) (i P E : ℕ) where
  -- a candidate's test
  pub candidate_exactly : (is_candidate N i P E ≡ true) ↔ Candidate N i P E
  unfolding is_candidate may_take
  candidate_exactly = (
    λ e.
        let v = node_of N i in
        let w = step_true v.kind _ e in
        let u = both_true _ _ w.1 in
        let x = both_true _ _ u.1 in
        record {
          step = w.0;
          left = (may_exactly _ P E).0 u.0;
          right = λ r. (may_exactly _ P E).0 (if_true _ _ r x.0);
          result = (may_exactly _ P E).0 x.1;
        },
    λ c.
        rw
        (ne_eqb (node_of N i).kind 0 c.step, (may_exactly _ P E).1 c.left, if_yes (uses_right (node_of N i).kind) _ (λ r. (may_exactly _ P E).1 (c.right r)), (may_exactly _ P E).1 c.result)
        refl,
  )

-- of the numbers below n, those who pass a test as a set of 16 bits: its members
pub in_chosen : (test : ℕ → Bool) (n p : ℕ) → In p (unions (λ q. if test q then single 16 q else 0) n) ↔ ((p < n) × (p < 16) × (test p ≡ true))
in_chosen test n p = (
  λ h. let w = (in_unions chosen n p).0 h in go w.0 w.1 (test w.0) refl w.2,
  λ w. (in_unions chosen n p).1 (p, w.0, rw w.2 ((in_single 16 p p).1 (refl, w.1))),
)
  where
    chosen : ℕ → ℕ
    chosen q = if test q then single 16 q else 0

    go : (q : ℕ) → q < n → (b : Bool) → test q ≡ b → In p (if b then single 16 q else 0) → (p < n) × (p < 16) × (test p ≡ true)
    go q l true e h =
        let w = (in_single 16 p q).0 h in
        rw w.0 (l, w.1, e)
    go q l false e h = absurd (in_none p h)

-- a subject is in the set exactly when it is there and is a candidate by its view
pub set_exactly : (N : Night) (i p : ℕ) → N.header.subjects ≤ 16
    → In p (candidate_set N i) ↔ ((p < N.header.subjects) × Candidate N i (clear_of N p) (sealed_of N p))
unfolding candidate_set
set_exactly N i p few = (
  λ h. let w = (in_chosen test s p).0 h in (w.0, (candidate_exactly N i (clear_of N p) (sealed_of N p)).0 w.2),
  λ w. (in_chosen test s p).1 (w.0, omega (arith, w.0), (candidate_exactly N i (clear_of N p) (sealed_of N p)).1 w.1),
)
  where
    s : ℕ
    s = N.header.subjects

    test : ℕ → Bool
    test q = is_candidate N i (clear_of N q) (sealed_of N q)
