-- One of a list, and that what a node reads together lies within what it reads.
use Prim.Native.Nat.{ℕ, zero, suc, ◌<◌}
use mathlib.Core.Path.{◌≡◌, refl}
use mathlib.Core.Bool.{Bool, true, false}
use mathlib.Core.List.{List, [], ◌∷◌, ◌++◌}
use mathlib.Core.Logic.{◌⊎◌, inl, inr, ⊎_elim, ◌↔◌}
use native.Mathlib.Omega.{arith}
use native.Mathlib.Nat.{eq-or-lt_of_le, le_of_suc-le-suc}
use lib.Dec.{eqb}
use borrow.Author.Tests.{eqb-true}
use Rattle.std.specs.Prelude.{if◌then◌else◌}
use Rattle.laws.specs.Upwards.{upwards, each}
use Rattle.sets.specs.Sets.{In, Within}
use Rattle.sets.proofs.Members.{in_unions}
use Rattle.night.specs.declared.Node.{Node}
use Rattle.night.specs.Night.{Night}
use Rattle.night.specs.Kinds.{its_pair, both_of, pairs_read, reads, read_together}
use Rattle.model.specs.Tables.{Listed}
use Rattle.run.specs.Run.{Some}

-- one of two lists
pub some_append : {A : Type 0} (Q : A → Type 0) (xs ys : List A) → Some Q (xs ++ ys) ↔ (Some Q xs ⊎ Some Q ys)
some_append Q [] ys = (inr, ⊎_elim (λ h. absurd h) (λ h. h))
some_append Q (x ∷ xs) ys = (
  ⊎_elim (λ h. inl (inl h)) (λ h. ⊎_elim (λ q. inl (inr q)) inr ((some_append Q xs ys).0 h)),
  ⊎_elim (⊎_elim inl (λ h. inr ((some_append Q xs ys).1 (inl h)))) (λ h. inr ((some_append Q xs ys).1 (inr h))),
)

-- one of the list f 0, f 1, .. below n
pub some_each : {A : Type 0} (Q : A → Type 0) (f : ℕ → A) (j n : ℕ) → j < n → Q (f j) → Some Q (each n f)
unfolding upwards
some_each Q f j zero l h = absurd (omega arith)
some_each Q f j (suc n) l h =
    (some_append Q (each n f) (f n ∷ [])).1 (⊎_elim (λ e. inr (inl (rw e at h))) (λ q. inl (some_each Q f j n q h)) (eq-or-lt_of_le (le_of_suc-le-suc l)))

-- and which of them it is
pub each_some : {A : Type 0} (Q : A → Type 0) (f : ℕ → A) (n : ℕ) → Some Q (each n f) → (j : ℕ) × (j < n) × Q (f j)
unfolding upwards
each_some Q f zero h = absurd h
each_some Q f (suc n) h =
    ⊎_elim
    (λ q.
    let w = each_some Q f n q in
    (w.0, omega (arith, w.1), w.2))
    (⊎_elim (λ q. (n, omega arith, q)) (λ q. absurd q))
    ((some_append Q (each n f) (f n ∷ [])).0 h)

-- a set of a list of sets
pub some_listed : (m : ℕ) (ts : List ℕ) → Some (λ t. m ≡ t) ts ↔ Listed m ts
some_listed m [] = (λ h. h, λ h. h)
some_listed m (t ∷ ts) = (⊎_elim inl (λ h. inr ((some_listed m ts).0 h)), ⊎_elim inl (λ h. inr ((some_listed m ts).1 h)))

-- what stands in a pair of kind 9 is read
pairs-read : (N : Night) (v : Node) → v.kind ≡ 9 → (a k : ℕ) → k < v.count → In a (both_of (its_pair N v k)) → In a (reads N v)
unfolding reads pairs_read its_pair
pairs-read N v e a k l h = rw e ((in_unions (λ k. both_of (its_pair N v k)) v.count a).1 (k, l, h))

-- so what is read together is read
pub together_read : (N : Night) (v : Node) (m : ℕ) → Some (λ t. m ≡ t) (read_together N v) → Within m (reads N v)
unfolding read_together
together_read N v m h = go (eqb v.kind 3) (eqb v.kind 5) (eqb v.kind 8) (eqb v.kind 9) refl h
  where
    all : Some (λ t. m ≡ t) (reads N v ∷ []) → Within m (reads N v)
    all = ⊎_elim (λ e k q. rw e at q) (λ q. absurd q)

    pair : v.kind ≡ 9 → Some (λ t. m ≡ t) (each v.count (λ k. both_of (its_pair N v k))) → Within m (reads N v)
    pair e h k q =
        let w = each_some (λ t. m ≡ t) (λ k. both_of (its_pair N v k)) v.count h in
        pairs-read N v e k w.0 w.1 (rw w.2 at q)

    go : (a b c d : Bool) → eqb v.kind 9 ≡ d
        → Some (λ t. m ≡ t) (if a then reads N v ∷ [] else if b then reads N v ∷ [] else if c then reads N v ∷ [] else if d then each v.count (λ k. both_of (its_pair N v k)) else [])
        → Within m (reads N v)
    go true b c d e = all
    go false true c d e = all
    go false false true d e = all
    go false false false true e = pair (eqb-true v.kind 9 e)
    go false false false false e = λ q. absurd q
