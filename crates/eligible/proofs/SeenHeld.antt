-- What one pass over the grants holds, place by place: what is in it, and how it grows by a grant.
use Prim.Native.Nat.{ℕ, ◌+◌, ◌<◌}
use mathlib.Core.Path.{◌≡◌, refl, sym, ap, ◌∙◌}
use mathlib.Core.Bool.{Bool, true, false}
use mathlib.Core.List.{List}
use mathlib.Core.Logic.{◌↔◌}
use native.Mathlib.Omega.{arith}
use lib.Dec.{eqb}
use lib.ListN.{length, get_or, set, replicate, length-set, length-replicate}
use lib.Seq.{ext_get_or, get_or-set_same, get_or-set_other}
use borrow.Author.Tests.{eq-eqb, ne_eqb, eqb-true, eqb-false}
use Rattle.std.specs.Prelude.{if◌then◌else◌}
use Rattle.laws.specs.Upwards.{each}
use Rattle.laws.proofs.Upwards.{agrees_none, upwards_past, each_at, each_length, each_same}
use Rattle.sets.specs.Sets.{In, union, unions}
use Rattle.sets.proofs.Members.{in_none, in_unions}
use Rattle.sets.proofs.Words.{unions_more}
use Rattle.night.specs.declared.Grant.{Grant}
use Rattle.night.specs.Night.{Night, grant_of}
use Rattle.model.proofs.TableLaws.{union_none}
use Rattle.eligible.specs.Seen.{held_at}
use Rattle.eligible.proofs.Asked.{unions_kept}

-- what is in a set that is chosen or not at all
in_chosen : (b : Bool) (s a : ℕ) → In a (if b then s else 0) → (b ≡ true) × In a s
in_chosen true s a h = (refl, h)
in_chosen false s a h = absurd (in_none a h)

module _ (to sets : Grant → ℕ) (N : Night) where
  -- what grant j adds to place k
  abbrev added : ℕ → ℕ → ℕ
  added k j = if eqb (to (grant_of N j)) k then sets (grant_of N j) else 0

  -- what place k of m has is what one of its grants has
  pub in_held : (m n k a : ℕ) → k < m
      → In a (get_or (each m (held_at to sets N n)) k 0) ↔ ((j : ℕ) × (j < n) × (to (grant_of N j) ≡ k) × In a (sets (grant_of N j)))
  unfolding held_at
  in_held m n k a l =
      rw (each_at (held_at to sets N n) 0 k m l) (
        λ h.
            let w = (in_unions (added k) n a).0 h in
            let q = in_chosen (eqb (to (grant_of N w.0)) k) (sets (grant_of N w.0)) a w.2 in
            (w.0, w.1, eqb-true _ _ q.0, q.1),
        λ h. (in_unions (added k) n a).1 (h.0, h.1, rw (eq-eqb (to (grant_of N h.0)) k h.2) h.3),
      )

  -- no grant, nothing held
  pub held_none : (m : ℕ) → replicate m 0 ≡ each m (held_at to sets N 0)
  unfolding held_at unions
  held_none m =
      ext_get_or 0 (replicate m 0) (each m (held_at to sets N 0)) (length-replicate {A = ℕ} m 0 ∙ sym (each_length (held_at to sets N 0) m))
      (λ k l. zero_at k ∙ sym (each_at (held_at to sets N 0) 0 k m (rw (length-replicate {A = ℕ} m 0) at l)))
    where
      zero_at : (k : ℕ) → get_or {A = ℕ} (replicate m 0) k 0 ≡ 0
      zero_at k = agrees_none (λ before i. 0) 0 m k ∙ upwards_past (λ before i. 0) 0 k 0 (omega arith)

  -- one grant more: at its place, and at the others
  held_here : (n k : ℕ) → to (grant_of N n) ≡ k → held_at to sets N (n + 1) k ≡ union (held_at to sets N n k) (sets (grant_of N n))
  unfolding held_at
  held_here n k e = unions_more (added k) n ∙ rw (eq-eqb (to (grant_of N n)) k e) refl

  held_other : (n k : ℕ) → (to (grant_of N n) ≡ k → ⊥) → held_at to sets N (n + 1) k ≡ held_at to sets N n k
  unfolding held_at
  held_other n k h = unions_more (added k) n ∙ rw (ne_eqb (to (grant_of N n)) k h) (union_none (unions (added k) n))

  -- a grant whose sets are empty adds nothing anywhere
  pub held_kept : {t : ℕ} {g : Grant} (m n : ℕ) (out : List ℕ) → g ≡ grant_of N n → out ≡ each m (held_at to sets N n) → t ≡ sets g → t ≡ 0
      → out ≡ each m (held_at to sets N (n + 1))
  unfolding held_at
  held_kept {t} {g} m n out read inv more none =
      let empty : sets (grant_of N n) ≡ 0 = ap sets (sym read) ∙ (sym more ∙ none) in
      inv ∙ each_same (held_at to sets N n) (held_at to sets N (n + 1)) m (λ k l. unions_kept (added k) n refl (chosen k empty) refl)
    where
      chosen : (k : ℕ) → sets (grant_of N n) ≡ 0 → added k n ≡ 0
      chosen k empty = rw empty (either (eqb (to (grant_of N n)) k))
        where
          either : (b : Bool) → ◌≡◌ {A = ℕ} (if b then 0 else 0) 0
          either true = refl
          either false = refl

  -- a turn of the pass: the grant's sets are joined to what its place holds, and every other place stays
  pub held_turn : {at s t : ℕ} {g : Grant} (m n : ℕ) (out : List ℕ) → g ≡ grant_of N n → at ≡ to g → at < m → out ≡ each m (held_at to sets N n)
      → t ≡ sets g → s ≡ union (get_or out at 0) t → set out at s ≡ each m (held_at to sets N (n + 1))
  held_turn {at} {s} {t} {g} m n out read here low inv more joined =
      ext_get_or 0 (set out at s) (each m (held_at to sets N (n + 1))) (long ∙ sym (each_length (held_at to sets N (n + 1)) m))
      (λ k l. by_place k (rw long at l) (eqb k at) refl ∙ sym (each_at (held_at to sets N (n + 1)) 0 k m (rw long at l)))
    where
      long_before : length out ≡ m
      long_before = ap length inv ∙ each_length (held_at to sets N n) m

      long : length (set out at s) ≡ m
      long = length-set out at s ∙ long_before

      held-at : (k : ℕ) → k < m → get_or out k 0 ≡ held_at to sets N n k
      held-at k l = ap (λ (xs : List ℕ). get_or xs k 0) inv ∙ each_at (held_at to sets N n) 0 k m l

      to_here : to (grant_of N n) ≡ at
      to_here = sym (here ∙ ap to read)

      grown : s ≡ held_at to sets N (n + 1) at
      grown = joined ∙ (λ i. union (held-at at low i) ((more ∙ ap sets read) i)) ∙ sym (held_here n at to_here)

      by_place : (k : ℕ) → k < m → (b : Bool) → eqb k at ≡ b → get_or (set out at s) k 0 ≡ held_at to sets N (n + 1) k
      by_place k l true e = rw (eqb-true k at e) (get_or-set_same out at s 0 (rw long_before low) ∙ grown)
      by_place k l false e =
          get_or-set_other out at k s 0 (eqb-false k at e) ∙ held-at k l ∙ sym (held_other n k (λ q. eqb-false k at e (sym q ∙ to_here)))
