-- The search for the cheapest subject finds the lowest of the cheapest.
use Prim.Native.Nat.{ℕ, zero, suc, ◌+◌, ◌<◌, ◌≤◌}
use mathlib.Core.Path.{◌≡◌, refl, sym}
use mathlib.Core.Bool.{Bool, true, false}
use mathlib.Core.List.{List}
use mathlib.Core.Logic.{⊎_elim}
use native.Mathlib.Nat.{lt_of_not-le, eq-or-lt_of_le, le_of_suc-le-suc}
use native.Mathlib.Numerals.{add-one}
use native.Mathlib.Omega.{arith}
use lib.Dec.{ltb}
use borrow.Author.Tests.{ltb-true, ltb-false}
use Rattle.std.specs.Prelude.{Option, Some, None, is_some, if◌then◌else◌}
use Rattle.laws.proofs.Cases.{clash}
use Rattle.sets.specs.Sets.{In, member}
use Rattle.sets.proofs.Members.{member_in, not_member}
use Rattle.night.specs.Night.{Night}
use Rattle.model.specs.declared.Best.{Best}
use Rattle.model.specs.Dp.{no_best, least_of, lowest_of, better, handed_on, best_of}

-- a loop that looks for it
pub best_none : (N : Night) (row : List ℕ) (among size s : ℕ) → best_of N row among size s 0 ≡ no_best
unfolding best_of
best_none N row among size s = refl

pub best_more : (N : Night) (row : List ℕ) (among size s k : ℕ)
    → best_of N row among size s (k + 1) ≡ (if member among k then better (best_of N row among size s k) (handed_on N row size s k) k else best_of N row among size s k)
unfolding best_of
best_more N row among size s k = rw add-one refl

-- what is found among the subjects of a set below k, where f says what each costs
pub record Found (f : ℕ → ℕ) (among k : ℕ) (b : Option Best) : Type 0 where
  pub nothing : is_some b ≡ false → least_of b ≡ 0
  pub nobody : is_some b ≡ false → (t : ℕ) → t < k → In t among → ⊥
  pub below : is_some b ≡ true → lowest_of b < k
  pub there : is_some b ≡ true → In (lowest_of b) among
  pub cost : is_some b ≡ true → f (lowest_of b) ≡ least_of b
  pub cheapest : (t : ℕ) → t < k → In t among → least_of b ≤ f t
  pub low : (t : ℕ) → t < k → In t among → t < lowest_of b → least_of b < f t

-- what is not below a number is from it on
pub not_below : {a b : ℕ} → (a < b → ⊥) → b ≤ a
not_below h = le_of_suc-le-suc (lt_of_not-le h)

-- a test that does not hold fails, and one that does not fail holds
pub not_holds : (a : Bool) → (a ≡ true → ⊥) → a ≡ false
not_holds true h = absurd (h refl)
not_holds false h = refl

pub not_fails : (a : Bool) → (a ≡ false → ⊥) → a ≡ true
not_fails true h = refl
not_fails false h = absurd (h refl)

module _ (f : ℕ → ℕ) (among k : ℕ) where
  found_start : Found f among 0 no_best
  found_start =
      record {
        nothing = λ e. refl;
        nobody = λ e t l. absurd (omega arith);
        below = λ e. absurd (clash (sym e));
        there = λ e. absurd (clash (sym e));
        cost = λ e. absurd (clash (sym e));
        cheapest = λ t l. absurd (omega arith);
        low = λ t l. absurd (omega arith);
      }

  module _ (b : Option Best) (F : Found f among k b) where
    -- k is not in the set, or costs no less
    found_keep : (is_some b ≡ false → In k among → ⊥) → (In k among → least_of b ≤ f k) → Found f among (suc k) b
    found_keep away more =
        record {
          nothing = F.nothing;
          nobody = λ e t l h. ⊎_elim (λ q. away e (rw q at h)) (λ q. F.nobody e t q h) (eq-or-lt_of_le (le_of_suc-le-suc l));
          below = λ e. omega (arith, F.below e);
          there = F.there;
          cost = F.cost;
          cheapest = λ t l h. ⊎_elim (λ q. rw q (more (rw q at h))) (λ q. F.cheapest t q h) (eq-or-lt_of_le (le_of_suc-le-suc l));
          low = λ t l h s. ⊎_elim (λ q. absurd (past (is_some b) t refl q h s)) (λ q. F.low t q h s) (eq-or-lt_of_le (le_of_suc-le-suc l));
        }
      where
        past : (x : Bool) (t : ℕ) → is_some b ≡ x → t ≡ k → In t among → t < lowest_of b → ⊥
        past true t e q h s = omega (arith, F.below e)
        past false t e q h s = away e (rw q at h)

  -- k is the first, or costs less than all before
  found_new : In k among → ((t : ℕ) → t < k → In t among → f k < f t) → Found f among (suc k) (Some (record { least = f k; lowest = k }))
  found_new here less =
      record {
        nothing = λ e. absurd (clash e);
        nobody = λ e. absurd (clash e);
        below = λ e. omega arith;
        there = λ e. here;
        cost = λ e. refl;
        cheapest = λ t l h. ⊎_elim (λ q. rw q (omega arith)) (λ q. omega (arith, less t q h)) (eq-or-lt_of_le (le_of_suc-le-suc l));
        low = λ t l h s. less t s h;
      }

  found_better : (b : Option Best) → Found f among k b → In k among → Found f among (suc k) (better b (f k) k)
  unfolding better
  found_better None F here = found_new here (λ t l h. absurd (F.nobody refl t l h))
  found_better (Some b) F here = go (ltb (f k) b.least) refl
    where
      go : (y : Bool) → ltb (f k) b.least ≡ y → Found f among (suc k) (if y then Some (record { least = f k; lowest = k }) else Some b)
      go true e = found_new here (λ t l h. omega (arith, ltb-true (f k) b.least e, F.cheapest t l h))
      go false e = found_keep (Some b) F (λ z h. clash z) (λ h. ltb-false (f k) b.least e)

  found_more : (b : Option Best) → Found f among k b → Found f among (suc k) (if member among k then better b (f k) k else b)
  found_more b F = go (member among k) refl
    where
      go : (x : Bool) → member among k ≡ x → Found f among (suc k) (if x then better b (f k) k else b)
      go true e = found_better b F (member_in among k e)
      go false e = found_keep b F (λ z. not_member among k e) (λ h. absurd (not_member among k e h))

pub best_found : (N : Night) (row : List ℕ) (among size s k : ℕ) → Found (handed_on N row size s) among k (best_of N row among size s k)
unfolding best_of
best_found N row among size s zero = found_start (handed_on N row size s) among 0
best_found N row among size s (suc k) = found_more (handed_on N row size s) among k _ (best_found N row among size s k)

-- where the set has a subject there is a cheapest
pub found_some : {f : ℕ → ℕ} {among k : ℕ} {b : Option Best} (t : ℕ) → Found f among k b → t < k → In t among → is_some b ≡ true
found_some {b = b} t F l h = go (is_some b) refl
  where
    go : (x : Bool) → is_some b ≡ x → x ≡ true
    go true e = refl
    go false e = absurd (F.nobody e t l h)
