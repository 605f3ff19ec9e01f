-- Looking for the next in stretches, and going on behind one that does not serve.
use Prim.Native.Nat.{ℕ, ◌+◌, ◌-◌, ◌<◌, ◌≤◌}
use mathlib.Core.Path.{◌≡◌, refl}
use mathlib.Core.Bool.{Bool, true, false}
use native.Mathlib.Omega.{arith}
use lib.Dec.{ltb}
use borrow.Author.Tests.{ltb-true, ltb-false}
use Rattle.laws.specs.First.{first}
use Rattle.laws.proofs.First.{none_before, first_below, first_holds}
use Rattle.night.specs.declared.Grant.{Grant}
use Rattle.night.specs.Views.{is_for, shares_day, is_for_on}
use Rattle.views.specs.Stretch.{Next}

-- none from `start` on, and none of a stretch before its first
pub none_more : (p : ℕ → Bool) (start from m : ℕ) → ((k : ℕ) → start ≤ k → k < from → p k ≡ false)
    → (j : ℕ) → j ≤ first (λ k. p (from + k)) m → (k : ℕ) → start ≤ k → k < from + j → p k ≡ false
none_more p start from m none j l k a b = go (ltb k from) refl
  where
    go : (x : Bool) → ltb k from ≡ x → p k ≡ false
    go true e = none k a (ltb-true k from e)
    go false e =
        let same : from + (k - from) ≡ k = omega (arith, ltb-false k from e) in
        rw same at (first_below (λ k. p (from + k)) m (k - from) (omega (arith, ltb-false k from e)))

-- the first of a stretch is the next
pub next_found : {j : ℕ} (p : ℕ → Bool) (start from m n : ℕ) → start ≤ from → ((k : ℕ) → start ≤ k → k < from → p k ≡ false)
    → j ≡ first (λ k. p (from + k)) m → j < m → from + m ≤ n → Next p start n (from + j)
next_found {j} p start from m n later none e l within =
    record {
      after = omega arith;
      within = omega arith;
      none = none_more p start from m none j (rw (← e) (omega arith));
      found = λ _. rw e (first_holds (λ k. p (from + k)) m (rw (← e) l));
    }

-- a test that needs another holds nowhere that one doesn't
module _ (g : ℕ → Grant) (r p from to : ℕ) where
  abbrev pair : ℕ → Bool
  pair k = is_for (g k) r p

  abbrev dated : ℕ → Bool
  dated k = is_for_on (g k) r p from to

  no-pair : (k : ℕ) → pair k ≡ false → dated k ≡ false
  unfolding is_for_on
  no-pair k e = rw e refl

  the_day : (k : ℕ) → pair k ≡ true → dated k ≡ shares_day (g k) from to
  unfolding is_for_on
  the_day k e = rw e refl

  -- so up to the next for the pair there is none, and it is the one exactly where it shares a day
  pub upto_next : (at n j : ℕ) → first dated at ≡ at → Next pair at n j → first dated j ≡ j
  upto_next at n j h next = none_before dated j (λ k l. go k l (ltb k at) refl)
    where
      go : (k : ℕ) → k < j → (b : Bool) → ltb k at ≡ b → dated k ≡ false
      go k l true e = first_below dated at k (omega (arith, ltb-true k at e))
      go k l false e = no-pair k (next.none k (ltb-false k at e) l)

  pub at_next : (at n j : ℕ) → Next pair at n j → j < n → dated j ≡ shares_day (g j) from to
  at_next at n j next l = the_day j (next.found l)
