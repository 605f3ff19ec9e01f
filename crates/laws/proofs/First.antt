-- How a loop that looks for the first number is proved, and what the number is.
use Prim.Native.Nat.{ℕ, zero, suc, ◌+◌, ◌-◌, ◌<◌, ◌≤◌}
use mathlib.Core.Path.{◌≡◌, refl}
use mathlib.Core.Bool.{Bool, true, false}
use native.Mathlib.Numerals.{add-one}
use native.Mathlib.Omega.{arith}
use native.Mathlib.Decide.{le_ind}
use lib.Dec.{ltb}
use borrow.Author.Tests.{lt-ltb, le-ltb, ltb-true, ltb-false}
use Rattle.std.specs.Prelude.{if◌then◌else◌}
use Rattle.laws.specs.First.{first, somewhere}

-- a loop begins
pub first_none : (p : ℕ → Bool) → first p 0 ≡ 0
unfolding first
first_none p = refl

-- a turn that finds nothing
pub first_more : (p : ℕ → Bool) (i : ℕ) → first p i ≡ i → p i ≡ false → first p (i + 1) ≡ i + 1
unfolding first
first_more p i h e = rw (add-one) (simp (le-ltb (first p i) i (omega arith), e))

-- a turn that finds it
first_here : (p : ℕ → Bool) (i : ℕ) → first p i ≡ i → p i ≡ true → first p (suc i) ≡ i
unfolding first
first_here p i h e = simp (le-ltb (first p i) i (omega arith), e)

first_stays : (p : ℕ → Bool) (i m : ℕ) → i < m → first p m ≡ i → first p (suc m) ≡ i
unfolding first
first_stays p i m l h = rw (lt-ltb (first p m) m (omega arith)) h

pub first_found : (p : ℕ → Bool) (i n : ℕ) → first p i ≡ i → p i ≡ true → i < n → first p n ≡ i
first_found p i n h e l = le_ind (λ (m : ℕ). first p m ≡ i) (first_here p i h e) (first_stays p i) n l

-- a loop ends: none below n
pub first_all : (p : ℕ → Bool) (i n : ℕ) → first p i ≡ i → i ≡ n → first p n ≡ n
first_all p i n h e = rw e at h

pub somewhere_found : (p : ℕ → Bool) (i n : ℕ) → first p i ≡ i → p i ≡ true → i < n → somewhere p n ≡ true
unfolding somewhere
somewhere_found p i n h t l = rw (first_found p i n h t l) (lt-ltb i n l)

pub somewhere_none : (p : ℕ → Bool) (i n : ℕ) → first p i ≡ i → i ≡ n → somewhere p n ≡ false
unfolding somewhere
somewhere_none p i n h e = rw (first_all p i n h e) (le-ltb n n (omega arith))

-- every number below the first fails the test
pub first_below : (p : ℕ → Bool) (n k : ℕ) → k < first p n → p k ≡ false
unfolding first
first_below p zero k h = absurd (omega arith)
first_below p (suc n) k h = go (ltb (first p n) n) (p n) refl refl h (first_below p n k)
  where
    go : (b c : Bool) → ltb (first p n) n ≡ b → p n ≡ c → k < (if b then first p n else if c then n else suc n) → (k < first p n → p k ≡ false) → p k ≡ false
    go true c e q h below = below h
    go false true e q h below = below (omega (arith, ltb-false (first p n) n e))
    go false false e q h below = last (ltb k (first p n)) refl
      where
        last : (b : Bool) → ltb k (first p n) ≡ b → p k ≡ false
        last true l = below (ltb-true k (first p n) l)
        last false l =
            let same : k ≡ n = omega (arith, ltb-false k (first p n) l, ltb-false (first p n) n e) in
            rw same q

-- where the first is below n, the test holds at it
pub first_holds : (p : ℕ → Bool) (n : ℕ) → first p n < n → p (first p n) ≡ true
unfolding first
first_holds p zero h = absurd (omega arith)
first_holds p (suc n) h = go (ltb (first p n) n) (p n) refl refl h (first_holds p n)
  where
    go : (b c : Bool) → ltb (first p n) n ≡ b → p n ≡ c → (if b then first p n else if c then n else suc n) < suc n
        → (first p n < n → p (first p n) ≡ true) → p (if b then first p n else if c then n else suc n) ≡ true
    go true c e q h holds = holds (ltb-true (first p n) n e)
    go false true e q h holds = q
    go false false e q h holds = absurd (omega arith)

-- the test holds nowhere below n
pub somewhere_false : (p : ℕ → Bool) (n : ℕ) → somewhere p n ≡ false → (k : ℕ) → k < n → p k ≡ false
unfolding somewhere
somewhere_false p n e k l = first_below p n k (omega (arith, ltb-false (first p n) n e))

-- the test holds at some number below n
pub somewhere_true : (p : ℕ → Bool) (n : ℕ) → somewhere p n ≡ true → (k : ℕ) × (k < n) × (p k ≡ true)
unfolding somewhere
somewhere_true p n e = (first p n, ltb-true (first p n) n e, first_holds p n (ltb-true (first p n) n e))

-- a test that fails everywhere below n holds nowhere there
pub none_before : (p : ℕ → Bool) (n : ℕ) → ((k : ℕ) → k < n → p k ≡ false) → first p n ≡ n
unfolding first
none_before p zero h = refl
none_before p (suc n) h = rw (le-ltb (first p n) n (omega (arith, none_before p n (λ k l. h k (omega arith)))), h n (omega arith)) refl

pub nowhere : (p : ℕ → Bool) (n : ℕ) → ((k : ℕ) → k < n → p k ≡ false) → somewhere p n ≡ false
nowhere p n h = somewhere_none p n n (none_before p n h) refl

-- two tests that agree below n have the same first
pub first_same : (p q : ℕ → Bool) (n : ℕ) → ((k : ℕ) → k < n → p k ≡ q k) → first p n ≡ first q n
unfolding first
first_same p q zero h = refl
first_same p q (suc n) h = rw (first_same p q n (λ k l. h k (omega arith)), h n (omega arith)) refl

-- a stretch of m numbers from i on, where the test holds at none below i: at none before the first of the stretch, and then at that
module _ (p : ℕ → Bool) (i m : ℕ) (h : first p i ≡ i) where
  pub stretch_none : (j : ℕ) → j ≤ first (λ k. p (i + k)) m → first p (i + j) ≡ i + j
  stretch_none j l = none_before p (i + j) (λ k b. go k b (ltb k i) refl)
    where
      go : (k : ℕ) → k < i + j → (b : Bool) → ltb k i ≡ b → p k ≡ false
      go k b true e = first_below p i k (omega (arith, ltb-true k i e))
      go k b false e =
          let same : i + (k - i) ≡ k = omega (arith, ltb-false k i e) in
          rw same at (first_below (λ k. p (i + k)) m (k - i) (omega (arith, ltb-false k i e)))

  pub stretch_found : (n : ℕ) → first (λ k. p (i + k)) m < m → i + m ≤ n → first p n ≡ i + first (λ k. p (i + k)) m
  stretch_found n l b = first_found p (i + first (λ k. p (i + k)) m) n (stretch_none (first (λ k. p (i + k)) m) (omega arith)) (first_holds (λ k. p (i + k)) m l) (omega arith)
