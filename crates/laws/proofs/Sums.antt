-- Laws on sums.
use Prim.Native.Nat.{ℕ, zero, suc, ◌+◌, ◌*◌, ◌<◌, ◌≤◌}
use mathlib.Core.Path.{◌≡◌, refl}
use mathlib.Core.Logic.{⊎_elim}
use native.Mathlib.Nat.{zero-mul, suc-mul, eq-or-lt_of_le, le_of_suc-le-suc}
use native.Mathlib.Numerals.{add-one}
use native.Mathlib.Omega.{arith}
use Rattle.laws.specs.Sums.{sum}

-- a loop that adds up
pub sum_none : (f : ℕ → ℕ) → sum f 0 ≡ 0
unfolding sum
sum_none f = refl

pub sum_more : (f : ℕ → ℕ) (n : ℕ) → sum f (n + 1) ≡ sum f n + f n
unfolding sum
sum_more f n = rw add-one refl

pub sum_last : (f : ℕ → ℕ) (n : ℕ) → sum f (suc n) ≡ sum f n + f n
unfolding sum
sum_last f n = refl

-- term by term
pub sum_le : (f g : ℕ → ℕ) (n : ℕ) → ((i : ℕ) → i < n → f i ≤ g i) → sum f n ≤ sum g n
unfolding sum
sum_le f g zero h = omega arith
sum_le f g (suc n) h = omega (arith, sum_le f g n (λ i l. h i (omega arith)), h n (omega arith))

pub sum_same : (f g : ℕ → ℕ) (n : ℕ) → ((i : ℕ) → i < n → f i ≡ g i) → sum f n ≡ sum g n
unfolding sum
sum_same f g zero h = refl
sum_same f g (suc n) h = omega (arith, sum_same f g n (λ i l. h i (omega arith)), h n (omega arith))

-- one term's difference is at most that of the sums
pub sum_tight : (f g : ℕ → ℕ) (k n : ℕ) → k < n → ((i : ℕ) → i < n → f i ≤ g i) → sum f n + g k ≤ sum g n + f k
unfolding sum
sum_tight f g k zero l h = absurd (omega arith)
sum_tight f g k (suc n) l h =
    ⊎_elim (λ e. rw e (omega (arith, sum_le f g n (λ i q. h i (omega arith))))) (λ q. omega (arith, sum_tight f g k n q (λ i r. h i (omega arith)), h n (omega arith)))
    (eq-or-lt_of_le (le_of_suc-le-suc l))

pub sum_add : (f g : ℕ → ℕ) (n : ℕ) → sum (λ i. f i + g i) n ≡ sum f n + sum g n
unfolding sum
sum_add f g zero = refl
sum_add f g (suc n) = omega (arith, sum_add f g n)

pub sum_const : (a n : ℕ) → sum (λ i. a) n ≡ n * a
unfolding sum
sum_const a zero = rw zero-mul refl
sum_const a (suc n) = rw (suc-mul, sum_const a n) refl

-- all terms but one are 0
pub sum_zero : (f : ℕ → ℕ) (n : ℕ) → ((i : ℕ) → i < n → f i ≡ 0) → sum f n ≡ 0
unfolding sum
sum_zero f zero h = refl
sum_zero f (suc n) h = omega (arith, sum_zero f n (λ i l. h i (omega arith)), h n (omega arith))

pub sum_pick : (f : ℕ → ℕ) (k n : ℕ) → k < n → ((i : ℕ) → i < n → (i ≡ k → ⊥) → f i ≡ 0) → sum f n ≡ f k
unfolding sum
sum_pick f k zero l h = absurd (omega arith)
sum_pick f k (suc n) l h =
    ⊎_elim (λ e. rw e (omega (arith, sum_zero f n (λ i q. h i (omega arith) (λ z. omega arith)))))
    (λ q. omega (arith, sum_pick f k n q (λ i r. h i (omega arith)), h n (omega arith) (λ z. omega arith)))
    (eq-or-lt_of_le (le_of_suc-le-suc l))

-- a sum of sums, the other way round
pub sum_swap : (f : ℕ → ℕ → ℕ) (n m : ℕ) → sum (λ i. sum (λ j. f i j) m) n ≡ sum (λ j. sum (λ i. f i j) n) m
unfolding sum
sum_swap f zero m = simp (sum_zero (λ j. 0) m (λ j l. refl))
sum_swap f (suc n) m = rw (sum_add (λ j. sum (λ i. f i j) n) (λ j. f n j) m, sum_swap f n m) refl
