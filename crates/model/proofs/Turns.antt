-- Numbers two by two: how long they are, what they rest on, and a room filled with them.
use Prim.Native.Nat.{ℕ, zero, suc, ◌+◌, ◌*◌, ◌<◌}
use mathlib.Core.Path.{◌≡◌, refl, ◌∙◌}
use mathlib.Core.List.{List, [], ◌∷◌, ◌++◌, append_assoc}
use mathlib.Core.Logic.{⊎_elim}
use native.Mathlib.Nat.{eq-or-lt_of_le}
use native.Mathlib.Numerals.{add-one}
use native.Mathlib.Omega.{arith}
use lib.ListN.{length, get_or, set, drop, length-append}
use lib.Seq.{get_or_at}
use Rattle.laws.proofs.Front.{front_two}
use Rattle.model.specs.Plan.{in_turn}

turn_length : (f g : ℕ → ℕ) (n : ℕ) → length (in_turn f g n) ≡ 2 * n
unfolding in_turn
turn_length f g zero = refl
turn_length f g (suc n) = rw (length-append (in_turn f g n) (f n ∷ g n ∷ []), turn_length f g n) (omega arith)

pub turn_same : (f g h k : ℕ → ℕ) (n : ℕ) → ((i : ℕ) → i < n → f i ≡ h i) → ((i : ℕ) → i < n → g i ≡ k i) → in_turn f g n ≡ in_turn h k n
unfolding in_turn
turn_same f g h k zero p q = refl
turn_same f g h k (suc n) p q = rw (turn_same f g h k n (λ i l. p i (omega arith)) (λ i l. q i (omega arith)), p n (omega arith), q n (omega arith)) refl

-- the two numbers of i, whatever follows
pub turn_at : (f g : ℕ → ℕ) (n i : ℕ) (more : List ℕ) → i < n → (get_or (in_turn f g n ++ more) (2 * i) 0 ≡ f i) × (get_or (in_turn f g n ++ more) (2 * i + 1) 0 ≡ g i)
unfolding in_turn
turn_at f g zero i more l = elim l [ ]
turn_at f g (suc n) i more l = rw (append_assoc (in_turn f g n) (f n ∷ g n ∷ []) more) (⊎_elim last (λ h. turn_at f g n i (f n ∷ g n ∷ more) (omega arith)) (eq-or-lt_of_le l))
  where
    longer : length (in_turn f g n ++ (f n ∷ [])) ≡ 2 * n + 1
    longer = length-append (in_turn f g n) (f n ∷ []) ∙ rw (turn_length f g n) refl

    second : get_or (in_turn f g n ++ (f n ∷ g n ∷ more)) (2 * n + 1) 0 ≡ g n
    second = rw (append_assoc (in_turn f g n) (f n ∷ []) (g n ∷ more)) at (get_or_at (in_turn f g n ++ (f n ∷ [])) (g n) more 0 (2 * n + 1) longer)

    last : suc i ≡ suc n → (get_or (in_turn f g n ++ (f n ∷ g n ∷ more)) (2 * i) 0 ≡ f i) × (get_or (in_turn f g n ++ (f n ∷ g n ∷ more)) (2 * i + 1) 0 ≡ g i)
    last e =
        let same : i ≡ n = omega arith in
        rw same (get_or_at (in_turn f g n) (f n) (g n ∷ more) 0 (2 * n) (turn_length f g n), second)

-- nothing is filled yet
pub turn_none : (f g : ℕ → ℕ) (room : List ℕ) → room ≡ in_turn f g 0 ++ drop (2 * 0) room
unfolding in_turn
turn_none f g room = refl

-- two stores more
pub turn_more : (f g : ℕ → ℕ) (before room : List ℕ) (i v w : ℕ) → 2 * i + 1 < length before → room ≡ in_turn f g i ++ drop (2 * i) before → v ≡ f i → w ≡ g i
    → set (set room (2 * i) v) (2 * i + 1) w ≡ in_turn f g (i + 1) ++ drop (2 * (i + 1)) before
unfolding in_turn
turn_more f g before room i v w l inv e q =
    let after : 2 * suc i ≡ 2 * i + 2 = omega arith in
    rw (inv, e, q, add-one i, after) (front_two (in_turn f g i) before (f i) (g i) (2 * i) (turn_length f g i) l)
