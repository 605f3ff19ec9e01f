-- Sets in words of w bits: what shifts and masks make, over the width.
use Prim.Native.Nat.{ℕ, zero, suc, ◌+◌, ◌*◌, ◌-◌, ◌/◌, ◌%◌, ◌^◌, ◌<◌, ◌≤◌, min}
use mathlib.Core.Path.{◌≡◌, refl, sym, ap, ◌∙◌}
use mathlib.Core.Bool.{false}
use mathlib.Core.Logic.{⊎_elim, ◌↔◌}
use native.Mathlib.Nat.{div_self, pow-suc, mod-lt, mod-eq_of_lt, mul-mod_left, one-mul, lt_of_not-le, lt_of_lt_of_le, eq-or-lt_of_le, le_of_suc-le-suc}
use native.Mathlib.Numerals.{add-one}
use native.Mathlib.Omega.{arith}
use lib.Dec.{eqb, ltb}
use lib.Pow.{pow_pos, pow-lt, pow_mono, pow-add, ones_lt}
use lib.Bits.{or_lt, and_le_l}
use lib.Count.{count_trailing_zeros, under, trailing_of_zero, trailing_le, ones_step, ones-le}
use borrow.Author.Tests.{ne_eqb, eqb-false, le-ltb}
use Rattle.std.specs.Int.Bits.{bit_and}
use Rattle.std.proofs.lemmas.Nat.{and_comm, and-not}
use Rattle.std.proofs.lemmas.Grind.{bit_length}
use Rattle.sets.specs.Sets.{bit, In, member, union, meet, minus, Within, within, apart, below, single, lowest, size, count_below, unions}
use Rattle.sets.proofs.Members.{same_below, same_members, below_pow, in_or_not, in_meet, in_minus, bit_lt, bit_zero, bit_suc, bit_none, bit_beyond, in_none}

-- the digit that a shift brings to the end, and none past the word
pub member_shift : (S k : ℕ) → eqb (S / 2 ^ k % 2) 1 ≡ member S k
unfolding member bit
member_shift S k = refl

pub member_past : (w S k : ℕ) → S < 2 ^ w → w ≤ k → ltb k w ≡ member S k
unfolding member
member_past w S k h l = rw (le-ltb k w l, ne_eqb (bit S k) 1 (λ e. omega (arith, bit_beyond w S k h l))) refl

-- one shifted to k
pub single_is : (w k : ℕ) → k < w → single w k ≡ 2 ^ k
unfolding single
single_is w k l = mod-eq_of_lt (pow-lt l)

pub single_shift : (w word k : ℕ) → word ≡ 2 ^ w → 1 * 2 ^ k % word ≡ single w k
unfolding single
single_shift w word k e = rw (one-mul, e) refl

shift_one : (w k : ℕ) → k < w → 1 * 2 ^ k % 2 ^ w ≡ 2 ^ k
shift_one w k l = single_shift w _ k refl ∙ single_is w k l

pub single_past : (w k : ℕ) → w ≤ k → 0 ≡ single w k
unfolding single
single_past w k l =
    let e : k - w + w ≡ k = omega arith in
    sym (rw (← pow-add 2 (k - w) w, e) at (mul-mod_left (2 ^ (k - w)) (2 ^ w)))

pub below_shift : (w word k : ℕ) → word ≡ 2 ^ w → k < w → 1 * 2 ^ k % word - 1 ≡ below w k
unfolding below
below_shift w word k s l =
    let e : min k w ≡ k = omega arith in
    rw (s, shift_one w k l, e) refl

pub below_past : (w k : ℕ) → w ≤ k → 2 ^ w - 1 ≡ below w k
unfolding below
below_past w k l =
    let e : min k w ≡ w = omega arith in
    rw e refl

-- members of these
in_pow : (k : ℕ) → In k (2 ^ k)
unfolding bit
in_pow k = rw (div_self (pow_pos k)) refl

pow_in : (j k : ℕ) → In j (2 ^ k) → j ≡ k
pow_in zero zero h = refl
pow_in zero (suc k) h = omega (arith, bit_zero (2 ^ suc k), pow-suc 2 k)
pow_in (suc j) zero h = omega (arith, bit_suc 1 j, bit_none j)
pow_in (suc j) (suc k) h =
    let e : 2 ^ suc k / 2 ≡ 2 ^ k = omega (arith, pow-suc 2 k) in
    ap suc (pow_in j k (rw (bit_suc, e) at h))

pub in_single : (w j k : ℕ) → In j (single w k) ↔ ((j ≡ k) × (k < w))
in_single w j k = (
  λ h.
      let l : k < w = lt_of_not-le (λ g. in_none j (rw (← single_past w k g) at h)) in
      (pow_in j k (rw (single_is w k l) at h), l),
  λ h. rw (h.0, single_is w k h.1) (in_pow k),
)

in_ones : (n k : ℕ) → k < n → In k (2 ^ n - 1)
in_ones zero k h = omega arith
in_ones (suc n) zero h = bit_zero (2 ^ suc n - 1) ∙ rw pow-suc (omega (arith, pow_pos n))
in_ones (suc n) (suc k) h =
    let e : (2 ^ suc n - 1) / 2 ≡ 2 ^ n - 1 = omega (arith, pow-suc 2 n, pow_pos n) in
    bit_suc (2 ^ suc n - 1) k ∙ rw e (in_ones n k (omega arith))

ones_in : (n k : ℕ) → In k (2 ^ n - 1) → k < n
ones_in n k h = lt_of_not-le (λ g. omega (arith, bit_beyond n (2 ^ n - 1) k (ones_lt n) g))

pub in_below : (w n k : ℕ) → In k (below w n) ↔ ((k < n) × (k < w))
unfolding below
in_below w n k = (
  λ h.
      let l : k < min n w = ones_in (min n w) k h in
      (omega arith, omega arith),
  λ h. in_ones (min n w) k (omega arith),
)

-- the lowest member
under_in : (S d t : ℕ) → S % 2 ≡ d → (d ≡ 0 → In t (S / 2)) → In (under d t) S
under_in S zero t e f = bit_suc S t ∙ f refl
under_in S (suc d) t e f = omega (arith, bit_zero S)

pub lowest_in : (w S : ℕ) → S < 2 ^ w → 0 < S → In (lowest w S) S
unfolding lowest count_trailing_zeros
lowest_in zero S h l = omega arith
lowest_in (suc w) S h l =
    under_in S (S % 2) (count_trailing_zeros w (S / 2)) refl (λ e. lowest_in w (S / 2) (omega (arith, pow-suc 2 w)) (omega arith))

under_low : (S d t k : ℕ) → S % 2 ≡ d → ((j : ℕ) → j < t → In j (S / 2) → ⊥) → k < under d t → In k S → ⊥
under_low S zero t zero e f h m = omega (arith, bit_zero S)
under_low S zero t (suc k) e f h m = f k (omega arith) (sym (bit_suc S k) ∙ m)
under_low S (suc d) t k e f h m = omega arith

pub lowest_low : (w S k : ℕ) → k < lowest w S → In k S → ⊥
unfolding lowest count_trailing_zeros
lowest_low zero S k h = omega arith
lowest_low (suc w) S k h = under_low S (S % 2) (count_trailing_zeros w (S / 2)) k refl (lowest_low w (S / 2)) h

pub lowest_most : (w S : ℕ) → lowest w S ≤ w
unfolding lowest
lowest_most w S = trailing_le w S

pub lowest_none : (w : ℕ) → lowest w 0 ≡ w
unfolding lowest
lowest_none w = trailing_of_zero w

-- a set that is not empty has a member; so has one that does not lie in another, outside it, and one that meets another, in it
pub some_member : (S : ℕ) → (S ≡ 0 → ⊥) → (k : ℕ) × In k S
some_member S h = (lowest S S, lowest_in S S (below_pow S) (lt_of_not-le (λ g. h (omega arith))))

pub not_within : (a b : ℕ) → within a b ≡ false → (k : ℕ) × In k a × (In k b → ⊥)
unfolding within
not_within a b e =
    let w = some_member (minus a b) (λ z. eqb-false (meet a b) a e (same_members (meet a b) a (λ k h. ((in_meet a b k).0 h).0) (λ k h. (in_meet a b k).1 (h, inside z k h)))) in
    (w.0, ((in_minus a b w.0).0 w.1).0, ((in_minus a b w.0).0 w.1).1)
  where
    inside : minus a b ≡ 0 → (k : ℕ) → In k a → In k b
    inside z k h = ⊎_elim (λ q. q) (λ q. absurd (in_none k (rw z at ((in_minus a b k).1 (h, q))))) (in_or_not k b)

pub not_apart : (a b : ℕ) → apart a b ≡ false → (k : ℕ) × In k a × In k b
unfolding apart
not_apart a b e =
    let w = some_member (meet a b) (eqb-false (meet a b) 0 e) in
    (w.0, ((in_meet a b w.0).0 w.1).0, ((in_meet a b w.0).0 w.1).1)

-- the size is the number of members
count_step : (n S : ℕ) → count_below (suc n) S ≡ S % 2 + count_below n (S / 2)
unfolding count_below
count_step zero S = omega (arith, bit_zero S)
count_step (suc n) S = omega (arith, count_step n S, bit_suc S n)

pub size_counts : (n S : ℕ) → S < 2 ^ n → size S ≡ count_below n S
unfolding size count_below
size_counts zero S h = omega (arith, ones-le 0 S h)
size_counts (suc n) S h = omega (arith, ones_step S, size_counts n (S / 2) (omega (arith, pow-suc 2 n)), count_step n S)

-- a set within another has no more members, and is the same where it has as many
pub count_most : (n S : ℕ) → count_below n S ≤ n
unfolding count_below
count_most zero S = omega arith
count_most (suc n) S = omega (arith, count_most n S, bit_lt S n)

bit_le : (a b k : ℕ) → Within a b → bit a k ≤ bit b k
bit_le a b k f = go (bit a k) refl (bit_lt a k)
  where
    go : (x : ℕ) → bit a k ≡ x → x < 2 → x ≤ bit b k
    go zero e l = omega arith
    go (suc x) e l = omega (arith, f k (omega arith))

count_le : (n a b : ℕ) → Within a b → count_below n a ≤ count_below n b
unfolding count_below
count_le zero a b f = omega arith
count_le (suc n) a b f = omega (arith, count_le n a b f, bit_le a b n f)

count_tight : (n a b : ℕ) → Within a b → count_below n b ≤ count_below n a → (k : ℕ) → k < n → bit a k ≡ bit b k
unfolding count_below
count_tight zero a b f h k l = absurd (omega arith)
count_tight (suc n) a b f h k l =
    ⊎_elim
    (λ q. rw q (omega (arith, count_le n a b f, bit_le a b n f)))
    (count_tight n a b f (omega (arith, bit_le a b n f)) k)
    (eq-or-lt_of_le (le_of_suc-le-suc l))

pub count_grows : (w a b : ℕ) → a < 2 ^ w → b < 2 ^ w → Within a b → (a ≡ b → ⊥) → count_below w a < count_below w b
count_grows w a b ha hb f differ = lt_of_not-le (λ g. differ (same_below w a b ha hb (count_tight w a b f g)))

-- what a mask leaves of a set, in words whose largest is top
pub minus_mask : (a top b : ℕ) → top + 1 ≡ 2 ^ bit_length 128 top → a ≤ top → b ≤ top → bit_and a (top - b) ≡ minus a b
unfolding minus
minus_mask a top b e ha hb =
    let w = bit_length 128 top in
    let rest : top - b ≡ 2 ^ w - 1 - b = omega arith in
    let whole : bit_and (2 ^ w - 1 - b) a + bit_and b a ≡ a = and-not w b a (omega arith) (omega arith) in
    rw (rest, and_comm a b, and_comm a (2 ^ w - 1 - b)) (omega arith)

-- what the code of a word makes
pub ruleset laws = (member_shift, member_past, single_shift, single_past, below_shift, below_past, minus_mask)

-- within the word
pub union_lt : (w a b : ℕ) → a < 2 ^ w → b < 2 ^ w → union a b < 2 ^ w
unfolding union
union_lt w a b ha hb = or_lt w a b ha hb

pub unions_lt : (w : ℕ) (f : ℕ → ℕ) (n : ℕ) → ((i : ℕ) → i < n → f i < 2 ^ w) → unions f n < 2 ^ w
unfolding unions
unions_lt w f zero h = pow_pos w
unions_lt w f (suc n) h = union_lt w (unions f n) (f n) (unions_lt w f n (λ i l. h i (omega arith))) (h n (omega arith))

pub single_lt : (w k : ℕ) → single w k < 2 ^ w
unfolding single
single_lt w k = mod-lt (2 ^ k) (pow_pos w)

pub below_lt : (w k : ℕ) → below w k < 2 ^ w
unfolding below
below_lt w k = lt_of_lt_of_le (ones_lt (min k w)) (pow_mono (omega arith))

pub meet_lt : (w a b : ℕ) → a < 2 ^ w → meet a b < 2 ^ w
unfolding meet
meet_lt w a b h = omega (arith, and_le_l a b)

-- one more set
pub unions_none : (f : ℕ → ℕ) → unions f 0 ≡ 0
unfolding unions
unions_none f = refl

pub unions_more : (f : ℕ → ℕ) (n : ℕ) → unions f (n + 1) ≡ union (unions f n) (f n)
unfolding unions
unions_more f n = rw add-one refl

-- a turn of a loop: the next set joined to those so far
pub unions_turn : {all s next : ℕ} (f : ℕ → ℕ) (n : ℕ) → all ≡ unions f n → s ≡ f n → next ≡ union all s → next ≡ unions f (n + 1)
unions_turn f n all s next = next ∙ (λ i. union (all i) (s i)) ∙ sym (unions_more f n)

-- a set whose members are below w fits a word of w bits
pub members_lt : (w S : ℕ) → ((k : ℕ) → In k S → k < w) → S < 2 ^ w
members_lt w S h =
    let same : meet (below w w) S ≡ S =
    same_members (meet (below w w) S) S (λ k q. ((in_meet (below w w) S k).0 q).1) (λ k q. (in_meet (below w w) S k).1 ((in_below w w k).1 (h k q, h k q), q))
    in
    rw same at (meet_lt w (below w w) S (below_lt w w))
