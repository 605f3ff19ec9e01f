-- Big-endian numbers by their bytes and by their halves, read out of a copy of their bytes, and as bytes again.
use Prim.Native.Nat.{ℕ, zero, suc, ◌+◌, ◌*◌, ◌/◌, ◌%◌, ◌^◌, ◌<◌, ◌≤◌}
use native.Mathlib.Nat.{add-zero, zero-add, add-suc, add_assoc, mul-one, mul_comm, div-one, div-div-eq-div-mul, add-mul, mul_assoc, pow-suc}
use native.Mathlib.Omega.{arith}
use mathlib.Core.Path.{◌≡◌, refl}
use mathlib.Core.List.{List, [], ◌∷◌, ◌++◌, append_assoc, append-nil}
use lib.ListN.{length, length-append, length-drop, get_or, take, drop, get_or-append}
use lib.Seq.{get_or_at, get_or-drop, take-suc}
use Rattle.laws.specs.BigEndian.{be, bytes}

-- a number of four bytes
pub be_four : {a b c d : ℕ} (s : List ℕ) (at : ℕ)
    → a ≡ get_or s at 0
    → b ≡ get_or s (at + 1) 0
    → c ≡ get_or s (at + 2) 0
    → d ≡ get_or s (at + 3) 0
    → ((a * 256 + b) * 256 + c) * 256 + d ≡ be s at 4
unfolding be
be_four s at first second third fourth = rw (first, second, third, fourth, add-zero at) (omega arith)

-- a number is its two halves, at any two widths
pub be_halves : (s : List ℕ) (at n m : ℕ) → be s at (n + m) ≡ be s at n * 256 ^ m + be s (at + n) m
unfolding be
be_halves s at n zero = simp (add-zero, mul-one)
be_halves s at n (suc m) = rw (add-suc, be_halves s at n m, pow-suc, add-mul, mul_assoc, ← add_assoc at n m) (omega arith)

-- a number read out of p, a copy of w bytes of s from `at` on
pub be_copied : {w : ℕ} (s : List ℕ) (at : ℕ) (p : List ℕ)
    → ((k : ℕ) → k < w → get_or p k 0 ≡ get_or s (at + k) 0)
    → (i n : ℕ) → i + n ≤ w → be p i n ≡ be s (at + i) n
unfolding be
be_copied s at p copied i zero l = refl
be_copied s at p copied i (suc n) l = rw (be_copied s at p copied i n (omega arith), copied (i + n) (omega arith), add_assoc at i n) refl

-- there are as many bytes as the number is wide
pub bytes_length : (n v : ℕ) → length (bytes n v) ≡ n
unfolding bytes
bytes_length zero v = refl
bytes_length (suc n) v = rw (length-append, bytes_length n (v / 256)) (omega arith)

-- a number within the first of two lists
be_front : (xs ys : List ℕ) (n : ℕ) → n ≤ length xs → be (xs ++ ys) 0 n ≡ be xs 0 n
unfolding be
be_front xs ys zero l = refl
be_front xs ys (suc n) l = rw (be_front xs ys n (omega arith), zero-add n, get_or-append xs ys 0 n (omega arith)) refl

-- read after write: a number's bytes make the number
pub be_bytes : (n v : ℕ) → v < 256 ^ n → be (bytes n v) 0 n ≡ v
unfolding be bytes
be_bytes zero v l = omega arith
be_bytes (suc n) v l =
    let fits : v < 256 ^ n * 256 = rw pow-suc at l in
    let long = bytes_length n (v / 256) in
    rw (
      be_front (bytes n (v / 256)) (v % 256 ∷ []) n (omega (arith, long)),
      be_bytes n (v / 256) (omega arith),
      zero-add n,
      get_or_at (bytes n (v / 256)) (v % 256) [] 0 n long,
    ) (omega arith)

-- write after read: the number that n bytes make has these bytes
pub bytes_be : (s : List ℕ) → ((k : ℕ) → get_or s k 0 < 256) → (at n : ℕ) → at + n ≤ length s → bytes n (be s at n) ≡ take n (drop at s)
unfolding be bytes
bytes_be s all at zero l = refl
bytes_be s all at (suc n) l =
    let b : get_or s (at + n) 0 < 256 = all (at + n) in
    let high : (be s at n * 256 + get_or s (at + n) 0) / 256 ≡ be s at n = omega arith in
    let low : (be s at n * 256 + get_or s (at + n) 0) % 256 ≡ get_or s (at + n) 0 = omega arith in
    let within : n < length (drop at s) = rw (length-drop at s) (omega arith) in
    rw (high, low, bytes_be s all at n (omega arith), take-suc (drop at s) n 0 within, get_or-drop at s n 0) refl

-- a number of more bytes is written by its halves: the second one's own bytes are the lowest of the whole number
pub bytes_halves : (n m v : ℕ) → bytes (n + m) v ≡ bytes n (v / 256 ^ m) ++ bytes m v
unfolding bytes
bytes_halves n zero v = rw (add-zero n, div-one v, append-nil) refl
bytes_halves n (suc m) v =
    rw (add-suc n m, bytes_halves n m (v / 256), div-div-eq-div-mul v 256 (256 ^ m), pow-suc, mul_comm (256 ^ m) 256, append_assoc) refl

-- n bytes make a number that fits into them
pub be_fits : (s : List ℕ) → ((k : ℕ) → get_or s k 0 < 256) → (at n : ℕ) → be s at n < 256 ^ n
unfolding be
be_fits s all at zero = omega arith
be_fits s all at (suc n) = rw pow-suc (omega (arith, be_fits s all at n, all (at + n)))
