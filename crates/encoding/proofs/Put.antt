-- Numbers as runs of stores: each run stands right behind the one before it.
use Prim.Native.Nat.{ℕ, zero, suc, ◌+◌, ◌-◌, ◌/◌, ◌%◌, ◌^◌, ◌≤◌}
use mathlib.Core.Path.{◌≡◌, refl, sym, ap, ◌∙◌}
use mathlib.Core.Bool.{Bool, true, false}
use mathlib.Core.List.{List, [], ◌∷◌, ◌++◌, append_assoc}
use native.Mathlib.Nat.{div-one}
use native.Mathlib.Numerals.{one-add}
use native.Mathlib.Omega.{arith}
use lib.ListN.{length, set}
use lib.Seq.{length-sets, sets-eq, drop-drop}
use borrow.Rule.Slice.PartMut.{put_mid}
use Rattle.std.specs.Prelude.{if◌then◌else◌}
use Rattle.std.specs.Int.{byte_at, bytes_high_first}
use Rattle.laws.specs.BigEndian.{bytes}
use Rattle.laws.proofs.BigEndian.{bytes_halves}
use Rattle.laws.proofs.Stored.{sets_append}
use Rattle.encoding.specs.Stored.{Stored}

-- stores leave a room as long as it was
pub kept_long : {s after : List ℕ} {at : ℕ} {xs : List ℕ} → Stored s after at xs → length after ≡ length s
kept_long {s} {after} {at} {xs} e = ap length e.all ∙ length-sets s at xs

-- a run behind another that is k long
pub put_then : {s done after xs ys : List ℕ} {at : ℕ} (k : ℕ) → length xs ≡ k → Stored s done at xs → Stored done after (at + k) ys → Stored s after at (xs ++ ys)
put_then {s} {done} {after} {xs} {ys} {at} k long first second = record { all = second.all ∙ rw (first.all, ← long) (sym (sets_append xs ys s at)) }

-- the same bytes
pub put_same : {s after xs ys : List ℕ} {at : ℕ} → xs ≡ ys → Stored s after at xs → Stored s after at ys
put_same e first = rw e at first

-- no bytes
pub none_put : (s : List ℕ) (at : ℕ) → Stored s s at []
none_put s at = record { all = refl }

-- one byte
pub one_put : (s : List ℕ) (at v : ℕ) → Stored s (set s at v) at (v ∷ [])
one_put s at v = record { all = refl }

-- bytes that a part of the room is overwritten by
pub part_put : (s bs : List ℕ) (at : ℕ) → at + length bs ≤ length s → Stored s (put_mid at (at + length bs - at) s bs) at bs
part_put s bs at l =
    let e : at + length bs - at ≡ length bs = omega arith in
    record { all = rw (e, drop-drop (length bs) at s, ← append_assoc) (sym (sets-eq bs s at l)) }

-- a number's bytes are those that `to_be_bytes` makes
byte_is : (k v : ℕ) → byte_at k v ≡ v / 256 ^ k % 256
byte_is zero v = rw div-one refl
byte_is (suc k) v = refl

high_first : (k v : ℕ) → bytes_high_first k v ≡ bytes k v
unfolding bytes
high_first zero v = refl
high_first (suc k) v =
    let halves : bytes (suc k) v ≡ bytes 1 (v / 256 ^ k) ++ bytes k v = rw one-add at (bytes_halves 1 k v) in
    rw (byte_is k v, high_first k v, halves) refl

pub number_put : (n v : ℕ) {s after bs : List ℕ} {at : ℕ} → bs ≡ bytes_high_first n v → Stored s after at bs → Stored s after at (bytes n v)
number_put n v e put = put_same (e ∙ high_first n v) put

-- bytes that stand in some versions alone
pub there : {b : Bool} {s after xs : List ℕ} {at : ℕ} → b ≡ true → Stored s after at xs → Stored s after at (if b then xs else [])
there e put = rw e put

pub not_there : {b : Bool} (s xs : List ℕ) (at : ℕ) → b ≡ false → Stored s s at (if b then xs else [])
not_there s xs at e = rw e (none_put s at)
