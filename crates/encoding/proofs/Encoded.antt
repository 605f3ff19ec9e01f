-- What encoding says of values.
use Prim.Native.Nat.{ℕ, ◌+◌, ◌-◌, ◌≤◌}
use mathlib.Core.Path.{◌≡◌, refl, sym, ap, ◌∙◌}
use mathlib.Core.Bool.{Bool, true, false, not}
use mathlib.Core.List.{List, ◌++◌}
use native.Mathlib.Omega.{arith}
use lib.ListN.{length, length-replicate, drop, replicate, replicate-append-replicate}
use lib.Seq.{drop_at}
use Rattle.std.specs.Prelude.{Ok, Err, if◌then◌else◌}
use Rattle.laws.specs.Trials.{answers, refuses, verdict}
use Rattle.laws.proofs.Trials.{never, passed, refused_alike, accepted_alike}
use Rattle.laws.proofs.Stored.{sets_front}
use Rattle.night.specs.declared.refusals.Refusal.{Refusal}
use Rattle.night.specs.Refusals.{number_of}
use Rattle.night.proofs.Said.{said_once}
use Rattle.night.specs.Versions.{known}
use Rattle.format.specs.Layout.{file_length}
use Rattle.trials.specs.Rules.{counts_bad}
use Rattle.writes.specs.Values.{Values, file_bytes}
use Rattle.writes.specs.Writing.{miscounted, count_trials}
use Rattle.writes.specs.Back.{ValuesFit}
use Rattle.writes.proofs.Counted.{as_long}
use Rattle.encoding.specs.Encoded.{longest, EncodedSays, EncodedOnce}
use Rattle.encoding.specs.Stored.{Stored}

-- zeros behind zeros
abbrev zeros : ℕ → List ℕ
zeros n = replicate n 0

drop_zeros : (k n : ℕ) → k ≤ n → drop k (zeros n) ≡ zeros (n - k)
drop_zeros k n l =
    let zero-byte : ℕ = 0 in
    let e : k + (n - k) ≡ n = omega arith in
    ap (drop k) (sym (rw e at (replicate-append-replicate k (n - k) zero-byte))) ∙ drop_at (zeros k) (zeros (n - k)) k (length-replicate k zero-byte)

-- the file in a room of zeros
pub file_in_zeros : (vs : Values) {file : List ℕ} → miscounted vs ≡ false → file_length vs.header ≤ longest → Stored (zeros longest) file 0 (file_bytes vs)
    → file ≡ file_bytes vs ++ zeros (longest - file_length vs.header)
file_in_zeros vs {file} fine short put =
    let long : length (file_bytes vs) ≡ file_length vs.header = as_long vs fine in
    let zero-byte : ℕ = 0 in
    let all-zeros : length (zeros longest) ≡ longest = length-replicate longest zero-byte in
    put.all ∙ sets_front (file_bytes vs) (zeros longest) (omega (arith, long, all-zeros)) ∙ rw (long, drop_zeros (file_length vs.header) longest short) refl

-- none of 2, 4, 3 refuses
pub record Fine (vs : Values) : Type 0 where
  pub version : not (known vs.header.version) ≡ false
  pub counts : counts_bad vs.header ≡ false
  pub many : miscounted vs ≡ false

pub fine_of : (vs : Values) → answers (tt {0}) ≡ verdict (count_trials vs) tt → Fine vs
unfolding verdict count_trials
fine_of vs e = go (not (known vs.header.version)) (counts_bad vs.header) (miscounted vs) refl refl refl e
  where
    go : (a b c : Bool) → not (known vs.header.version) ≡ a → counts_bad vs.header ≡ b → miscounted vs ≡ c
        → answers (tt {0}) ≡ (if a then refuses 2 0 else if b then refuses 4 0 else if c then refuses 3 0 else answers tt) → Fine vs
    go true b c x y z q = absurd (never (tt {0}) _ _ (sym q))
    go false true c x y z q = absurd (never (tt {0}) _ _ (sym q))
    go false false true x y z q = absurd (never (tt {0}) _ _ (sym q))
    go false false false x y z q = record { version = x; counts = y; many = z }

pub refused_says : (vs : Values) (r : Refusal) → refuses (number_of r.reason) r.place ≡ verdict (count_trials vs) (tt {0}) → EncodedSays vs (Err r)
refused_says vs r e = record { its_answer = sym (refused_alike (count_trials vs) (tt {0}) _ _ _ (sym e)); fits = tt }

pub encoded_says : (vs : Values) {file : List ℕ} → answers (tt {0}) ≡ verdict (count_trials vs) tt → Stored (zeros longest) file 0 (file_bytes vs) → ValuesFit vs
    → file_length vs.header ≤ longest → EncodedSays vs (Ok file)
encoded_says vs e put fits within =
    let fine = fine_of vs e in
    record { its_answer = ap answers (file_in_zeros vs fine.many within put) ∙ sym (accepted_alike (count_trials vs) (tt {0}) tt _ (sym e)); fits = fits }

pub encoded_once : EncodedOnce
encoded_once vs a b says says' = said_once (List ℕ) a b (says.its_answer ∙ sym says'.its_answer)

-- what the answer tells: none of 2, 4, 3 refuses, and the file is there; or which one does, and where
pub encoded_passes : (vs : Values) (file : List ℕ) → EncodedSays vs (Ok file)
    → (verdict (count_trials vs) (tt {0}) ≡ answers tt) × (file ≡ file_bytes vs ++ zeros (longest - file_length vs.header)) × ValuesFit vs
encoded_passes vs file says =
    let e = sym says.its_answer in
    (accepted_alike (count_trials vs) _ file (tt {0}) e, sym (passed (count_trials vs) _ file e).1, says.fits)

pub encoded_refused : (vs : Values) (r : Refusal) → EncodedSays vs (Err r) → verdict (count_trials vs) (tt {0}) ≡ refuses (number_of r.reason) r.place
encoded_refused vs r says = refused_alike (count_trials vs) _ (tt {0}) _ _ (sym says.its_answer)
