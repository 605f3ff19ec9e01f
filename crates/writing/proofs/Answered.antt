-- What is said of values by way of their file: encoded, judged by reading, copied.
use Prim.Native.Nat.{ℕ, ◌<◌, ◌≤◌}
use mathlib.Core.Path.{◌≡◌, refl, sym, ap, ◌∙◌}
use mathlib.Core.Bool.{false}
use mathlib.Core.List.{List, ◌++◌}
use native.Mathlib.Omega.{arith}
use lib.ListN.{length, length-append, take, drop}
use lib.Seq.{take_at}
use borrow.Author.Tests.{lt-ltb, le-ltb}
use Rattle.std.specs.Prelude.{Result, Ok, Err}
use Rattle.laws.specs.Trials.{Says, answers, refuses, verdict}
use Rattle.laws.proofs.Trials.{never, passed, refused_then}
use Rattle.night.specs.declared.Header.{Header}
use Rattle.night.specs.declared.refusals.Refusal.{Refusal}
use Rattle.night.specs.declared.refusals.Reason.TheVariants.{ShortRoom}
use Rattle.night.specs.Refusals.{number_of, said}
use Rattle.night.proofs.Said.{said_once}
use Rattle.format.specs.Layout.{file_length}
use Rattle.trials.specs.Trials.{check_of}
use Rattle.writes.specs.Values.{Values, file_bytes}
use Rattle.writes.specs.Writing.{miscounted, count_trials, write_trials, write_of, room_after, judged_by}
use Rattle.writes.specs.Back.{ValuesFit}
use Rattle.writes.proofs.Counted.{as_long}
use Rattle.writes.proofs.Judged.{judged_alike, written_reads}
use Rattle.encoding.specs.Encoded.{EncodedSays}
use Rattle.encoding.proofs.Encoded.{encoded_passes, encoded_refused}
use Rattle.writing.specs.Answers.{WriteSays, WrittenOnce, WriteOnce, RewriteOnce, JudgedSays}

-- any two answers that say the same are the same
pub written_once : WrittenOnce
written_once a b e = said_once ℕ a b e

-- the promises leave no choice
pub write_once : WriteOnce
write_once vs before x y a b p q = (written_once a b (p.its_answer ∙ sym q.its_answer), p.room ∙ sym q.room)

pub rewrite_once : RewriteOnce
rewrite_once s before x y a b p q = (written_once a b (p.its_answer ∙ sym q.its_answer), p.room ∙ sym q.room)

-- values that 2, 4 and 3 let pass: the writer says of them what reading says of their file, and then of the room
module _ (vs : Values) (fits : ValuesFit vs) (passes : verdict (count_trials vs) (tt {0}) ≡ answers tt) where
  fine : miscounted vs ≡ false
  unfolding count_trials
  fine = (passed (count_trials vs) tt tt passes).0.1.1.0

  judged_writes : (before after : List ℕ) (r : Result ℕ Refusal) → JudgedSays (file_bytes vs) before after r → WriteSays vs before after r
  judged_writes before after r e =
      let same : write_of vs (length before) ≡ judged_by (check_of (file_bytes vs)) (length (file_bytes vs)) (length before) = judged_alike vs (length before) fits fine ∙ rw (as_long vs fine) refl in
      record {
        its_answer = e.its_answer ∙ sym same;
        room = e.room ∙ ap (λ (x : Says ℕ). room_after x (file_bytes vs) before) (sym same);
        reads = λ n answered. written_reads vs (length before) n fits answered;
      }

-- values that one of them refuses
pub refused_writes : (vs : Values) (before : List ℕ) (r : Refusal) → EncodedSays vs (Err r) → WriteSays vs before before (Err r)
unfolding write_of write_trials
refused_writes vs before r made =
    let its_answer : write_of vs (length before) ≡ said {A = ℕ} (Err r) = refused_then (count_trials vs) _ (tt {0}) (file_length vs.header) _ _ (encoded_refused vs r made) in
    record { its_answer = sym its_answer; room = rw its_answer refl; reads = λ m answered. absurd (never m _ _ (sym its_answer ∙ answered)) }

-- values that were encoded: their file stands in front, and is judged
module _ (vs : Values) (file : List ℕ) (made : EncodedSays vs (Ok file)) where
  made_long : length (file_bytes vs) ≡ file_length vs.header
  made_long =
      let e = encoded_passes vs file made in
      as_long vs (fine vs e.2 e.0)

  pub ends_within : file_length vs.header ≤ length file
  ends_within = rw ((encoded_passes vs file made).1, length-append) (omega (arith, made_long))

  pub made_writes : {end : ℕ} {before after : List ℕ} {r : Result ℕ Refusal} → end ≡ file_length vs.header → JudgedSays (take end file) before after r
      → WriteSays vs before after r
  made_writes {end} {before} {after} {r} long judged =
      let e = encoded_passes vs file made in
      let front : take end file ≡ file_bytes vs = rw e.1 (take_at (file_bytes vs) _ end (made_long ∙ sym long)) in
      judged_writes vs e.2 e.0 before after r (rw front at judged)

-- a file as reading judges it: refused, too long for the room, or copied
pub judged_refused : (s before : List ℕ) (r : Refusal) → refuses (number_of r.reason) r.place ≡ check_of s → JudgedSays s before before (Err r)
judged_refused s before r e = record { its_answer = rw (← e) refl; room = rw (← e) refl }

module _ (s before : List ℕ) (h : Header) (e : answers h ≡ check_of s) where
  pub judged_short : length before < length s → JudgedSays s before before (Err (record { reason = ShortRoom; place = 4 }))
  judged_short l = record { its_answer = rw (← e, lt-ltb (length before) (length s) l) refl; room = rw (← e, lt-ltb (length before) (length s) l) refl }

  pub judged_copied : {after : List ℕ} → length s ≤ length before → after ≡ s ++ drop (length s) before → JudgedSays s before after (Ok (length s))
  judged_copied l copied = record { its_answer = rw (← e, le-ltb (length before) (length s) l) refl; room = rw (← e, le-ltb (length before) (length s) l) copied }
