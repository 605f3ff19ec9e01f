-- What the writer's answer says: how many bytes were written, or document 01's number and place; and what stands in the room.
use Rattle.std.specs.Prelude.{ℕ, ◌≡◌, List, length, Result}
use Rattle.laws.specs.Trials.{answers}
use Rattle.night.specs.declared.refusals.Refusal.{Refusal}
use Rattle.night.specs.Refusals.{said}
use Rattle.trials.specs.Trials.{check_of}
use Rattle.writes.specs.Values.{Values, file_bytes}
use Rattle.writes.specs.Writing.{write_of, rewrite_of, room_after, judged_by}
use Rattle.writes.specs.Back.{WrittenFile}

-- `write`: the verdict on the values and the room's length, the room after it, and what was written: a file that is accepted and read back as the same values
pub record WriteSays (vs : Values) (before after : List ℕ) (r : Result ℕ Refusal) : Type 0 where
  pub its_answer : said r ≡ write_of vs (length before)
  pub room : after ≡ room_after (write_of vs (length before)) (file_bytes vs) before
  pub reads : (n : ℕ) → write_of vs (length before) ≡ answers n → WrittenFile vs n

-- `rewrite`: the verdict on a file and the room's length, and the room after it, which has the file's own bytes again
pub record RewriteSays (s before after : List ℕ) (r : Result ℕ Refusal) : Type 0 where
  pub its_answer : said r ≡ rewrite_of s (length before)
  pub room : after ≡ room_after (rewrite_of s (length before)) s before

-- any two answers with rooms that a promise admits are the same
abbrev pub WriteOnce : Type 0
WriteOnce = (vs : Values) (before x y : List ℕ) (a b : Result ℕ Refusal) → WriteSays vs before x a → WriteSays vs before y b → (a ≡ b) × (x ≡ y)

abbrev pub RewriteOnce : Type 0
RewriteOnce = (s before x y : List ℕ) (a b : Result ℕ Refusal) → RewriteSays s before x a → RewriteSays s before y b → (a ≡ b) × (x ≡ y)

-- any two answers that say the same are the same
abbrev pub WrittenOnce : Type 0
WrittenOnce = (a b : Result ℕ Refusal) → said a ≡ said b → a ≡ b

-- a file that is judged by reading and copied into the room: the verdict on both, and the room after it
pub record JudgedSays (s before after : List ℕ) (r : Result ℕ Refusal) : Type 0 where
  pub its_answer : said r ≡ judged_by (check_of s) (length s) (length before)
  pub room : after ≡ room_after (judged_by (check_of s) (length s) (length before)) s before
