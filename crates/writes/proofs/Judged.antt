-- A file of values is judged as the values are, and what was written is accepted.
use Prim.Native.Nat.{ℕ, ◌≤◌}
use mathlib.Core.Path.{◌≡◌, refl, sym, ap, ◌∙◌}
use mathlib.Core.Bool.{Bool, true, false, not}
use mathlib.Core.List.{List, [], ◌∷◌, ◌++◌, append_assoc}
use native.Mathlib.Omega.{arith}
use lib.Dec.{ltb, eqb}
use lib.ListN.{length}
use borrow.Author.Tests.{le-ltb}
use Rattle.std.specs.Prelude.{if◌then◌else◌}
use Rattle.laws.specs.Choose.{any_of}
use Rattle.laws.specs.Trials.{Trial, trial, Says, answers, refuses, verdict}
use Rattle.laws.proofs.Cases.{eq_fine, last_is}
use Rattle.laws.proofs.Trials.{never, passed, passes_append, passed_then, refused_then, refused_alike, accepted_alike, append_alike}
use Rattle.night.specs.declared.Header.{Header}
use Rattle.night.specs.Versions.{known, delivers, header_length}
use Rattle.format.specs.Layout.{grants_from, nodes_from, pairs_from, step_prices_from, link_prices_from, file_length, header_of, as_read, header_bytes}
use Rattle.format.proofs.Written.{header_least}
use Rattle.trials.specs.Rules.{user_bad, counts_bad}
use Rattle.trials.specs.Trials.{not_marked, not_versioned, header_trials, record_trials, tree_trials, trials, check_of}
use Rattle.writes.specs.Values.{Values, night_from, file_bytes}
use Rattle.writes.specs.Writing.{miscounted, count_trials, room_trials, write_trials, write_of, judged_by}
use Rattle.writes.specs.Back.{ValuesFit, JudgedAlike, WrittenReads}
use Rattle.writes.proofs.Counted.{as_long}
use Rattle.writes.proofs.ReadBack.{length_alike, header_read, reads_back, values_back}

-- a header's limits don't ask a field that the version doesn't have
counts_alike : (h : Header) → counts_bad (as_read h) ≡ counts_bad h
unfolding counts_bad user_bad as_read any_of
counts_alike h = rw (user (delivers h.version)) refl
  where
    user : (b : Bool) → (if b then not (ltb (if b then h.user else 0) h.subjects) else false) ≡ (if b then not (ltb h.user h.subjects) else false)
    user true = refl
    user false = refl

-- the header stands within the file
header_within : (h : Header) → header_length h.version ≤ file_length h
unfolding grants_from nodes_from pairs_from step_prices_from link_prices_from file_length
header_within h = omega arith

-- the file begins with the mark
marked : (vs : Values) → 3 ≤ length (file_bytes vs) → not_marked (file_bytes vs) ≡ false
unfolding not_marked any_of file_bytes header_bytes
marked vs l = rw (le-ltb (length (file_bytes vs)) 3 l) refl

-- and has the same version
version_alike : (h : Header) → (as_read h).version ≡ h.version
unfolding as_read
version_alike h = refl

-- the rows of both, by what can fail in them
abbrev head_row : Bool → Bool → List Trial
head_row unknown bad = trial false 1 0 ∷ trial unknown 2 0 ∷ trial false 3 0 ∷ trial bad 4 0 ∷ trial false 3 0 ∷ []

abbrev count_row : Bool → Bool → List Trial
count_row unknown bad = trial unknown 2 0 ∷ trial bad 4 0 ∷ trial false 3 0 ∷ []

rows_alike : (a b : Bool) → verdict (head_row a b) (tt {0}) ≡ verdict (count_row a b) tt
unfolding verdict
rows_alike true b = refl
rows_alike false true = refl
rows_alike false false = refl

module _ (vs : Values) (fits : ValuesFit vs) (fine : miscounted vs ≡ false) where
  abbrev s : List ℕ
  s = file_bytes vs

  abbrev body : List Trial
  body = record_trials (night_from vs) ++ tree_trials (night_from vs)

  long : length s ≡ file_length vs.header
  long = as_long vs fine

  some : 15 ≤ length s
  some = omega (arith, long, header_within vs.header, header_least vs.header.version)

  -- the header's trials say of the file what 2, 4 and 3 say of the values: the others pass
  versioned : not_versioned s ≡ not (known vs.header.version)
  unfolding not_versioned any_of
  versioned =
      rw (le-ltb (length s) 5 (omega (arith, some)), header_read vs fits, version_alike vs.header) (sym (last_is (not (known vs.header.version)) _ refl))

  head_trials : header_trials s ≡ head_row (not (known vs.header.version)) (counts_bad vs.header)
  unfolding header_trials
  head_trials =
      let h = vs.header in
      let mark = marked vs (omega (arith, some)) in
      let short : ltb (length s) (header_length (header_of s).version) ≡ false =
      rw (header_read vs fits, version_alike h) (le-ltb (length s) (header_length h.version) (omega (arith, long, header_within h)))
      in
      let counts = ap counts_bad (header_read vs fits) ∙ counts_alike h in
      let whole : not (eqb (length s) (file_length (header_of s))) ≡ false = rw (header_read vs fits, length_alike h) (eq_fine (length s) (file_length h) long) in
      λ i. trial (mark i) 1 0 ∷ trial (versioned i) 2 0 ∷ trial (short i) 3 0 ∷ trial (counts i) 4 0 ∷ trial (whole i) 3 0 ∷ []

  count-trials : count_trials vs ≡ count_row (not (known vs.header.version)) (counts_bad vs.header)
  unfolding count_trials
  count-trials = λ i. trial (not (known vs.header.version)) 2 0 ∷ trial (counts_bad vs.header) 4 0 ∷ trial (fine i) 3 0 ∷ []

  pub head_alike : verdict (header_trials s) (tt {0}) ≡ verdict (count_trials vs) tt
  head_alike =
      let a = not (known vs.header.version) in
      let b = counts_bad vs.header in
      ap (λ (ts : List Trial). verdict ts tt) head_trials ∙ rows_alike a b ∙ sym (ap (λ (ts : List Trial). verdict ts tt) count-trials)

  -- both rows up to the room's
  front_alike : verdict (trials s) (tt {0}) ≡ verdict (count_trials vs ++ body) tt
  unfolding trials
  front_alike = rw (reads_back vs fits fine) (append_alike (header_trials s) (count_trials vs) body body head_alike refl)

  room_last : (room : ℕ) → verdict (room_trials vs room) (file_length vs.header) ≡ judged_by (answers (as_read vs.header)) (file_length vs.header) room
  unfolding verdict room_trials
  room_last room = refl

  judged_as : (room : ℕ) → write_of vs room ≡ judged_by (check_of s) (file_length vs.header) room
  unfolding write_of check_of write_trials
  judged_as room =
      ap (λ (ts : List Trial). verdict ts (file_length vs.header)) (sym (append_assoc (count_trials vs) body (room_trials vs room))) ∙ go (verdict (count_trials vs ++ body) tt) refl
    where
      go : (r : Says (Unit {0})) → verdict (count_trials vs ++ body) tt ≡ r → verdict ((count_trials vs ++ body) ++ room_trials vs room) (file_length vs.header) ≡ judged_by (verdict (trials s) (header_of s)) (file_length vs.header) room
      go (answers tt) e =
          passed_then (count_trials vs ++ body) (room_trials vs room) tt (file_length vs.header) e ∙ room_last room
          ∙ sym (ap (λ (x : Says Header). judged_by x (file_length vs.header) room) (accepted_alike (trials s) tt tt (header_of s) (front_alike ∙ e)))
      go (refuses n p) e =
          refused_then (count_trials vs ++ body) (room_trials vs room) tt (file_length vs.header) n p e
          ∙ sym (ap (λ (x : Says Header). judged_by x (file_length vs.header) room) (refused_alike (trials s) tt (header_of s) n p (front_alike ∙ e)))

pub judged_alike : JudgedAlike
judged_alike vs room fits fine = judged_as vs fits fine room

-- a file that comes through reading and the room was accepted, and its length is the answer
pub judged_answers : (x : Says Header) (long room n : ℕ) → judged_by x long room ≡ answers n → ((h : Header) × (x ≡ answers h)) × (long ≡ n)
judged_answers (refuses m p) long room n e = absurd (never n m p e)
judged_answers (answers h) long room n e = go (ltb room long) e
  where
    go : (b : Bool) → (if b then refuses 15 4 else answers long) ≡ answers n → ((h' : Header) × (answers h ≡ answers h')) × (long ≡ n)
    go true q = absurd (never n 15 4 q)
    go false q = ((h, refl), cc)

-- what was written
pub written_reads : WrittenReads
unfolding write_of write_trials count_trials check_of
written_reads vs room n fits e =
    let night = record_trials (night_from vs) ++ tree_trials (night_from vs) in
    let p = passed (write_trials vs room) (file_length vs.header) n e in
    let fine = (passes_append (count_trials vs) (night ++ room_trials vs room) p.0).0.1.1.0 in
    let judged = judged_answers (check_of (file_bytes vs)) (file_length vs.header) room n (sym (judged_alike vs room fits fine) ∙ e) in
    let accepted = judged.0.1 in
    record {
      counted = fine;
      long = as_long vs fine ∙ judged.1;
      accepted = accepted_alike (trials (file_bytes vs)) (header_of (file_bytes vs)) judged.0.0 (header_of (file_bytes vs)) accepted ∙ ap answers (header_read vs fits);
      night = reads_back vs fits fine;
      values = values_back vs fits fine;
    }
