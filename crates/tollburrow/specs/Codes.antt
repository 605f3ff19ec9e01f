-- What the functions for other languages return: 0, or the refusal's number times 2^32 and its place. What they write where they are
-- refused is what stood there.
use Rattle.std.specs.Prelude.{ℕ, ◌+◌, ◌-◌, ◌*◌, ◌/◌, ◌%◌, ◌^◌, ◌<◌, ◌≡◌, List, Some, None, Result, Ok, Err}
use Rattle.laws.specs.Trials.{Says, answers, refuses}
use Rattle.night.specs.declared.Header.{Header}
use Rattle.night.specs.declared.refusals.Refusal.{Refusal}
use Rattle.night.specs.declared.refusals.Reason.TheVariants.{TooFewSteps, BadOffer}
use Rattle.night.specs.Refusals.{number_of, said as says_of}
use Rattle.format.specs.Layout.{grants_from, nodes_from}
use Rattle.model.specs.Reasons.{Standing, out}
use Rattle.planning.specs.declared.CheapestPlan.{CheapestPlan}
use Rattle.trials.specs.Trials.{check_of}
use Rattle.verdicts.specs.Refusals.{Rooms}
use Rattle.planning.specs.Answers.{candidates_of, why_of, CheapestSays, OfferedSays}
use Rattle.writes.specs.Values.{Values}
use Rattle.writes.specs.Writing.{write_of}
use Rattle.writing.specs.Answers.{WriteSays}

-- a refusal as one number
abbrev pub refusal_code : ℕ → ℕ → ℕ
refusal_code n p = n * 4294967296 + p

abbrev pub code_of : {A : Type 0} → Says A → ℕ
code_of (answers a) = 0
code_of (refuses n p) = refusal_code n p

-- the same of the answers with rooms
abbrev pub cheapest_code : Result CheapestPlan Refusal → ℕ
cheapest_code r = code_of (says_of r)

abbrev pub offered_code : Result ℕ Refusal → ℕ
offered_code r = code_of (says_of r)

-- the number that is answered, or what stood there
abbrev pub or_else : Says ℕ → ℕ → ℕ
or_else (answers a) before = a
or_else (refuses n p) before = before

-- where the part of grant records starts, and its length
abbrev pub part_from : Says Header → ℕ → ℕ
part_from (answers h) before = grants_from h
part_from (refuses n p) before = before

abbrev pub part_length : Says Header → ℕ → ℕ
part_length (answers h) before = nodes_from h - grants_from h
part_length (refuses n p) before = before

-- how a subject stands, as numbers: table, condition and set, all 0 for a candidate
abbrev pub table_number : Standing → ℕ
table_number None = 0
table_number (Some o) = o.table

abbrev pub condition_number : Standing → ℕ
condition_number None = 0
condition_number (Some o) = o.condition

abbrev pub named_set : Standing → ℕ
named_set None = 0
named_set (Some o) = o.set

-- which number is which
pub record StandingNumbers : Type 0 where
  pub table : table_number (out 1 2 4) ≡ 1
  pub condition : condition_number (out 1 2 4) ≡ 2
  pub set : named_set (out 1 2 4) ≡ 4
  pub candidate : (table_number None ≡ 0) × (condition_number None ≡ 0) × (named_set None ≡ 0)

-- one of these where a standing is answered, or what stood there
abbrev pub standing_or : (Standing → ℕ) → Says Standing → ℕ → ℕ
standing_or number (answers standing) before = number standing
standing_or number (refuses n p) before = before

-- total and steps that are answered, or what stood there
abbrev pub total_or : Result CheapestPlan Refusal → ℕ → ℕ
total_or (Ok c) before = c.total
total_or (Err r) before = before

abbrev pub steps_or : Result CheapestPlan Refusal → ℕ → ℕ
steps_or (Ok c) before = c.steps
steps_or (Err r) before = before

abbrev pub cost_or : Result ℕ Refusal → ℕ → ℕ
cost_or (Ok total) before = total
cost_or (Err r) before = before

-- which number is which, and what stays where nothing is answered
pub record PlanNumbers : Type 0 where
  pub total : total_or (Ok (record { total = 14; steps = 76 })) 5 ≡ 14
  pub steps : steps_or (Ok (record { total = 14; steps = 76 })) 5 ≡ 76
  pub cost : cost_or (Ok 14) 5 ≡ 14
  pub kept :
      (total_or (Err (record { reason = TooFewSteps; place = 0 })) 5 ≡ 5) × (steps_or (Err (record { reason = TooFewSteps; place = 0 })) 5 ≡ 5)
      × (cost_or (Err (record { reason = BadOffer; place = 0 })) 5 ≡ 5)

-- the verdict on a file, and where its part of grant records lies, as numbers
abbrev pub GrantsOut : Says Header → ℕ → ℕ → ℕ → ℕ → ℕ → Type 0
GrantsOut said from length from' length' code = (code ≡ code_of said) × (from' ≡ part_from said from) × (length' ≡ part_length said length)

-- what `candidates` says, as numbers
abbrev pub CandidatesOut : Says ℕ → ℕ → ℕ → ℕ → Type 0
CandidatesOut said set set' code = (code ≡ code_of said) × (set' ≡ or_else said set)

-- what `why` says, as numbers
abbrev pub StandingOut : Says Standing → ℕ → ℕ → ℕ → ℕ → ℕ → ℕ → ℕ → Type 0
StandingOut said table condition set table' condition' set' code =
    (code ≡ code_of said) × (table' ≡ standing_or table_number said table)
    × (condition' ≡ standing_or condition_number said condition) × (set' ≡ standing_or named_set said set)

-- what `cheapest` says, as numbers
pub record CheapestOut (s : List ℕ) (before after : Rooms) (total steps total' steps' code : ℕ) : Type 0 where
  pub said : Result CheapestPlan Refusal
  pub says : CheapestSays s before after said
  pub its_code : code ≡ cheapest_code said
  pub its_total : total' ≡ total_or said total
  pub its_steps : steps' ≡ steps_or said steps

-- what `offered` says, as numbers
pub record OfferedOut (s offer : List ℕ) (before after : Rooms) (total total' code : ℕ) : Type 0 where
  pub said : Result ℕ Refusal
  pub says : OfferedSays s offer before after said
  pub its_code : code ≡ offered_code said
  pub its_total : total' ≡ cost_or said total

-- what `write` says, as numbers: how many bytes the file has, or what stood there
pub record WriteOut (vs : Values) (before after : List ℕ) (length length' code : ℕ) : Type 0 where
  pub said : Result ℕ Refusal
  pub says : WriteSays vs before after said
  pub its_code : code ≡ code_of (says_of said)
  pub its_length : length' ≡ or_else (says_of said) length

-- a refusal's code isn't 0, and number and place can be had back from it
pub record Told (code number place : ℕ) : Type 0 where
  pub some : code ≡ 0 → ⊥
  pub number_back : code / 2 ^ 32 ≡ number
  pub place_back : code % 2 ^ 32 ≡ place

-- so whatever is refused
pub record CodesTold : Type 0 where
  pub check : (s : List ℕ) (n p : ℕ) → check_of s ≡ refuses n p → Told (code_of (check_of s)) n p
  pub candidates : (s : List ℕ) (i n p : ℕ) → candidates_of s i ≡ refuses n p → Told (code_of (candidates_of s i)) n p
  pub why : (s : List ℕ) (i q n p : ℕ) → i < 2 ^ 32 → why_of s i q ≡ refuses n p → Told (code_of (why_of s i q)) n p
  pub cheapest : (s : List ℕ) (before after : Rooms) (r : Refusal) → CheapestSays s before after (Err r)
      → Told (cheapest_code (Err r)) (number_of r.reason) r.place
  pub offered : (s offer : List ℕ) (before after : Rooms) (r : Refusal) → OfferedSays s offer before after (Err r)
      → Told (offered_code (Err r)) (number_of r.reason) r.place
  pub write : (vs : Values) (room n p : ℕ) → write_of vs room ≡ refuses n p → Told (code_of (write_of vs room)) n p
