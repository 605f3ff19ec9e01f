-- What each case of an answer says: document 01's number and place, or the values.
use Rattle.std.specs.Prelude.{List, [], ℕ, ◌-◌, ◌≡◌, ◌↔◌, Result, Ok, Err, take, drop}
use Rattle.laws.specs.Trials.{Says, answers, refuses}
use Rattle.night.specs.declared.Header.{Header}
use Rattle.night.specs.declared.refusals.Refusal.{Refusal}
use Rattle.night.specs.declared.refusals.Reason.TheVariants.{BadRelation}
use Rattle.night.specs.Refusals.{number_of}
use Rattle.format.specs.Layout.{grants_from, nodes_from}
use Rattle.trials.specs.Trials.{check_of}

-- the part of the file that holds the grant records: empty with a refusal
abbrev pub grants_part : Says Header → List ℕ → List ℕ
grants_part (answers h) s = take (nodes_from h - grants_from h) (drop (grants_from h) s)
grants_part (refuses n p) s = []

-- the part of an accepted file
abbrev pub GrantsTold : Says Header → List ℕ → List ℕ → Type 0
GrantsTold said s part = (part ≡ grants_part said s) × (h : Header) × (said ≡ answers h)

-- the refusal of any other
abbrev pub NotTold : Says Header → Refusal → Type 0
NotTold verdict r = verdict ≡ refuses (number_of r.reason) r.place

-- both together, the part as a list
abbrev pub Told : Says Header → List ℕ → Result (List ℕ) Refusal → Type 0
Told said s (Ok part) = GrantsTold said s part
Told said s (Err r) = NotTold said r

-- any two answers that this admits are the same
abbrev pub ToldOnce : Type 0
ToldOnce = (said : Says Header) (s : List ℕ) (a b : Result (List ℕ) Refusal) → Told said s a → Told said s b → a ≡ b

-- which refusal is which
pub record ToldNumbers : Type 0 where
  pub told : NotTold (refuses 5 2) (record { reason = BadRelation; place = 2 })
  pub number : NotTold (refuses 6 2) (record { reason = BadRelation; place = 2 }) → ⊥
  pub place : NotTold (refuses 5 3) (record { reason = BadRelation; place = 2 }) → ⊥

-- the part of grant records is empty exactly when the file is refused
abbrev pub EmptyWhenRefused : Type 0
EmptyWhenRefused = (s : List ℕ) → (grants_part (check_of s) s ≡ []) ↔ ((n : ℕ) × (p : ℕ) × (check_of s ≡ refuses n p))
