-- The numbers that are returned and written, case by case.
use Prim.Native.Nat.{ℕ, ◌-◌}
use mathlib.Core.Path.{◌≡◌, refl}
use Rattle.laws.specs.Trials.{Says, answers, refuses}
use Rattle.night.specs.declared.Header.{Header}
use Rattle.format.specs.Layout.{grants_from, nodes_from}
use Rattle.tollburrow.specs.Codes.{refusal_code, code_of, or_else, part_from, part_length}

-- a refusal returns its code and leaves what stood there; an answer returns 0 and writes it
pub number_refused : (q : Says ℕ) (n p r before : ℕ) → refuses n p ≡ q → r ≡ refusal_code n p → (r ≡ code_of q) × (before ≡ or_else q before)
number_refused q n p r before e g = rw (← e) (g, refl)

pub number_answered : (q : Says ℕ) (a before : ℕ) → answers a ≡ q → (0 ≡ code_of q) × (a ≡ or_else q before)
number_answered q a before e = rw (← e) (refl, refl)

-- the same of where the part of grant records lies
pub part_refused : (q : Says Header) (n p r from length : ℕ) → refuses n p ≡ q → r ≡ refusal_code n p
    → (r ≡ code_of q) × (from ≡ part_from q from) × (length ≡ part_length q length)
part_refused q n p r from length e g = rw (← e) (g, refl, refl)

pub part_answered : (q : Says Header) (h : Header) (start end from length : ℕ) → answers h ≡ q → start ≡ grants_from h → end ≡ nodes_from h
    → (0 ≡ code_of q) × (start ≡ part_from q from) × (end - start ≡ part_length q length)
part_answered q h start end from length e g k = rw (← e, g, k) (refl, refl, refl)
