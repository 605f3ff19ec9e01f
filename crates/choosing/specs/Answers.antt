-- What each case of an answer says: document 01's number and place, or the values.
use Rattle.std.specs.Prelude.{ℕ, ◌≤◌, ◌≡◌, List, Result, Ok, Err, length, get_or}
use Rattle.laws.specs.Trials.{Says, answers, refuses, verdict}
use Rattle.night.specs.declared.refusals.Refusal.{Refusal}
use Rattle.night.specs.Refusals.{number_of}
use Rattle.night.specs.Night.{Night}
use Rattle.format.specs.Layout.{night_of}
use Rattle.model.specs.Choice.{Least, total, steps}
use Rattle.verdicts.specs.Refusals.{cheapest_trials, offered_trials}
use Rattle.eligible.specs.Answers.{BuiltFor}
use Rattle.choosing.specs.declared.Chosen.{Chosen}
use Rattle.choosing.specs.declared.Costed.{Costed}

-- the right values: the cheapest choice, with 0 past the last node; its total; the steps
pub record CheapestFor (N : Night) (subjects : List ℕ) (total' steps' : ℕ) : Type 0 where
  pub least : Least N (λ i. get_or subjects i 0)
  pub past : (i : ℕ) → N.header.nodes ≤ i → get_or subjects i 0 ≡ 0
  pub whole : length subjects ≡ 64
  pub its_total : total' ≡ total N (λ i. get_or subjects i 0)
  pub its_steps : steps' ≡ steps N

-- `cheapest_choice`: answered where no trial fails, with the right values and what the plan is made of; or refused as the trials refuse
abbrev pub ChoiceSays : List ℕ → Result Chosen Refusal → Type 0
ChoiceSays s (Ok c) =
    (verdict (cheapest_trials s) (tt {0}) ≡ answers tt) × CheapestFor (night_of s) c.subjects c.total c.steps × BuiltFor (night_of s) c.built
ChoiceSays s (Err r) = verdict (cheapest_trials s) (tt {0}) ≡ refuses (number_of r.reason) r.place

-- any two answers that it may give are the same
abbrev pub ChoiceOnce : Type 0
ChoiceOnce = (s : List ℕ) (a b : Result Chosen Refusal) → ChoiceSays s a → ChoiceSays s b → a ≡ b

-- the total of the offered choice, where no trial fails
unfoldable pub offered_of : List ℕ → List ℕ → Says ℕ
offered_of s offer = verdict (offered_trials s offer) (total (night_of s) (λ i. get_or offer i 0))

-- `offered_choice`: the total of the choice and what its plan is made of, or refused with number and place
abbrev pub OfferSays : List ℕ → List ℕ → Result Costed Refusal → Type 0
OfferSays s offer (Ok c) = (offered_of s offer ≡ answers c.total) × BuiltFor (night_of s) c.built
OfferSays s offer (Err r) = offered_of s offer ≡ refuses (number_of r.reason) r.place

-- any two answers to an offer are the same
abbrev pub OfferedOnce : Type 0
OfferedOnce = (s offer : List ℕ) (a b : Result Costed Refusal) → OfferSays s offer a → OfferSays s offer b → a ≡ b
