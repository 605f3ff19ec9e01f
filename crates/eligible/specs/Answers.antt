-- What each case of an answer says of the file, and what goes with it.
use Rattle.std.specs.Prelude.{ℕ, ◌+◌, ◌-◌, ◌≡◌, List, Result, Ok, Err, eqb, if◌then◌else◌}
use Rattle.laws.specs.Trials.{answers, refuses, verdict}
use Rattle.laws.specs.Upwards.{each}
use Rattle.night.specs.declared.refusals.Refusal.{Refusal}
use Rattle.night.specs.Refusals.{number_of}
use Rattle.night.specs.Night.{Night}
use Rattle.night.specs.Views.{clear_of, sealed_of}
use Rattle.format.specs.Layout.{night_in, night_of}
use Rattle.trials.specs.Trials.{check_of}
use Rattle.model.specs.Candidates.{candidate_set}
use Rattle.model.specs.Dp.{subjects_of}
use Rattle.model.specs.Reasons.{standing}
use Rattle.model.specs.Tables.{table_of}
use Rattle.verdicts.specs.Refusals.{why_trials}
use Rattle.eligible.specs.declared.Built.{Built}
use Rattle.eligible.specs.declared.PassOver.{PassOver}
use Rattle.eligible.specs.declared.NodeSet.{NodeSet}
use Rattle.eligible.specs.declared.Stood.{Stood}

-- what the built plan is made of: each node seals what it has in clear, the root nothing; the root's tied sets; what leaves the root sealed
pub record BuiltFor (N : Night) (b : Built) : Type 0 where
  pub seals_all : b.seals ≡ each 64 (λ i. if eqb (i + 1) N.header.nodes then 0 else (table_of N i).clear)
  pub root_ties : b.tied ≡ (table_of N (N.header.nodes - 1)).tied
  pub root_sealed : b.sealed ≡ (table_of N (N.header.nodes - 1)).sealed

-- `pass`: the file is accepted, and for each node there is who may be its subject, for each number what that subject sees in clear, and what the
-- plan is made of; or it is refused
abbrev pub PassSays : List ℕ → Result PassOver Refusal → Type 0
PassSays s (Ok p) =
    (check_of s ≡ answers p.header) × (p.sets ≡ each 64 (subjects_of (night_in s p.header)))
    × (p.clear ≡ each 16 (clear_of (night_in s p.header))) × BuiltFor (night_in s p.header) p.built
PassSays s (Err r) = check_of s ≡ refuses (number_of r.reason) r.place

-- `candidate_set`: the file is accepted, and there are the candidates of the node; or it is refused
abbrev pub SetSays : List ℕ → ℕ → Result NodeSet Refusal → Type 0
SetSays s i (Ok n) = (check_of s ≡ answers n.header) × (n.set ≡ candidate_set (night_in s n.header) i)
SetSays s i (Err r) = check_of s ≡ refuses (number_of r.reason) r.place

-- `standing`: the file is accepted, and there is how the subject stands where no trial fails; or it is refused
abbrev pub StandingSays : List ℕ → ℕ → ℕ → Result Stood Refusal → Type 0
StandingSays s i p (Ok x) =
    (check_of s ≡ answers x.header)
    × (verdict (why_trials s i p) (standing (night_of s) i (clear_of (night_of s) p) (sealed_of (night_of s) p)) ≡ answers x.out)
StandingSays s i p (Err r) =
    verdict (why_trials s i p) (standing (night_of s) i (clear_of (night_of s) p) (sealed_of (night_of s) p)) ≡ refuses (number_of r.reason) r.place

-- any two answers of one of these that it admits are the same
abbrev pub PassOnce : Type 0
PassOnce = (s : List ℕ) (x y : Result PassOver Refusal) → PassSays s x → PassSays s y → x ≡ y

abbrev pub SetOnce : Type 0
SetOnce = (s : List ℕ) (i : ℕ) (x y : Result NodeSet Refusal) → SetSays s i x → SetSays s i y → x ≡ y

abbrev pub StandingOnce : Type 0
StandingOnce = (s : List ℕ) (i p : ℕ) (x y : Result Stood Refusal) → StandingSays s i p x → StandingSays s i p y → x ≡ y
