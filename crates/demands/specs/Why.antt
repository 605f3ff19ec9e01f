-- Why a subject is out, over bytes: the named reason is the first that fails, and a subject is a candidate exactly where `candidates` has it.
use Rattle.std.specs.Prelude.{ℕ, ◌<◌, ◌≡◌, List, ◌↔◌, None, Result}
use Rattle.laws.specs.Trials.{answers, refuses}
use Rattle.sets.specs.Sets.{In}
use Rattle.night.specs.declared.Header.{Header}
use Rattle.night.specs.declared.refusals.Refusal.{Refusal}
use Rattle.night.specs.Refusals.{said}
use Rattle.night.specs.Night.{node_of}
use Rattle.night.specs.Views.{clear_of, sealed_of}
use Rattle.format.specs.Layout.{night_of}
use Rattle.trials.specs.Trials.{check_of}
use Rattle.model.specs.Reasons.{of_result, Standing, out as is_out, looked_at, FirstOut, Named}
use Rattle.planning.specs.Answers.{candidates_of, why_of}

-- a question about an accepted file, a step and a subject of it
pub record Asked (s : List ℕ) (i p : ℕ) : Type 0 where
  pub accepted : (h : Header) × (check_of s ≡ answers h)
  pub node : i < (night_of s).header.nodes
  pub step : (node_of (night_of s) i).kind ≡ 0 → ⊥
  pub subject : p < (night_of s).header.subjects

-- table k's condition c is the first to fail for subject p at step i, and the set goes with it
pub record OutBy (s : List ℕ) (i p k c set : ℕ) : Type 0 where
  pub asked : Asked s i p
  pub first : FirstOut (night_of s) i (clear_of (night_of s) p) (sealed_of (night_of s) p) k c
  pub named : Named (looked_at (night_of s) i k) (clear_of (night_of s) p) (sealed_of (night_of s) p) c set

pub record WhyOut : Type 0 where
  -- such questions are answered, and no others
  pub answered : (s : List ℕ) (i p : ℕ) → ((x : Standing) × (why_of s i p ≡ answers x)) ↔ Asked s i p
  -- a subject is out by just the first condition that fails, and by the set that goes with it
  pub out : (s : List ℕ) (i p k c set : ℕ) → (why_of s i p ≡ answers (is_out k c set)) ↔ OutBy s i p k c set
  -- a candidate, exactly for the members of the set that `candidates` answers
  pub candidate : (s : List ℕ) (i p set : ℕ) → candidates_of s i ≡ answers set → (why_of s i p ≡ answers None) ↔ In p set
  -- what `candidates` refuses is refused alike, and of an accepted file just what is not about a step and a subject of it, with 16 and the node
  pub refused : (s : List ℕ) (i p n q : ℕ) → candidates_of s i ≡ refuses n q → why_of s i p ≡ refuses n q
  pub not_asked : (s : List ℕ) (h : Header) → check_of s ≡ answers h → (i p : ℕ) → (why_of s i p ≡ refuses 16 i) ↔ (Asked s i p → ⊥)
  -- of the result only condition 3 can be the first to fail
  pub result_tied : (s : List ℕ) (i p c set : ℕ) → why_of s i p ≡ answers (is_out of_result c set) → c ≡ 3
  -- any two answers that the promise admits are equal
  pub once : (s : List ℕ) (i p : ℕ) (a b : Result Standing Refusal) → said a ≡ why_of s i p → said b ≡ why_of s i p → a ≡ b
