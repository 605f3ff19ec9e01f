-- Demand 3 over a night.
use Prim.Native.Nat.{ℕ, ◌<◌}
use mathlib.Core.Path.{◌≡◌}
use Rattle.night.specs.Night.{Night, node_of}
use Rattle.night.specs.Promised.{Promised}
use Rattle.night.specs.Views.{clear_of, sealed_of}
use Rattle.model.specs.Candidates.{Candidate}
use Rattle.model.specs.Choice.{Choice}
use Rattle.model.specs.Plan.{openings, sealings, built}
use Rattle.run.specs.Run.{ForbiddenAt, left-arrives, right-arrives, left-opened, right-opened, result_made}
use Rattle.model.specs.Demand.{FromCandidates, RunsExactly, BuiltRuns}
use Rattle.model.proofs.May.{set_exactly}
use Rattle.model.proofs.Kept.{left_step, right_step}
use Rattle.model.proofs.RunCandidates.{run_candidates}
use Rattle.model.proofs.BuiltFree.{built_free}
use Rattle.model.proofs.User.{always_delivered}
use Rattle.model.proofs.BuiltAllowed.{left_arrives_allowed, left_opened_allowed, right_arrives_allowed, right_opened_allowed, result_allowed}

-- no table of the built plan is forbidden where each step's subject is one of its candidates
built_allowed : (N : Night) → Promised N → (c : Choice) → FromCandidates N c → (i : ℕ) → i < N.header.nodes → ForbiddenAt N (built N c) i → ⊥
built_allowed N sound c from i l = go
  where
    can : ((node_of N i).kind ≡ 0 → ⊥) → Candidate N i (clear_of N (c i)) (sealed_of N (c i))
    can s = ((set_exactly N i (c i) sound.counts.subjects_most).0 (from i l s)).1

    go : ForbiddenAt N (built N c) i → ⊥
    go (left-arrives u f) = left_arrives_allowed N sound c i _ _ l (can (left_step (node_of N i).kind u)) u f
    go (right-arrives u f) = right_arrives_allowed N sound c i _ _ l (can (right_step (node_of N i).kind u)) u f
    go (left-opened u f) = left_opened_allowed N sound c i _ _ l (can (left_step (node_of N i).kind u)) u f
    go (right-opened u f) = right_opened_allowed N sound c i _ _ l (can (right_step (node_of N i).kind u)) u f
    go (result_made s f) = result_allowed N sound c i _ _ l (can s).result f

-- the built plan runs clean where each step's subject is one of its candidates
pub built_runs : BuiltRuns
built_runs N sound may c assigned from =
    record { free = built_free N sound c assigned; allowed = built_allowed N sound c from; delivery = λ d. always_delivered N sound may d (built N c) }

-- some openings and sealings run clean exactly when each step's subject is one of its candidates
pub runs_exactly : RunsExactly
runs_exactly N sound may c assigned = (
  λ w. run_candidates N _ sound assigned w.2,
  λ from. (openings N (sealings N), sealings N, built_runs N sound may c assigned from),
)
