-- Demand 3 over a night: who can run a plan, said by the run, and by the candidates.
use Rattle.std.specs.Prelude.{ℕ, ◌-◌, ◌<◌, ◌≡◌, ◌↔◌, ◌⊎◌}
use Rattle.sets.specs.Sets.{In}
use Rattle.night.specs.Night.{Night, node_of}
use Rattle.night.specs.Kinds.{attribute}
use Rattle.night.specs.Promised.{Promised}
use Rattle.run.specs.Linked.{Chain}
use Rattle.model.specs.Candidates.{candidate_set}
use Rattle.model.specs.Choice.{Choice, owner_of}
use Rattle.run.specs.Keys.{Plan}
use Rattle.model.specs.Plan.{built, name_in, holders_in}
use Rattle.model.specs.User.{UserMay}
use Rattle.run.specs.Run.{Tied, Clean, reached, key_of, holders, result_of}

-- a subject for each node, and the owners at the leaves
pub record Assigned (N : Night) (c : Choice) : Type 0 where
  pub there : (i : ℕ) → i < N.header.nodes → c i < N.header.subjects
  pub owners : (i : ℕ) → i < N.header.nodes → (node_of N i).kind ≡ 0 → c i ≡ owner_of N i

-- each step's subject is one of its candidates
abbrev pub FromCandidates : Night → Choice → Type 0
FromCandidates N c = (i : ℕ) → i < N.header.nodes → ((node_of N i).kind ≡ 0 → ⊥) → In (c i) (candidate_set N i)

-- where a user may have every leaf's table, some openings and sealings run clean exactly when each step's subject is one of its candidates
abbrev pub RunsExactly : Type 0
RunsExactly =
    (N : Night) → Promised N → UserMay N → (c : Choice) → Assigned N c
    → ((opens : ℕ → ℕ) × (seals : ℕ → ℕ) × Clean N (record { subject = c; opens = opens; seals = seals })) ↔ FromCandidates N c

-- and then the built plan runs clean
abbrev pub BuiltRuns : Type 0
BuiltRuns = (N : Night) → Promised N → UserMay N → (c : Choice) → Assigned N c → FromCandidates N c → Clean N (built N c)

-- for any plan, the keys by the root's tied sets are the run's
abbrev pub KeysAgree : Type 0
KeysAgree = (N : Night) → Promised N → (p : Plan) (k : ℕ) → (name_in N p k ≡ key_of N p k) × (holders_in N p k ≡ holders N p k)

-- what keys of the run are grouped by: for any plan, an attribute itself and all that chains of the ties in the root's past link with it
abbrev pub ReachedMeaning : Type 0
ReachedMeaning =
    (N : Night) → Promised N → (p : Plan) (k j : ℕ)
    → In j (reached N k) ↔ (In j (attribute k) ⊎ Chain (Tied N (result_of N p (N.header.nodes - 1)).past) k j)
