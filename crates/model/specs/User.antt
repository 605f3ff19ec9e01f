-- The user who asked: where it may have every leaf's table, it may run every step, and its delivery never fails.
use Rattle.std.specs.Prelude.{ℕ, ◌<◌, ◌≡◌, true}
use Rattle.sets.specs.Sets.{In}
use Rattle.night.specs.Versions.{delivers}
use Rattle.night.specs.Night.{Night, node_of}
use Rattle.night.specs.Views.{clear_of, sealed_of}
use Rattle.night.specs.Promised.{Promised}
use Rattle.run.specs.Keys.{Plan}
use Rattle.run.specs.Run.{DeliveryFails}
use Rattle.model.specs.Tables.{table_of}
use Rattle.model.specs.Candidates.{May, candidate_set}

-- in a version with a user, it may have every leaf's table, as the leaf holds it, all in clear
abbrev pub UserMay : Night → Type 0
UserMay N =
    delivers N.header.version ≡ true → (i : ℕ) → i < N.header.nodes → (node_of N i).kind ≡ 0
    → May (table_of N i) (clear_of N N.header.user) (sealed_of N N.header.user)

-- then it is a candidate of every step
abbrev pub UserCandidate : Type 0
UserCandidate =
    (N : Night) → Promised N → UserMay N → delivers N.header.version ≡ true
    → (i : ℕ) → i < N.header.nodes → ((node_of N i).kind ≡ 0 → ⊥) → In N.header.user (candidate_set N i)

-- and whoever runs the steps, whatever is opened and sealed, the delivery does not fail
abbrev pub AlwaysDelivered : Type 0
AlwaysDelivered = (N : Night) → Promised N → UserMay N → delivers N.header.version ≡ true → (p : Plan) → DeliveryFails N p → ⊥
