-- Document 01's refusals 12 to 15, ticket 2026-01's 16 and ticket 2026-02's 17 as trials, and the row of each entry: the trials of the file, then its own.
use Rattle.std.specs.Prelude.{ℕ, ◌*◌, Bool, true, false, not, List, [], ◌∷◌, ◌++◌, eqb, ltb, length, get_or, if◌then◌else◌}
use Rattle.laws.specs.Choose.{any_of}
use Rattle.laws.specs.Trials.{Trial, trial, Says, verdict, rows}
use Rattle.sets.specs.Sets.{member}
use Rattle.night.specs.declared.Header.{Header}
use Rattle.night.specs.Versions.{delivers}
use Rattle.night.specs.Night.{Night, node_of}
use Rattle.night.specs.Kinds.{a_leaf}
use Rattle.night.specs.Views.{clear_of, sealed_of}
use Rattle.format.specs.Layout.{header_of, night_of}
use Rattle.model.specs.Tables.{table_of}
use Rattle.model.specs.Candidates.{may, candidate_set}
use Rattle.model.specs.Choice.{owner_of, steps}
use Rattle.trials.specs.Trials.{trials}

-- 17: in a version with a user, node i is a leaf whose table, as the leaf holds it, all in clear, the user may not have
unfoldable pub kept_from_user : Night → ℕ → Bool
kept_from_user N i =
    if delivers N.header.version then
    if eqb (node_of N i).kind a_leaf then not (may (table_of N i) (clear_of N N.header.user) (sealed_of N N.header.user)) else false else
    false

unfoldable pub user_trials : Night → List Trial
user_trials N = rows N.header.nodes (λ i. trial (kept_from_user N i) 17 i ∷ [])

-- 12: a step without candidate
unfoldable pub without_candidate : Night → ℕ → Bool
without_candidate N i = if eqb (node_of N i).kind 0 then false else eqb (candidate_set N i) 0

unfoldable pub candidate_trials : Night → List Trial
candidate_trials N = rows N.header.nodes (λ i. trial (without_candidate N i) 12 i ∷ [])

-- 13: steps exceed those allowed
unfoldable pub steps_trials : Night → List Trial
steps_trials N = trial (ltb N.header.steps (steps N)) 13 0 ∷ []

-- 14: an offered choice of another length than n; else a subject that is no candidate, or a leaf's that is not the owner
unfoldable pub offer_bad : Night → List ℕ → ℕ → Bool
offer_bad N offer i =
    if eqb (node_of N i).kind 0 then not (eqb (get_or offer i 0) (owner_of N i)) else not (member (candidate_set N i) (get_or offer i 0))

unfoldable pub offer_trials : Night → List ℕ → List Trial
offer_trials N offer =
    trial (not (eqb (length offer) N.header.nodes)) 14 N.header.nodes
    ∷ rows N.header.nodes (λ i. trial (offer_bad N offer i) 14 i ∷ [])

-- 15: lent room too short, for a subject of each node, for opens and seals of each node, for name and holders of each attribute
unfoldable pub choice_room_trials : Night → List ℕ → List Trial
choice_room_trials N room = trial (ltb (length room) N.header.nodes) 15 1 ∷ []

unfoldable pub plan_room_trials : Night → List ℕ → List Trial
plan_room_trials N room = trial (ltb (length room) (2 * N.header.nodes)) 15 2 ∷ []

unfoldable pub keys_room_trials : Night → List ℕ → List Trial
keys_room_trials N room = trial (ltb (length room) (2 * N.header.attributes)) 15 3 ∷ []

-- 16: a node that is no step, or a subject that isn't there; the node asked for
unfoldable pub no_step : Night → ℕ → Bool
no_step N i = if ltb i N.header.nodes then eqb (node_of N i).kind a_leaf else true

unfoldable pub asked_trials : Night → ℕ → ℕ → List Trial
asked_trials N i p = trial (any_of (no_step N i ∷ not (ltb p N.header.subjects) ∷ [])) 16 i ∷ []

-- the rooms lent for the choice, the plan and the keys
pub record Rooms : Type 0 where
  pub choice : List ℕ
  pub plan : List ℕ
  pub keys : List ℕ

-- both choices begin with 1 to 11, 17
unfoldable pub choice_trials : List ℕ → List Trial
choice_trials s = trials s ++ user_trials (night_of s)

-- the verdict of these: the header's values, or the refusal
unfoldable pub choosing_of : List ℕ → Says Header
choosing_of s = verdict (choice_trials s) (header_of s)

-- the cheapest choice: 1 to 11, 17, 12, 13
unfoldable pub cheapest_trials : List ℕ → List Trial
cheapest_trials s = choice_trials s ++ (candidate_trials (night_of s) ++ steps_trials (night_of s))

-- with its plan, filling all three rooms: 15 after these
unfoldable pub cheapest_plan_trials : List ℕ → Rooms → List Trial
cheapest_plan_trials s rooms =
    cheapest_trials s ++ (choice_room_trials (night_of s) rooms.choice ++ (plan_room_trials (night_of s) rooms.plan ++ keys_room_trials (night_of s) rooms.keys))

-- an offered choice: 1 to 11, 17, 14
unfoldable pub offered_trials : List ℕ → List ℕ → List Trial
offered_trials s offer = choice_trials s ++ offer_trials (night_of s) offer

-- with its plan, filling plan and keys: 15 after these; the room for the choice is not asked
unfoldable pub offered_plan_trials : List ℕ → List ℕ → Rooms → List Trial
offered_plan_trials s offer rooms = offered_trials s offer ++ (plan_room_trials (night_of s) rooms.plan ++ keys_room_trials (night_of s) rooms.keys)

-- why a subject is out of a step: 1 to 11, 16
unfoldable pub why_trials : List ℕ → ℕ → ℕ → List Trial
why_trials s i p = trials s ++ asked_trials (night_of s) i p
