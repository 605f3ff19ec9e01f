-- The plan for a choice: what is opened and sealed where, and under which keys.
use Rattle.std.specs.Prelude.{ℕ, zero, suc, ◌+◌, ◌-◌, ◌<◌, ◌≡◌, List, [], ◌∷◌, ◌++◌, eqb, get_or, if◌then◌else◌}
use Rattle.laws.specs.Upwards.{upwards}
use Rattle.sets.specs.Sets.{union, meet, minus}
use Rattle.night.specs.Night.{Night, node_of}
use Rattle.night.specs.Kinds.{uses_left, uses_right, visible}
use Rattle.night.specs.Promised.{Promised}
use Rattle.model.specs.Tables.{table_of}
use Rattle.run.specs.Keys.{Plan, events, key_name, key_holders}
use Rattle.run.specs.Run.{all_events}

-- what leaves node k sealed, for given sealings, where `before` has what is sealed in the results of the nodes
unfoldable pub leaves_sealed : Night → (ℕ → ℕ) → List ℕ → ℕ → ℕ
leaves_sealed N seals before k = meet (union (get_or before k 0) (seals k)) (visible N k)

-- what arrives sealed at node i
unfoldable pub arrives_sealed : Night → (ℕ → ℕ) → List ℕ → ℕ → ℕ
arrives_sealed N seals before i =
    union (if uses_left (node_of N i).kind then leaves_sealed N seals before (node_of N i).left else 0)
    (if uses_right (node_of N i).kind then leaves_sealed N seals before (node_of N i).right else 0)

-- a step opens, of its needed attributes, those that arrive sealed
unfoldable pub opens_at : Night → (ℕ → ℕ) → List ℕ → ℕ → ℕ
opens_at N seals before i = meet (node_of N i).needed (arrives_sealed N seals before i)

-- what is then sealed in node i's result
unfoldable pub sealed_step : Night → (ℕ → ℕ) → List ℕ → ℕ → ℕ
sealed_step N seals before i = meet (minus (arrives_sealed N seals before i) (opens_at N seals before i)) (visible N i)

-- what is sealed in the result of each node, worked out upwards
unfoldable pub sealed_results : Night → (ℕ → ℕ) → List ℕ
sealed_results N seals = upwards (sealed_step N seals) N.header.nodes

-- the openings for given sealings
unfoldable pub openings : Night → (ℕ → ℕ) → ℕ → ℕ
openings N seals i = opens_at N seals (sealed_results N seals) i

-- the built sealings: each node but the root seals all that is clear in its result
unfoldable pub seals_step : Night → List ℕ → ℕ → ℕ
seals_step N before i =
    if eqb (i + 1) N.header.nodes then 0 else minus (visible N i) (get_or (sealed_results N (λ k. get_or before k 0)) i 0)

unfoldable pub sealings : Night → ℕ → ℕ
sealings N i = get_or (upwards (seals_step N) N.header.nodes) i 0

-- the built plan for a choice
abbrev pub built : Night → (ℕ → ℕ) → Plan
built N c = record { subject = c; opens = openings N (sealings N); seals = sealings N }

-- the built plan opens just what each step needs
abbrev pub OpensNeeded : Type 0
OpensNeeded = (N : Night) → Promised N → (i : ℕ) → i < N.header.nodes → openings N (sealings N) i ≡ (node_of N i).needed

-- the root's tied set of attribute k
unfoldable pub root_tied : Night → ℕ → ℕ
root_tied N k = get_or (table_of N (N.header.nodes - 1)).tied k 0

-- the name and the holders of attribute k's key: sealed attributes are grouped by the root's tied sets, others alone; the delivery, which seals
-- nothing, is one more event
unfoldable pub name_in : Night → Plan → ℕ → ℕ
name_in N p k = key_name (root_tied N) (events N p) k

unfoldable pub holders_in : Night → Plan → ℕ → ℕ
holders_in N p k = key_holders (root_tied N) (all_events N p) k

-- two numbers for each i below n, in turn
unfoldable pub in_turn : (ℕ → ℕ) → (ℕ → ℕ) → ℕ → List ℕ
in_turn f g zero = []
in_turn f g (suc n) = in_turn f g n ++ (f n ∷ g n ∷ [])

-- the plan's room: opens and seals per node; the keys' room: name and holders per attribute
unfoldable pub plan_room : Night → Plan → List ℕ
plan_room N p = in_turn p.opens p.seals N.header.nodes

unfoldable pub keys_room : Night → Plan → List ℕ
keys_room N p = in_turn (name_in N p) (holders_in N p) N.header.attributes
