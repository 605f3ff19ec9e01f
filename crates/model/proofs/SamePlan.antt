-- Plans that agree at every node run alike.
use Prim.Native.Nat.{ℕ, ◌-◌, ◌<◌}
use mathlib.Core.Path.{◌≡◌, refl}
use mathlib.Core.Bool.{Bool, true, false}
use mathlib.Core.List.{List}
use native.Mathlib.Omega.{arith}
use lib.ListN.{get_or}
use Rattle.std.specs.Prelude.{if◌then◌else◌}
use Rattle.laws.proofs.Upwards.{upwards_same, each_same}
use Rattle.sets.specs.Sets.{member}
use Rattle.night.specs.Night.{Night, node_of}
use Rattle.night.specs.Kinds.{uses_left, uses_right}
use Rattle.night.specs.Promised.{Promised}
use Rattle.run.specs.Keys.{Plan, Event, events}
use Rattle.model.specs.Choice.{Choice}
use Rattle.model.specs.Plan.{built, name_in, holders_in, plan_room, keys_room}
use Rattle.model.proofs.Parents.{root_there}
use Rattle.model.proofs.Turns.{turn_same}
use Rattle.run.specs.Run.{Held, key_of, holders, sealed_under, nothing, leaving, opened_by, arriving, held_step, helds, result_of, left_arrives, right_arrives, left_opened, right_opened, arrived, opened, delivered, received, deliveries, all_events, Stuck, seals_unclear, opens_unsealed, opens_unheld, needs_unclear, mixes, ForbiddenAt, left-arrives, right-arrives, left-opened, right-opened, result_made, DeliveryFails, user_takes, user_opens, user_unheld, Clean}

-- the same subject, openings and sealings at every node
pub record Alike (N : Night) (p q : Plan) : Type 0 where
  pub subject : (i : ℕ) → i < N.header.nodes → p.subject i ≡ q.subject i
  pub opens : (i : ℕ) → i < N.header.nodes → p.opens i ≡ q.opens i
  pub seals : (i : ℕ) → i < N.header.nodes → p.seals i ≡ q.seals i

module _ (N : Night) (p q : Plan) (alike : Alike N p q) where
  abbrev n : ℕ
  n = N.header.nodes

  pub events_same : events N p ≡ events N q
  unfolding events
  events_same = each_same _ _ n (λ i l. one i l)
    where
      one : (i : ℕ) → i < n
          → ◌≡◌ {A = Event} (record { subject = p.subject i; opened = p.opens i; sealed = p.seals i }) (record { subject = q.subject i; opened = q.opens i; sealed = q.seals i })
      one i l = rw (alike.subject i l, alike.opens i l, alike.seals i l) refl

  -- so their keys have the same names
  pub key_same : (k : ℕ) → key_of N p k ≡ key_of N q k
  unfolding key_of
  key_same k = rw events_same refl

  -- and the plan's room is filled alike
  pub plan_same : plan_room N p ≡ plan_room N q
  unfolding plan_room
  plan_same = turn_same p.opens p.seals q.opens q.seals n alike.opens alike.seals

  -- they have the same tables
  leaving_same : (k : ℕ) → k < n → (t : Held) → leaving N p k t ≡ leaving N q k t
  unfolding leaving
  leaving_same k l t = λ d. record { column = λ a. if member (alike.seals k l d) a then sealed_under (key_same a d) (t.column a) else t.column a; past = t.past }

  opened_by_same : (i : ℕ) → i < n → (t : Held) → opened_by p i t ≡ opened_by q i t
  unfolding opened_by
  opened_by_same i l t = rw (alike.opens i l) refl

  arriving_same : (before : List Held) (uses : Bool) (k : ℕ) → (uses ≡ true → k < n) → arriving N p before uses k ≡ arriving N q before uses k
  unfolding arriving
  arriving_same before true k h = leaving_same k (h refl) (get_or before k nothing)
  arriving_same before false k h = refl

  module _ (sound : Promised N) where
    left_there : (i : ℕ) → i < n → uses_left (node_of N i).kind ≡ true → (node_of N i).left < n
    left_there i l u = omega (arith, (sound.node i l).left_lower u)

    right_there : (i : ℕ) → i < n → uses_right (node_of N i).kind ≡ true → (node_of N i).right < n
    right_there i l u = omega (arith, (sound.node i l).right_lower u)

    step_same : (before : List Held) (i : ℕ) → i < n → held_step N p before i ≡ held_step N q before i
    unfolding held_step
    step_same before i l =
        rw (arriving_same before _ (node_of N i).left (left_there i l), arriving_same before _ (node_of N i).right (right_there i l), opened_by_same i l (arriving N q before (uses_left (node_of N i).kind) (node_of N i).left), opened_by_same i l (arriving N q before (uses_right (node_of N i).kind) (node_of N i).right))
        refl

    helds_same : helds N p ≡ helds N q
    unfolding helds
    helds_same = upwards_same (held_step N p) (held_step N q) n step_same

    result_same : (i : ℕ) → result_of N p i ≡ result_of N q i
    unfolding result_of
    result_same i = rw helds_same refl

    left_same : (i : ℕ) → i < n → left_arrives N p i ≡ left_arrives N q i
    unfolding left_arrives
    left_same i l = rw helds_same (arriving_same (helds N q) _ (node_of N i).left (left_there i l))

    right_same : (i : ℕ) → i < n → right_arrives N p i ≡ right_arrives N q i
    unfolding right_arrives
    right_same i l = rw helds_same (arriving_same (helds N q) _ (node_of N i).right (right_there i l))

    left_opened_same : (i : ℕ) → i < n → left_opened N p i ≡ left_opened N q i
    unfolding left_opened
    left_opened_same i l = rw (left_same i l) (opened_by_same i l (left_arrives N q i))

    right_opened_same : (i : ℕ) → i < n → right_opened N p i ≡ right_opened N q i
    unfolding right_opened
    right_opened_same i l = rw (right_same i l) (opened_by_same i l (right_arrives N q i))

    arrived_same : (i : ℕ) → i < n → arrived N p i ≡ arrived N q i
    unfolding arrived
    arrived_same i l = rw (left_same i l, right_same i l) refl

    opened_same : (i : ℕ) → i < n → opened N p i ≡ opened N q i
    unfolding opened
    opened_same i l = rw (left_opened_same i l, right_opened_same i l) refl

    -- the same is delivered
    last : n - 1 < n
    last = root_there N sound

    delivered_same : delivered N p ≡ delivered N q
    unfolding delivered
    delivered_same = rw (result_same (n - 1)) (leaving_same (n - 1) last (result_of N q (n - 1)))

    received_same : received N p ≡ received N q
    unfolding received
    received_same = rw delivered_same refl

    -- so the keys have the same holders
    all_events_same : all_events N p ≡ all_events N q
    unfolding all_events deliveries
    all_events_same = rw (events_same, delivered_same) refl

    pub holders_same : (k : ℕ) → holders N p k ≡ holders N q k
    unfolding holders
    holders_same k = rw all_events_same refl

    pub keys_same : keys_room N p ≡ keys_room N q
    unfolding keys_room name_in holders_in
    keys_same =
        turn_same (name_in N p) (holders_in N p) (name_in N q) (holders_in N q) N.header.attributes (λ k l. rw events_same refl) (λ k l. rw all_events_same refl)

    -- they are stuck at the same nodes
    stuck_same : (i : ℕ) → i < n → Stuck N q i → Stuck N p i
    stuck_same i l (seals_unclear a h u) = seals_unclear a (rw (alike.seals i l) h) (rw (result_same i) u)
    stuck_same i l (opens_unsealed a h u) = opens_unsealed a (rw (alike.opens i l) h) (rw (arrived_same i l) u)
    stuck_same i l (opens_unheld a key h e u) =
        opens_unheld a key (rw (alike.opens i l) h) (rw (arrived_same i l) e) (rw (alike.subject i l, holders_same key) u)
    stuck_same i l (needs_unclear a h u) = needs_unclear a h (rw (opened_same i l) u)
    stuck_same i l (mixes m h u v) = mixes m h (rw (opened_same i l) u) (rw (opened_same i l) v)

    -- and forbidden at the same nodes
    forbidden_same : (i : ℕ) → i < n → ForbiddenAt N q i → ForbiddenAt N p i
    forbidden_same i l (left-arrives u f) = left-arrives u (rw (alike.subject i l, left_same i l) f)
    forbidden_same i l (right-arrives u f) = right-arrives u (rw (alike.subject i l, right_same i l) f)
    forbidden_same i l (left-opened u f) = left-opened u (rw (alike.subject i l, left_opened_same i l) f)
    forbidden_same i l (right-opened u f) = right-opened u (rw (alike.subject i l, right_opened_same i l) f)
    forbidden_same i l (result_made s f) = result_made s (rw (alike.subject i l, result_same i) f)

    -- and so does their delivery fail
    delivery_same : DeliveryFails N q → DeliveryFails N p
    delivery_same (user_takes f) = user_takes (rw delivered_same f)
    delivery_same (user_opens f) = user_opens (rw received_same f)
    delivery_same (user_unheld a key e u) = user_unheld a key (rw delivered_same e) (rw (holders_same key) u)

    pub clean_same : Clean N p → Clean N q
    clean_same c =
        record {
          free = λ i l h. c.free i l (stuck_same i l h);
          allowed = λ i l h. c.allowed i l (forbidden_same i l h);
          delivery = λ d h. c.delivery d (delivery_same h);
        }

-- the plans that are built for choices that are the same at every node
pub built_alike : (N : Night) (c d : Choice) → ((i : ℕ) → i < N.header.nodes → c i ≡ d i) → Alike N (built N c) (built N d)
built_alike N c d h = record { subject = h; opens = λ i l. refl; seals = λ i l. refl }
