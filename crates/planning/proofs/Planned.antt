-- What the plan's and the keys' arrays hold is the built plan for the choice.
use Prim.Native.Nat.{ℕ, ◌+◌, ◌-◌, ◌*◌, ◌<◌}
use mathlib.Core.Path.{◌≡◌, refl, sym, ap, ◌∙◌}
use mathlib.Core.Bool.{Bool, true, false}
use mathlib.Core.List.{List, [], ◌∷◌, ◌++◌, append-nil}
use native.Mathlib.Omega.{arith}
use lib.Dec.{eqb}
use lib.ListN.{get_or, drop}
use Rattle.std.specs.Prelude.{if◌then◌else◌}
use Rattle.laws.specs.Upwards.{each}
use Rattle.laws.proofs.Upwards.{each_at, each_same}
use Rattle.sets.proofs.Members.{apart_exactly, in_none}
use Rattle.night.specs.Versions.{delivers}
use Rattle.night.specs.Night.{Night, node_of}
use Rattle.night.specs.Promised.{Promised}
use Rattle.model.specs.Tables.{table_of}
use Rattle.run.specs.Keys.{Plan, Event, events, ever_sealed, group_of, key_name, holders_of, key_holders}
use Rattle.run.specs.Run.{delivered, sealed_in, deliveries, all_events}
use Rattle.model.specs.Plan.{openings, sealings, built, root_tied, name_in, holders_in, in_turn, plan_room, keys_room}
use Rattle.model.proofs.Built.{opens_needed, seals_clear}
use Rattle.model.proofs.BuiltDelivered.{delivered_sealed}
use Rattle.model.proofs.TableLaws.{union_none}
use Rattle.model.proofs.Keyed.{ever_idle, holders_append}
use Rattle.model.proofs.Turns.{turn_same}
use Rattle.keying.specs.declared.keys.Delivery.{Delivery}
use Rattle.keying.specs.Nodes.{node_events, events_to}
use Rattle.keying.specs.Parts.{delivery_of}

-- an event that opens and seals nothing changes no holder
idle_holds : (user group : ℕ) → holders_of (record { subject = user; opened = 0; sealed = 0 } ∷ []) group ≡ 0
unfolding holders_of
idle_holds user group = rw (union_none 0, (apart_exactly group 0).1 (λ a h q. in_none a q)) (union_none 0)

idle_more : (tied : ℕ → ℕ) (es : List Event) (user k : ℕ) → key_holders tied (es ++ (record { subject = user; opened = 0; sealed = 0 } ∷ [])) k ≡ key_holders tied es k
unfolding key_holders group_of
idle_more tied es user k = rw same_ever same_holders
  where
    idle : List Event
    idle = record { subject = user; opened = 0; sealed = 0 } ∷ []

    same_ever : ever_sealed (es ++ idle) ≡ ever_sealed es
    same_ever = ever_idle es _ refl

    same_holders : holders_of (es ++ idle) (group_of tied es k) ≡ holders_of es (group_of tied es k)
    same_holders = holders_append es idle (group_of tied es k) ∙ rw (idle_holds user (group_of tied es k)) (union_none (holders_of es (group_of tied es k)))

module _ (N : Night) (sound : Promised N) (subjects opens seals tied : List ℕ)
    (opens_are : opens ≡ each 64 (λ i. (node_of N i).needed))
    (seals_are : seals ≡ each 64 (λ i. if eqb (i + 1) N.header.nodes then 0 else (table_of N i).clear))
    (tied-are : tied ≡ (table_of N (N.header.nodes - 1)).tied) where
  opens_at : (i : ℕ) → i < N.header.nodes → get_or opens i 0 ≡ openings N (sealings N) i
  opens_at i l = rw opens_are (each_at (λ j. (node_of N j).needed) 0 i 64 (omega (arith, sound.counts.nodes_most)) ∙ sym (opens_needed N sound i l))

  seals_at : (i : ℕ) → i < N.header.nodes → get_or seals i 0 ≡ sealings N i
  seals_at i l =
      rw seals_are
      (each_at (λ j. if eqb (j + 1) N.header.nodes then 0 else (table_of N j).clear) 0 i 64 (omega (arith, sound.counts.nodes_most)) ∙ sym (seals_clear N sound i l))

  plan_pairs : in_turn (λ i. get_or opens i 0) (λ i. get_or seals i 0) N.header.nodes ≡ plan_room N (built N (λ i. get_or subjects i 0))
  unfolding plan_room
  plan_pairs = turn_same (λ i. get_or opens i 0) (λ i. get_or seals i 0) (openings N (sealings N)) (sealings N) N.header.nodes opens_at seals_at

  -- the plan's room, where these lists are written into it in turn
  pub plan_written : (before : List ℕ) {room : List ℕ}
      → room ≡ in_turn (λ i. get_or opens i 0) (λ i. get_or seals i 0) N.header.nodes ++ drop (2 * N.header.nodes) before
      → room ≡ plan_room N (built N (λ i. get_or subjects i 0)) ++ drop (2 * N.header.nodes) before
  plan_written before written = rw (← plan_pairs) written

  events_are : node_events subjects opens seals N.header.nodes ≡ events N (built N (λ i. get_or subjects i 0))
  unfolding node_events events
  events_are =
      each_same (λ i. record { subject = get_or subjects i 0; opened = get_or opens i 0; sealed = get_or seals i 0 })
      (λ i. record { subject = get_or subjects i 0; opened = openings N (sealings N) i; sealed = sealings N i }) N.header.nodes
      (λ i l. rw (opens_at i l, seals_at i l) refl)

  name_is : (k : ℕ) → key_name (λ j. get_or tied j 0) (node_events subjects opens seals N.header.nodes) k ≡ name_in N (built N (λ i. get_or subjects i 0)) k
  unfolding name_in root_tied
  name_is k = rw (events_are, tied-are) refl

  -- with the delivery, or without one where nobody asked
  module _ (d : Delivery) (delivery-is : d ≡ delivery_of N.header (table_of N (N.header.nodes - 1)).sealed) where
    holders_are : (k : ℕ) → key_holders (λ j. get_or tied j 0) (events_to subjects opens seals N.header.nodes d) k ≡ holders_in N (built N (λ i. get_or subjects i 0)) k
    unfolding holders_in root_tied events_to delivery_of all_events deliveries
    holders_are k = rw (delivery-is, events_are, tied-are, ← delivered_sealed N sound (λ i. get_or subjects i 0)) (go (delivers N.header.version))
      where
        p : Plan
        p = built N (λ i. get_or subjects i 0)

        tieds : ℕ → ℕ
        tieds = λ j. get_or (table_of N (N.header.nodes - 1)).tied j 0

        opened : ℕ
        opened = sealed_in N (delivered N p)

        go : (b : Bool)
            → key_holders tieds (events N p ++ (record { subject = N.header.user; opened = if b then opened else 0; sealed = 0 } ∷ [])) k
            ≡ key_holders tieds (events N p ++ (if b then record { subject = N.header.user; opened = opened; sealed = 0 } ∷ [] else [])) k
        go true = refl
        go false = idle_more tieds (events N p) N.header.user k ∙ ap (λ (es : List Event). key_holders tieds es k) (sym (append-nil (events N p)))

    keys_pairs : (names holders : List ℕ)
        → names ≡ each 64 (key_name (λ j. get_or tied j 0) (node_events subjects opens seals N.header.nodes))
        → holders ≡ each 64 (key_holders (λ j. get_or tied j 0) (events_to subjects opens seals N.header.nodes d))
        → in_turn (λ k. get_or names k 0) (λ k. get_or holders k 0) N.header.attributes ≡ keys_room N (built N (λ i. get_or subjects i 0))
    unfolding keys_room
    keys_pairs names holders e q =
        let few = sound.counts.attributes_most in
        turn_same (λ k. get_or names k 0) (λ k. get_or holders k 0) (name_in N (built N (λ i. get_or subjects i 0))) (holders_in N (built N (λ i. get_or subjects i 0))) N.header.attributes
        (λ k l. rw e (each_at (key_name (λ j. get_or tied j 0) (node_events subjects opens seals N.header.nodes)) 0 k 64 (omega arith)) ∙ name_is k)
        (λ k l. rw q (each_at (key_holders (λ j. get_or tied j 0) (events_to subjects opens seals N.header.nodes d)) 0 k 64 (omega arith)) ∙ holders_are k)

    -- the keys' room, where names and holders are written into it in turn
    pub keys_written : (names holders before : List ℕ) {room : List ℕ}
        → names ≡ each 64 (key_name (λ j. get_or tied j 0) (node_events subjects opens seals N.header.nodes))
        → holders ≡ each 64 (key_holders (λ j. get_or tied j 0) (events_to subjects opens seals N.header.nodes d))
        → room ≡ in_turn (λ k. get_or names k 0) (λ k. get_or holders k 0) N.header.attributes ++ drop (2 * N.header.attributes) before
        → room ≡ keys_room N (built N (λ i. get_or subjects i 0)) ++ drop (2 * N.header.attributes) before
    keys_written names holders before e q written = rw (← keys_pairs names holders e q) written
