-- The events of a plan's nodes, from lists with an entry for each node, and the delivery.
use Rattle.std.specs.Prelude.{ℕ, List, [], ◌∷◌, ◌++◌, get_or}
use Rattle.laws.specs.Upwards.{each}
use Rattle.run.specs.Keys.{Event}
use Rattle.keying.specs.declared.keys.Delivery.{Delivery}

-- the events of the first n nodes: each node's subject opened and sealed what the lists say
unfoldable pub node_events : List ℕ → List ℕ → List ℕ → ℕ → List Event
node_events subjects opens seals n = each n (λ i. record { subject = get_or subjects i 0; opened = get_or opens i 0; sealed = get_or seals i 0 })

-- these, and then the delivery: the user opens what is delivered sealed
unfoldable pub events_to : List ℕ → List ℕ → List ℕ → ℕ → Delivery → List Event
events_to subjects opens seals n d = node_events subjects opens seals n ++ (record { subject = d.user; opened = d.opened; sealed = 0 } ∷ [])
