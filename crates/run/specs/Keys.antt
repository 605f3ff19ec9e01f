-- Keys, from what each node opens and seals: which attributes share a key, its name, and who holds it.
use Rattle.std.specs.Prelude.{ℕ, List, [], ◌∷◌, if◌then◌else◌}
use Rattle.laws.specs.Upwards.{each}
use Rattle.sets.specs.Sets.{member, union, meet, apart, single, lowest}
use Rattle.night.specs.Night.{Night}
use Rattle.night.specs.Kinds.{attribute}

-- a choice with what each node opens on arrival and seals on leaving, any sets
pub record Plan : Type 0 where
  pub subject : ℕ → ℕ
  pub opens : ℕ → ℕ
  pub seals : ℕ → ℕ

-- a subject opened these attributes and sealed those
pub record Event : Type 0 where
  pub subject : ℕ
  pub opened : ℕ
  pub sealed : ℕ

-- one event for each node
unfoldable pub events : Night → Plan → List Event
events N p = each N.header.nodes (λ i. record { subject = p.subject i; opened = p.opens i; sealed = p.seals i })

-- all that some event seals
unfoldable pub ever_sealed : List Event → ℕ
ever_sealed [] = 0
ever_sealed (e ∷ es) = union e.sealed (ever_sealed es)

-- the sealed attributes that share attribute k's key, where `tied` gives for each attribute all those that it is linked with: k and
-- those, or k alone; none where k is never sealed
unfoldable pub group_of : (ℕ → ℕ) → List Event → ℕ → ℕ
group_of tied es k = if member (ever_sealed es) k then meet (ever_sealed es) (union (attribute k) (tied k)) else 0

-- the key's name: the group's lowest sealed attribute, 64 where k is never sealed
unfoldable pub key_name : (ℕ → ℕ) → List Event → ℕ → ℕ
key_name tied es k = lowest 64 (group_of tied es k)

-- the subjects that seal or open one of the group
unfoldable pub holders_of : List Event → ℕ → ℕ
holders_of [] group = 0
holders_of (e ∷ es) group = union (if apart group (union e.opened e.sealed) then 0 else single 16 e.subject) (holders_of es group)

-- the key's holders
unfoldable pub key_holders : (ℕ → ℕ) → List Event → ℕ → ℕ
key_holders tied es k = holders_of es (group_of tied es k)
