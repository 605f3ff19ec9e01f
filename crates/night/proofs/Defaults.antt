-- A record of which every field is 0 is what stands past the end of a list.
use mathlib.Core.Path.{◌≡◌, refl}
use Rattle.night.specs.declared.Relation.{Relation}
use Rattle.night.specs.declared.Grant.{Grant}
use Rattle.night.specs.declared.Node.{Node}
use Rattle.night.specs.declared.Pair.{Pair}
use Rattle.night.specs.Night.{no_relation, no_grant, no_node, no_pair}

pub default_relation : {v : Relation} → (v.owner ≡ 0) × (v.set ≡ 0) → v ≡ no_relation
default_relation z = rw (z.0, z.1) refl

pub default_grant : {v : Grant} → (v.relation ≡ 0) × ((v.subject ≡ 0) × ((v.first ≡ 0) × ((v.last ≡ 0) × ((v.clear ≡ 0) × (v.sealed ≡ 0))))) → v ≡ no_grant
default_grant z = rw (z.0, z.1.0, z.1.1.0, z.1.1.1.0, z.1.1.1.1.0, z.1.1.1.1.1) refl

pub default_node : {v : Node}
    → (v.kind ≡ 0) × ((v.left ≡ 0) × ((v.right ≡ 0) × ((v.x ≡ 0) × ((v.y ≡ 0) × ((v.spare1 ≡ 0) × ((v.spare2 ≡ 0) × ((v.spare3 ≡ 0) × ((v.set ≡ 0) × ((v.needed ≡ 0) × ((v.size ≡ 0) × ((v.first ≡ 0) × (v.count ≡ 0))))))))))))
    → v ≡ no_node
default_node z = rw (z.0, z.1.0, z.1.1.0, z.1.1.1.0, z.1.1.1.1.0, z.1.1.1.1.1.0, z.1.1.1.1.1.1.0, z.1.1.1.1.1.1.1.0, z.1.1.1.1.1.1.1.1.0, z.1.1.1.1.1.1.1.1.1.0, z.1.1.1.1.1.1.1.1.1.1.0, z.1.1.1.1.1.1.1.1.1.1.1.0, z.1.1.1.1.1.1.1.1.1.1.1.1) refl

pub default_pair : {v : Pair} → (v.left ≡ 0) × (v.right ≡ 0) → v ≡ no_pair
default_pair z = rw (z.0, z.1) refl
