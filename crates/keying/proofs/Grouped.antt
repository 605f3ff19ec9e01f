-- The group of an attribute, where all that is ever sealed is worked out once; and the delivery, which seals nothing.
use Prim.Native.Nat.{ℕ}
use mathlib.Core.Path.{◌≡◌, refl, ap, ◌∙◌}
use mathlib.Core.List.{List}
use lib.ListN.{get_or}
use Rattle.std.specs.Prelude.{if◌then◌else◌}
use Rattle.sets.specs.Sets.{member, union, meet, apart, single}
use Rattle.night.specs.Kinds.{attribute}
use Rattle.run.specs.Keys.{ever_sealed, holders_of}
use Rattle.model.proofs.TableLaws.{union_none}
use Rattle.model.proofs.Keyed.{ever_idle, holders_append}
use Rattle.keying.specs.declared.keys.Delivery.{Delivery}
use Rattle.keying.specs.Nodes.{node_events, events_to}

abbrev pub group_among : List ℕ → ℕ → ℕ → ℕ
group_among tied sealed k = if member sealed k then meet sealed (union (attribute k) (get_or tied k 0)) else 0

-- with the delivery, as much is sealed as without
pub ever_to : (subjects opens seals : List ℕ) (n : ℕ) (d : Delivery) → ever_sealed (events_to subjects opens seals n d) ≡ ever_sealed (node_events subjects opens seals n)
unfolding events_to
ever_to subjects opens seals n d = ever_idle (node_events subjects opens seals n) _ refl

-- and the user is one more holder, where it opens one of the group
pub holders_to : (subjects opens seals : List ℕ) (n : ℕ) (d : Delivery) (group : ℕ)
    → holders_of (events_to subjects opens seals n d) group
    ≡ union (holders_of (node_events subjects opens seals n) group) (if apart group (union d.opened 0) then 0 else single 16 d.user)
unfolding events_to holders_of
holders_to subjects opens seals n d group = holders_append (node_events subjects opens seals n) _ group ∙ ap (union _) (union_none _)
