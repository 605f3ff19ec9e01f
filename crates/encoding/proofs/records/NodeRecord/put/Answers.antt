-- A node's parts stand one behind the other.
use Prim.Native.Nat.{ℕ, ◌+◌}
use mathlib.Core.Path.{sym}
use mathlib.Core.List.{List}
use native.Mathlib.Omega.{arith}
use Rattle.format.specs.Layout.{node_bytes}
use Rattle.encoding.specs.Stored.{Stored}
use Rattle.encoding.proofs.Put.{number_put, there, not_there}
use Rattle.encoding.proofs.Parts.{names_of, names_long, node_put}
use Rattle.encoding.proofs.records.NodeRecord.put.Goals as goal
use Rattle.encoding.proofs.records.NodeRecord.put.Goals.{After-has_pairs}

-- the node, whatever stands behind its start
with_names : (c : After-has_pairs) {after : List ℕ} → Stored c.put-4.new.room after (c.args.at + 28) (names_of c.args.version c.args.self)
    → Stored c.args.room.now after c.args.at (node_bytes c.args.version c.args.self)
with_names c names =
    let v = c.args.self in
    node_put c.args.version v c.put.ensures (number_put 8 v.set c.to_be_bytes.ensures c.put-2.ensures)
    (number_put 8 v.needed c.to_be_bytes-2.ensures c.put-3.ensures) (number_put 4 v.size c.to_be_bytes-3.ensures c.put-4.ensures) names

pub put-requires-then-has_pairs : goal.put-requires-then-has_pairs
put-requires-then-has_pairs c = omega (arith, names_long c.args.version (sym c.if-has_pairs.ensures))

pub returns-then-has_pairs-clause-stored : goal.returns-then-has_pairs-clause-stored
returns-then-has_pairs-clause-stored c =
    with_names (goal.at.returns-then-has_pairs-clause-stored c).After-has_pairs (there (sym c.if-has_pairs.ensures) c.put-then-has_pairs.ensures)

pub returns-else-has_pairs-clause-stored : goal.returns-else-has_pairs-clause-stored
returns-else-has_pairs-clause-stored c =
    with_names (goal.at.returns-else-has_pairs-clause-stored c).After-has_pairs (not_there _ _ _ (sym c.if-has_pairs.ensures))
