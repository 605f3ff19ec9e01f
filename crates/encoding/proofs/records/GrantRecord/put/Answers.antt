-- Each field where the definition has it, the days last.
use Prim.Native.Nat.{ℕ, ◌+◌}
use mathlib.Core.Path.{sym}
use mathlib.Core.List.{List}
use native.Mathlib.Omega.{arith}
use Rattle.format.specs.Layout.{grant_bytes}
use Rattle.encoding.specs.Stored.{Stored}
use Rattle.encoding.proofs.Put.{number_put, there, not_there}
use Rattle.encoding.proofs.Parts.{days_of, days_long, days_put, grant_put}
use Rattle.encoding.proofs.records.GrantRecord.put.Goals as goal
use Rattle.encoding.proofs.records.GrantRecord.put.Goals.{After-has_days}

-- the grant, whatever stands behind its start
with_days : (c : After-has_days) {after : List ℕ} → Stored c.put-3.new.room after (c.args.at + 18) (days_of c.args.version c.args.self)
    → Stored c.args.room.now after c.args.at (grant_bytes c.args.version c.args.self)
with_days c days =
    let v = c.args.self in
    grant_put c.args.version v c.put.ensures (number_put 8 v.clear c.to_be_bytes.ensures c.put-2.ensures)
    (number_put 8 v.sealed c.to_be_bytes-2.ensures c.put-3.ensures) days

pub put-requires-then-has_days : goal.put-requires-then-has_days
put-requires-then-has_days c = omega (arith, days_long c.args.version (sym c.if-has_days.ensures))

pub put-requires-then-has_days-2 : goal.put-requires-then-has_days-2
put-requires-then-has_days-2 c = omega (arith, days_long c.args.version (sym c.if-has_days.ensures))

pub returns-then-has_days-clause-stored : goal.returns-then-has_days-clause-stored
returns-then-has_days-clause-stored c =
    let v = c.args.self in
    with_days (goal.at.returns-then-has_days-clause-stored c).After-has_days
    (there (sym c.if-has_days.ensures) (days_put v c.args.at
    (number_put 2 v.first c.to_be_bytes-then-has_days.ensures c.put-then-has_days.ensures)
    (number_put 2 v.last c.to_be_bytes-then-has_days-2.ensures c.put-then-has_days-2.ensures)))

pub returns-else-has_days-clause-stored : goal.returns-else-has_days-clause-stored
returns-else-has_days-clause-stored c =
    with_days (goal.at.returns-else-has_days-clause-stored c).After-has_days (not_there _ _ _ (sym c.if-has_days.ensures))
