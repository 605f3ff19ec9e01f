-- Each part where the definition has it.
use Prim.Native.Nat.{ℕ}
use mathlib.Core.Path.{sym}
use mathlib.Core.List.{List}
use native.Mathlib.Omega.{arith}
use Rattle.format.specs.Layout.{header_bytes}
use Rattle.encoding.specs.Stored.{Stored}
use Rattle.encoding.proofs.Put.{number_put, there, not_there}
use Rattle.encoding.proofs.Parts.{user_bytes, pairs_bytes, day_bytes, user_long, pairs_long, day_long, header_put}
use Rattle.encoding.proofs.records.put_header.Goals as goal
use Rattle.encoding.proofs.records.put_header.Goals.{After-has_days, then-delivers, else-delivers, then-has_pairs, else-has_pairs}

-- the header, whatever stands where the day does
with_day : (c : After-has_days) {after : List ℕ} → Stored c.if-has_pairs.room after 17 (day_bytes c.args.h) → Stored c.args.room.now after 0 (header_bytes c.args.h)
with_day c day =
    let h = c.args.h in
    let user : Stored c.put-5.new.room c.if-delivers.room 15 (user_bytes h) =
    elim c.if-delivers.branch [
      | then-delivers w ↦ rw w.room-is (there (sym w.if-delivers.ensures) w.put-then-delivers.ensures)
      | else-delivers w ↦ rw w.room-is (not_there _ _ _ (sym w.if-delivers.ensures))
    ] in
    let pairs : Stored c.if-delivers.room c.if-has_pairs.room 16 (pairs_bytes h) =
    elim c.if-has_pairs.branch [
      | then-has_pairs w ↦ rw w.room-is (there (sym w.if-has_pairs.ensures) w.put-then-has_pairs.ensures)
      | else-has_pairs w ↦ rw w.room-is (not_there _ _ _ (sym w.if-has_pairs.ensures))
    ] in
    header_put h c.put.ensures (number_put 2 h.version c.to_be_bytes.ensures c.put-2.ensures) c.put-3.ensures
    (number_put 2 h.grants c.to_be_bytes-2.ensures c.put-4.ensures) (number_put 4 h.steps c.to_be_bytes-3.ensures c.put-5.ensures) user pairs day

pub put-requires-then-delivers : goal.put-requires-then-delivers
put-requires-then-delivers c = omega (arith, user_long c.args.h.version (sym c.if-delivers.ensures))

pub put-requires-then-has_pairs : goal.put-requires-then-has_pairs
put-requires-then-has_pairs c = omega (arith, pairs_long c.args.h.version (sym c.if-has_pairs.ensures))

pub put-requires-then-has_days : goal.put-requires-then-has_days
put-requires-then-has_days c = omega (arith, day_long c.args.h.version (sym c.if-has_days.ensures))

pub returns-then-has_days-clause-stored : goal.returns-then-has_days-clause-stored
returns-then-has_days-clause-stored c =
    with_day (goal.at.returns-then-has_days-clause-stored c).After-has_days
    (there (sym c.if-has_days.ensures) (number_put 2 c.args.h.day c.to_be_bytes-then-has_days.ensures c.put-then-has_days.ensures))

pub returns-else-has_days-clause-stored : goal.returns-else-has_days-clause-stored
returns-else-has_days-clause-stored c =
    with_day (goal.at.returns-else-has_days-clause-stored c).After-has_days (not_there _ _ _ (sym c.if-has_days.ensures))
