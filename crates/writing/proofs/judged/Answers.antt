-- Refused by reading, too long for the room, or copied.
use mathlib.Core.Path.{refl}
use native.Mathlib.Omega.{arith}
use Rattle.std.proofs.lemmas.Result.{err_from_is_err_and}
use Rattle.writing.proofs.Answered.{judged_refused, judged_short, judged_copied}
use Rattle.writing.proofs.judged.Goals as goal

pub returns-in_err-check : goal.returns-in_err-check
returns-in_err-check c =
    let p = err_from_is_err_and c.from_residual.result c.from_residual.ensures.1 in
    rw (p.1, p.2) (judged_refused c.args.file.now c.args.room.now _ c.in_err-check.ensures)

pub returns-then-room-end : goal.returns-then-room-end
returns-then-room-end c = judged_short c.args.file.now c.args.room.now _ c.in_ok-check.ensures (omega arith)

pub returns : goal.returns
returns c = judged_copied c.args.file.now c.args.room.now _ c.in_ok-check.ensures (omega arith) (rw c.copy_from_slice.ensures.after refl)
