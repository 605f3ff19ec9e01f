-- The records so far stand in the room, and fit.
use Prim.Native.Nat.{ℕ, ◌<◌}
use lib.ListN.{take, get_or}
use Rattle.laws.specs.InOrder.{in_order}
use Rattle.encoding.specs.Stored.{Stored}
use Rattle.encoding.proofs.sections.put_records.Given as goal

abbrev pub invariant-loop-i : goal.invariant-loop-i
invariant-loop-i g l =
    Stored l.initial.room l.room l.at (in_order (g.T.Record.bytes_of l.version) (take l.i l.records))
    × ((k : ℕ) (d : _) → k < l.i → g.T.Record.fits (get_or l.records k d))
