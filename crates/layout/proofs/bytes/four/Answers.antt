-- The number of the copied bytes is that of the file.
use mathlib.Core.Path.{◌∙◌}
use native.Mathlib.Nat.{add-zero}
use native.Mathlib.Omega.{arith}
use Rattle.laws.proofs.BigEndian.{be_copied}
use Rattle.layout.proofs.bytes.four.Goals as goal

pub returns-then-file-at : goal.returns-then-file-at
returns-then-file-at c =
    c.four_in.ensures ∙ rw (add-zero c.args.at) at (be_copied c.args.file.now c.args.at c.padded-bytes.result c.padded-bytes.ensures 0 4 (omega arith))
