-- The number of the copied bytes is that of the file.
use native.Mathlib.Omega.{arith}
use Rattle.layout.proofs.Fields.{number_copied}
use Rattle.layout.proofs.bytes.eight.Goals as goal

pub returns-then-file-at : goal.returns-then-file-at
returns-then-file-at c =
    number_copied c.args.file.now c.args.at c.padded-bytes.result c.padded-bytes.ensures 8 (omega arith) c.eight_in.ensures
