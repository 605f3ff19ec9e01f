-- In its section a record is read where it stands, and past the section is the one of zeros.
use native.Mathlib.Omega.{arith}
use mathlib.Core.Path.{sym, ◌∙◌}
use Rattle.format.proofs.Sections.{pair_past}
use Rattle.format.proofs.Read.{pair_read}
use Rattle.night.proofs.Defaults.{default_pair}
use Rattle.layout.proofs.file.PlanFile.pair.Goals as goal

pub returns-then-pairs_in-i : goal.returns-then-pairs_in-i
returns-then-pairs_in-i c =
    default_pair c.default.ensures ∙ sym (pair_past c.args.self.now.bytes.now c.args.self.now.header c.args.i (omega arith))

pub returns : goal.returns
returns c =
    pair_read c.args.self.now.bytes.now c.args.self.now.header c.args.i (omega arith) c.pairs_from.ensures.0 c.pair_at.ensures
