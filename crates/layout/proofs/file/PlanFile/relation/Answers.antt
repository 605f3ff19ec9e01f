-- In its section a record is read where it stands, and past the section is the one of zeros.
use mathlib.Core.Path.{sym, ◌∙◌}
use native.Mathlib.Omega.{arith}
use Rattle.format.proofs.Sections.{relation_past}
use Rattle.format.proofs.Read.{relation_read}
use Rattle.night.proofs.Defaults.{default_relation}
use Rattle.layout.proofs.file.PlanFile.relation.Goals as goal

pub returns-then-h-i : goal.returns-then-h-i
returns-then-h-i c =
    default_relation c.default.ensures ∙ sym (relation_past c.args.self.now.bytes.now c.args.self.now.header c.args.i (omega arith))

pub returns : goal.returns
returns c =
    relation_read c.args.self.now.bytes.now c.args.self.now.header c.args.i (omega arith) c.header_length.ensures.0 c.relation_at.ensures
