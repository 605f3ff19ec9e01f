-- In its section a record is read where it stands, and past the section is the one of zeros.
use mathlib.Core.Path.{sym, ◌∙◌}
use native.Mathlib.Omega.{arith}
use Rattle.format.proofs.Sections.{grant_past}
use Rattle.format.proofs.Read.{grant_read}
use Rattle.night.proofs.Defaults.{default_grant}
use Rattle.layout.proofs.file.PlanFile.grant.Goals as goal

pub returns-then-h-i : goal.returns-then-h-i
returns-then-h-i c =
    default_grant c.default.ensures ∙ sym (grant_past c.args.self.now.bytes.now c.args.self.now.header c.args.i (omega arith))

pub returns : goal.returns
returns c =
    grant_read c.args.self.now.bytes.now c.args.self.now.header c.args.i (omega arith) c.grants_from.ensures.0 c.grants_length.ensures.0 c.grant_at.ensures
