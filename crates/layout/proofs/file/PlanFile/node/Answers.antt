-- In its section a record is read where it stands, and past the section is the one of zeros.
use native.Mathlib.Omega.{arith}
use mathlib.Core.Path.{sym, ◌∙◌}
use Rattle.format.proofs.Sections.{node_past}
use Rattle.format.proofs.Read.{node_read}
use Rattle.night.proofs.Defaults.{default_node}
use Rattle.layout.proofs.file.PlanFile.node.Goals as goal

pub returns-then-h-i : goal.returns-then-h-i
returns-then-h-i c =
    default_node c.default.ensures ∙ sym (node_past c.args.self.now.bytes.now c.args.self.now.header c.args.i (omega arith))

pub returns : goal.returns
returns c =
    node_read c.args.self.now.bytes.now c.args.self.now.header c.args.i (omega arith) c.nodes_from.ensures.0 c.nodes_length.ensures.0 c.node_at.ensures
