-- The third byte of the node; past the nodes it is 0.
use native.Mathlib.Omega.{arith}
use Rattle.format.specs.Layout.{node_at}
use Rattle.layout.proofs.Fields.{field_past, field_read}
use Rattle.layout.proofs.file.PlanFile.right.Goals as goal

pub returns-then-h-i : goal.returns-then-h-i
returns-then-h-i c = field_past (λ v. v.right) c.args.self.now.bytes.now c.args.self.now.header c.args.i (omega arith)

pub returns : goal.returns
unfolding node_at
returns c =
    field_read (λ v. v.right) c.args.self.now.bytes.now c.args.self.now.header c.args.i (omega arith) c.node_from.ensures.0 c.byte.ensures
