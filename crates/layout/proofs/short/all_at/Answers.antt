-- Each record of the copied bytes is that of the file.
use native.Mathlib.Omega.{arith}
use mathlib.Core.Path.{◌∙◌}
use Rattle.format.proofs.Read.{relation_copied, grant_copied, node_copied}
use Rattle.format.proofs.Written.{grant_most, node_most}
use Rattle.layout.proofs.short.all_at.Goals as goal

pub returns : goal.returns
returns c = (
  c.relation_in.ensures ∙ relation_copied 30 c.args.file.now c.args.at c.padded-bytes.result c.padded-bytes.ensures (omega arith),
  c.grant_in.ensures ∙ grant_copied 30 c.args.file.now c.args.at c.padded-bytes.result c.padded-bytes.ensures c.args.version (omega (arith, grant_most c.args.version)),
  c.node_in.ensures ∙ node_copied 30 c.args.file.now c.args.at c.padded-bytes.result c.padded-bytes.ensures c.args.version (node_most c.args.version),
)
