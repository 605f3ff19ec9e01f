-- Each field is read where the definition has it.
use Rattle.format.proofs.Read.{node_made}
use Rattle.layout.proofs.whole.node_in.Goals as goal

pub returns : goal.returns
returns c =
    node_made c.args.version c.args.file.now c.args.at c.has_pairs-paired.ensures c.eight_in.ensures c.eight_in-2.ensures c.four_in.ensures
    c.byte_if-first.ensures c.byte_if-count.ensures
