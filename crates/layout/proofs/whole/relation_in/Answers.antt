-- Each field is read where the definition has it.
use Rattle.format.specs.Layout.{relation_at}
use Rattle.layout.proofs.whole.relation_in.Goals as goal

pub returns : goal.returns
unfolding relation_at
returns c = cc
