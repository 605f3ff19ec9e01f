-- Both bytes are read where the definition has them.
use Rattle.format.specs.Layout.{pair_at}
use Rattle.layout.proofs.file.pair_at.Goals as goal

pub returns : goal.returns
unfolding pair_at
returns c = λ i. record { left = c.byte.ensures i; right = c.byte-2.ensures i }
