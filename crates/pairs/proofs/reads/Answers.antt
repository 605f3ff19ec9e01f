-- Kind 9 reads its pairs, any other what its fields say.
use mathlib.Core.Path.{◌∙◌}
use Rattle.layout.specs.Held.{night_held}
use Rattle.pairs.proofs.OneByOne.{plain, paired}
use Rattle.pairs.proofs.reads.Goals as goal

pub returns-then-v-eq-JOIN_ON_PAIRS : goal.returns-then-v-eq-JOIN_ON_PAIRS
returns-then-v-eq-JOIN_ON_PAIRS c = c.pairs_read.ensures ∙ paired (night_held c.args.file.now) c.args.v c.if-v-eq-JOIN_ON_PAIRS.true

pub returns-else-v-eq-JOIN_ON_PAIRS : goal.returns-else-v-eq-JOIN_ON_PAIRS
returns-else-v-eq-JOIN_ON_PAIRS c = c.plain_reads.ensures ∙ plain (night_held c.args.file.now) c.args.v c.if-v-eq-JOIN_ON_PAIRS.false
