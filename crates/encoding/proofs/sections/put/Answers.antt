-- The part that is overwritten.
use Rattle.encoding.proofs.Put.{part_put}
use Rattle.encoding.proofs.sections.put.Goals as goal

pub returns : goal.returns
returns c = rw c.copy_from_slice.ensures.after (part_put _ _ _ c.requires)
