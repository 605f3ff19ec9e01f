-- An owner, and the set's eight bytes behind it.
use mathlib.Core.Path.{refl}
use Rattle.format.specs.Layout.{relation_bytes}
use Rattle.encoding.proofs.Put.{put_then, one_put, number_put}
use Rattle.encoding.proofs.records.RelationRecord.put.Goals as goal

pub returns-clause-stored : goal.returns-clause-stored
unfolding relation_bytes
returns-clause-stored c = put_then 1 refl (one_put _ _ _) (number_put 8 _ c.to_be_bytes.ensures c.put.ensures)
