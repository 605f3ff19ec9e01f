-- A price's four bytes.
use Rattle.encoding.proofs.Put.{number_put}
use Rattle.encoding.proofs.records.U32Record.put.Goals as goal

pub returns-clause-stored : goal.returns-clause-stored
returns-clause-stored c = number_put 4 _ c.to_be_bytes.ensures c.put.ensures
