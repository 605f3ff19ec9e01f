-- The lower answer as numbers.
use Rattle.trials.proofs.Opened.{grants_first}
use Rattle.tollburrow.proofs.Coded.{part_refused, part_answered}
use Rattle.tollburrow.proofs.tollburrow_grant_records.Goals as goal

pub overflow_sub-length : goal.overflow_sub-length
overflow_sub-length c = rw (c.grants_from-start.ensures.0, c.nodes_from-end.ensures.0) (grants_first _)

pub returns-in-Ok : goal.returns-in-Ok
returns-in-Ok c = part_answered _ _ _ _ _ _ c.in-Ok.ensures c.grants_from-start.ensures.0 c.nodes_from-end.ensures.0

pub returns-in-Err : goal.returns-in-Err
returns-in-Err c = part_refused _ _ _ _ _ _ c.in-Err.ensures c.code.ensures
