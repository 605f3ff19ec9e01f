-- The lower answer as numbers.
use Rattle.tollburrow.proofs.Coded.{number_refused, number_answered}
use Rattle.tollburrow.proofs.tollburrow_candidates.Goals as goal

pub returns-in-Ok : goal.returns-in-Ok
returns-in-Ok c = number_answered _ _ _ c.in-Ok.ensures

pub returns-in-Err : goal.returns-in-Err
returns-in-Err c = number_refused _ _ _ _ _ c.in-Err.ensures c.code.ensures
