-- The lower answer as numbers.
use mathlib.Core.Path.{ap, ◌∙◌}
use Rattle.tollburrow.specs.Codes.{code_of}
use Rattle.tollburrow.proofs.tollburrow_check.Goals as goal

pub returns-in-Ok : goal.returns-in-Ok
returns-in-Ok c = ap code_of c.in-Ok.ensures

pub returns-in-Err : goal.returns-in-Err
returns-in-Err c = c.code.ensures ∙ ap code_of c.in-Err.ensures
