-- The lower answer as numbers.
use mathlib.Core.Path.{refl}
use Rattle.tollburrow.proofs.tollburrow_offered.Goals as goal

pub returns-in-Ok : goal.returns-in-Ok
returns-in-Ok c =
    let lower = c.offered in
    record { said = lower.result; says = lower.ensures; its_code = rw c.in-Ok.is refl; its_total = rw c.in-Ok.is refl }

pub returns-in-Err : goal.returns-in-Err
returns-in-Err c =
    let lower = c.offered in
    record { said = lower.result; says = lower.ensures; its_code = rw c.in-Err.is c.code.ensures; its_total = rw c.in-Err.is refl }
