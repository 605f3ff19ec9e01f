-- With one operand or with two.
use mathlib.Core.Path.{refl}
use Rattle.eligible.proofs.walk.out_after.Goals as goal

pub returns-then-uses_right : goal.returns-then-uses_right
returns-then-uses_right c =
    rw (← c.uses_right.ensures, c.if-uses_right.true, ← c.tie_step-one.ensures.1) (c.out_by_any.ensures, refl)

pub returns-else-uses_right : goal.returns-else-uses_right
returns-else-uses_right c =
    rw (← c.uses_right.ensures, c.if-uses_right.false) c.tie_step-one.ensures
