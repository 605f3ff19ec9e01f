-- What is written in each case is what the answer says.
use mathlib.Core.Path.{◌≡◌, refl, sym, ap, ◌∙◌}
use Rattle.std.specs.Prelude.{Some, None}
use Rattle.laws.specs.Trials.{answers}
use Rattle.night.specs.Refusals.{said}
use Rattle.planning.specs.Answers.{why_of}
use Rattle.tollburrow.proofs.tollburrow_why.Goals as goal

pub returns-in-Ok-None : goal.returns-in-Ok-None
returns-in-Ok-None c =
    let e : why_of c.args.file.now c.args.node c.args.subject ≡ answers None = sym c.why.ensures ∙ (ap said c.in-Ok-None.is ∙ ap answers c.in-Ok-None.field-0-is) in
    rw e (refl, refl, refl, refl)

pub returns-in-Ok-Some : goal.returns-in-Ok-Some
returns-in-Ok-Some c =
    let e : why_of c.args.file.now c.args.node c.args.subject ≡ answers (Some c.in-Ok-Some.out) = sym c.why.ensures ∙ (ap said c.in-Ok-Some.is ∙ ap answers c.in-Ok-Some.field-0-is) in
    rw e (refl, refl, refl, refl)

pub returns-in-Err : goal.returns-in-Err
returns-in-Err c = rw (← c.in-Err.ensures) (c.code.ensures, refl, refl, refl)
