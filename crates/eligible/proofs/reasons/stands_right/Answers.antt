-- The right operand as in the walk, and the subject asked by its least view; or none.
use mathlib.Core.Path.{◌≡◌, refl, sym, ◌∙◌}
use mathlib.Core.Bool.{true, false}
use native.Mathlib.Omega.{arith}
use Rattle.layout.specs.Held.{night_held}
use Rattle.night.specs.Kinds.{uses_right}
use Rattle.format.specs.Layout.{night_in}
use Rattle.model.specs.Reasons.{of_right}
use Rattle.eligible.proofs.Walks.{right_left, right_none}
use Rattle.eligible.proofs.Questions.{asked_operands, by_view}
use Rattle.eligible.proofs.reasons.stands_right.Goals as goal

pub walk-r-requires : goal.walk-r-requires
unfolding night_in
walk-r-requires c =
    let w = c.requires.0 in
    let b : uses_right c.args.v.kind ≡ true = sym c.uses_right.ensures ∙ c.if-uses_right.true in
    let operands = asked_operands (night_held c.args.seen.now.file) w.sound c.args.i c.requires.1 c.requires.2 in
    (w, omega (arith, operands.0, operands.1 b), refl)

pub returns-then-uses_right : goal.returns-then-uses_right
unfolding night_in
returns-then-uses_right c =
    let N = night_held c.args.seen.now.file in
    let b : uses_right c.args.v.kind ≡ true = sym c.uses_right.ensures ∙ c.if-uses_right.true in
    let walked = right_left N c.args.i c.requires.2 c.args.tied.now b c.walk-r.ensures.0 c.walk-r.ensures.1 c.merge.ensures c.walk-r.ensures.2 in (
      walked.0,
      walked.1,
      rw b
          (by_view N c.args.v.right of_right c.args.v.needed c.args.sees.clear c.args.sees.sealed c.walk-r.ensures.0 c.walk-r.ensures.1
          c.least_view-least.ensures c.standing_by-out.ensures),
    )

pub returns-else-uses_right : goal.returns-else-uses_right
unfolding night_in
returns-else-uses_right c =
    let w = c.requires.0 in
    let b : uses_right c.args.v.kind ≡ false = sym c.uses_right.ensures ∙ c.if-uses_right.false in
    let none =
    right_none (night_held c.args.seen.now.file) c.args.i c.requires.2 {seals = c.args.trail.now.seals} {sets = c.args.trail.now.sets} b
    c.no_columns.ensures w.seals_long w.sets_long
    in
    (none.0, none.1, rw b refl)
