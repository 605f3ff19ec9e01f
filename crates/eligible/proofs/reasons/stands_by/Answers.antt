-- The left operand's least view puts the subject out, or else what comes later.
use mathlib.Core.Path.{sym, ◌∙◌}
use Rattle.layout.specs.Held.{night_held}
use Rattle.format.specs.Layout.{night_in}
use Rattle.model.specs.Reasons.{of_left}
use Rattle.eligible.proofs.Questions.{asked_operands, by_view, out_left}
use Rattle.eligible.proofs.reasons.stands_by.Goals as goal

pub walk-l-requires : goal.walk-l-requires
unfolding night_in
walk-l-requires c =
    let w = c.requires.0 in
    (w, (asked_operands (night_held c.args.seen.now.file) w.sound c.args.i c.requires.1 c.node-v.ensures).0, c.requires.2)

pub returns-in_default : goal.returns-in_default
unfolding night_in
returns-in_default c =
    out_left (night_held c.args.seen.now.file) c.args.i c.args.sees.clear c.args.sees.sealed c.node-v.ensures _ (by_view (night_held c.args.seen.now.file) c.node-v.result.left of_left c.node-v.result.needed c.args.sees.clear c.args.sees.sealed c.walk-l.ensures.0 c.walk-l.ensures.1 c.least_view-least.ensures c.standing_by-by_left.ensures) c.in_default.is

pub stands_later-requires : goal.stands_later-requires
unfolding night_in
stands_later-requires c =
    let w = c.requires.0 in (
      record { sound = w.sound; sees = w.sees; seals_long = c.walk-l.ensures.2.in-clear.long; sets_long = c.walk-l.ensures.2.subjects.long },
      c.requires.1,
      c.node-v.ensures,
      c.walk-l.ensures.0,
      c.walk-l.ensures.1,
      sym (by_view (night_held c.args.seen.now.file) c.node-v.result.left of_left c.node-v.result.needed c.args.sees.clear c.args.sees.sealed c.walk-l.ensures.0 c.walk-l.ensures.1 c.least_view-least.ensures c.standing_by-by_left.ensures) ∙ c.in-None.is,
    )
