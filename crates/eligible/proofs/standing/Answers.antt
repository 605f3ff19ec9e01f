-- Reading's refusal; then 16; else how the subject stands by what it sees.
use mathlib.Core.Path.{sym, ap, ◌∙◌}
use Rattle.std.proofs.lemmas.Result.{err_from_is_err_and}
use Rattle.laws.specs.Trials.{answers}
use Rattle.format.specs.Layout.{night_in}
use Rattle.trials.proofs.Promises.{accepted_sound}
use Rattle.eligible.proofs.Questions.{asked_both, why_unread, why_unasked, why_answered}
use Rattle.eligible.proofs.standing.Goals as goal

pub returns-in_err-header : goal.returns-in_err-header
returns-in_err-header c =
    let p = err_from_is_err_and c.from_residual.result c.from_residual.ensures.1 in
    rw (p.1, p.2) (why_unread c.args.file.now c.args.node c.args.subject _ _ (sym c.in_err-header.ensures))

pub returns-then-not_asked : goal.returns-then-not_asked
unfolding night_in
returns-then-not_asked c =
    why_unasked c.args.file.now c.args.node c.args.subject c.in_ok-header.header (sym c.in_ok-header.ensures) (sym c.not_asked.ensures ∙ c.if-not_asked.true)

pub stands-requires : goal.stands-requires
unfolding night_in
stands-requires c =
    let h = c.in_ok-header.header in
    let asked = asked_both (night_in c.args.file.now h) c.args.node c.args.subject (sym c.not_asked.ensures ∙ c.if-not_asked.false) in
    (accepted_sound c.args.file.now h (sym c.in_ok-header.ensures), asked.0, asked.1)

pub returns : goal.returns
unfolding night_in
returns c =
    let h = c.in_ok-header.header in
    let read = sym c.in_ok-header.ensures in (
      read,
      why_answered c.args.file.now c.args.node c.args.subject h read (sym c.not_asked.ensures ∙ c.if-not_asked.false) ∙ ap answers (sym c.stands.ensures),
    )
