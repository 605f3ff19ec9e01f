-- The tests are the trials, in their order.
use mathlib.Core.Path.{◌≡◌}
use Rattle.std.specs.Prelude.{Err}
use Rattle.std.proofs.Common.{rules}
use Rattle.trials.specs.Trials.{header_trials}
use Rattle.reading.proofs.Tried.{stopped, went_on}
use Rattle.reading.proofs.header.header_tried.Goals as goal

pub returns-in_err-tried : goal.returns-in_err-tried
unfolding header_trials
returns-in_err-tried c =
    let q = c.from_residual.result in
    let same : q ≡ Err c.in_err-tried.field-0.0 = search rules in
    rw (← c.not_marked.ensures)
    (stopped _ _ c.tried.ensures c.in_err-tried.was same)

pub returns-in_err-tried-2 : goal.returns-in_err-tried-2
unfolding header_trials
returns-in_err-tried-2 c =
    let q = c.from_residual-in_err-tried-2.result in
    let same : q ≡ Err c.in_err-tried-2.field-0.0 = search rules in
    rw (← c.not_marked.ensures, ← c.not_versioned.ensures)
    (went_on _ _ q c.tried.ensures c.in_ok-tried.was (stopped _ _ c.tried-2.ensures c.in_err-tried-2.was same))

pub returns-in_err-tried-3 : goal.returns-in_err-tried-3
unfolding header_trials
returns-in_err-tried-3 c =
    let q = c.from_residual-in_err-tried-3.result in
    let same : q ≡ Err c.in_err-tried-3.field-0.0 = search rules in
    rw (← c.not_marked.ensures, ← c.not_versioned.ensures, ← c.header-h.ensures, ← c.header_length.ensures.0)
    (went_on _ _ q c.tried.ensures c.in_ok-tried.was (went_on _ _ q c.tried-2.ensures c.in_ok-tried-2.was (stopped _ _ c.tried-3.ensures c.in_err-tried-3.was same)))

pub returns-in_err-tried-4 : goal.returns-in_err-tried-4
unfolding header_trials
returns-in_err-tried-4 c =
    let q = c.from_residual-in_err-tried-4.result in
    let same : q ≡ Err c.in_err-tried-4.field-0.0 = search rules in
    rw (← c.not_marked.ensures, ← c.not_versioned.ensures, ← c.header-h.ensures, ← c.header_length.ensures.0, ← c.counts_bad.ensures)
    (went_on _ _ q c.tried.ensures c.in_ok-tried.was (went_on _ _ q c.tried-2.ensures c.in_ok-tried-2.was (went_on _ _ q c.tried-3.ensures c.in_ok-tried-3.was (stopped _ _ c.tried-4.ensures c.in_err-tried-4.was same))))

pub returns : goal.returns
unfolding header_trials
returns c =
    let q = c.tried-5.result in
    rw (← c.not_marked.ensures, ← c.not_versioned.ensures, ← c.header-h.ensures, ← c.header_length.ensures.0, ← c.counts_bad.ensures, ← c.file_length.ensures)
    (went_on _ _ q c.tried.ensures c.in_ok-tried.was (went_on _ _ q c.tried-2.ensures c.in_ok-tried-2.was (went_on _ _ q c.tried-3.ensures c.in_ok-tried-3.was (went_on _ _ q c.tried-4.ensures c.in_ok-tried-4.was (c.tried-5.ensures)))))
