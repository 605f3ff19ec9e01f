-- The refusals by 1 to 11 and by 17 are passed up.
use mathlib.Core.Path.{refl, sym}
use Rattle.std.proofs.lemmas.Result.{err_from_is_err_and}
use Rattle.trials.proofs.Promises.{accepted_sound}
use Rattle.choosing.proofs.Answered.{open_unread, open_kept, open_passes}
use Rattle.choosing.proofs.open.Goals as goal

pub returns-in_err-header : goal.returns-in_err-header
returns-in_err-header c =
    let p = err_from_is_err_and c.from_residual.result c.from_residual.ensures.1 in
    rw (p.1, p.2) (open_unread c.args.file.now _ c.in_err-header.ensures)

pub allowed-requires : goal.allowed-requires
allowed-requires c =
    let o = c.in_ok-header in
    let x = o.ensures in
    (accepted_sound c.args.file.now o.field-0.header x.0, x.2)

pub returns-in_err-allowed : goal.returns-in_err-allowed
returns-in_err-allowed c =
    let o = c.in_ok-header in
    let x = o.ensures in
    let p = err_from_is_err_and c.from_residual-in_err-allowed.result c.from_residual-in_err-allowed.ensures.1 in
    rw (p.1, p.2) (open_kept c.args.file.now o.field-0.header x.0 _ (sym c.in_err-allowed.ensures))

pub returns : goal.returns
returns c =
    let s = c.args.file.now in
    let o = c.in_ok-header in
    let h = o.field-0.header in
    let x = o.ensures in
    (open_passes s h x.0 (sym c.in_ok-allowed.ensures), refl, record { sound = accepted_sound s h x.0; has = x.1 }, x.3)
