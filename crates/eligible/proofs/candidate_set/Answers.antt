-- Reading's refusal; else the candidates of the night.
use mathlib.Core.Path.{sym}
use Rattle.std.proofs.lemmas.Result.{err_from_is_err_and}
use Rattle.trials.proofs.Promises.{accepted_sound}
use Rattle.eligible.proofs.candidate_set.Goals as goal

pub set_of-requires : goal.set_of-requires
set_of-requires c = accepted_sound c.args.file.now c.in_ok-header.header (sym c.in_ok-header.ensures)

pub returns-in_err-header : goal.returns-in_err-header
returns-in_err-header c =
    let p = err_from_is_err_and c.from_residual.result c.from_residual.ensures.1 in
    rw (p.1, p.2) (sym c.in_err-header.ensures)

pub returns : goal.returns
returns c = (sym c.in_ok-header.ensures, c.set_of.ensures)
