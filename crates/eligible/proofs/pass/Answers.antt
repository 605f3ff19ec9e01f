-- Reading's refusal; else what the walk leaves.
use mathlib.Core.Path.{sym}
use Rattle.std.proofs.lemmas.Result.{err_from_is_err_and}
use Rattle.trials.proofs.Promises.{accepted_sound}
use Rattle.eligible.proofs.pass.Goals as goal

pub passed-requires : goal.passed-requires
passed-requires c = accepted_sound c.args.file.now c.in_ok-header.header (sym c.in_ok-header.ensures)

pub returns-in_err-header : goal.returns-in_err-header
returns-in_err-header c =
    let p = err_from_is_err_and c.from_residual.result c.from_residual.ensures.1 in
    rw (p.1, p.2) (sym c.in_err-header.ensures)

pub returns : goal.returns
returns c =
    rw c.passed.ensures.0 (sym c.in_ok-header.ensures, c.passed.ensures.1, c.passed.ensures.2, c.passed.ensures.3)
