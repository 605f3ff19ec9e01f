-- Refused by 2, 4 or 3; or the file's bytes, judged.
use Rattle.std.proofs.lemmas.Result.{err_from_is_err_and}
use native.Mathlib.Omega.{arith}
use mathlib.Core.Path.{sym}
use lib.Seq.{length-take-le}
use Rattle.encoding.specs.Encoded.{values_of}
use Rattle.writing.proofs.Answered.{refused_writes, ends_within, made_writes}
use Rattle.writing.proofs.write.Goals as goal

pub returns-in_err-file : goal.returns-in_err-file
returns-in_err-file c =
    let p = err_from_is_err_and c.from_residual.result c.from_residual.ensures.1 in
    rw (p.1, p.2) (refused_writes (values_of c.args.values.now) c.args.room.now _ c.in_err-file.ensures)

pub returns : goal.returns
returns c = made_writes (values_of c.args.values.now) c.in_ok-file.file c.in_ok-file.ensures c.file_length-end.ensures c.judged.ensures

pub slice_bounds-file-end : goal.slice_bounds-file-end
slice_bounds-file-end c = omega (arith, c.file_length-end.ensures, ends_within (values_of c.args.values.now) c.in_ok-file.file c.in_ok-file.ensures)

pub slice_bounds-judged-end : goal.slice_bounds-judged-end
slice_bounds-judged-end c =
    let within = ends_within (values_of c.args.values.now) c.in_ok-file.file c.in_ok-file.ensures in
    sym (length-take-le _ c.in_ok-file.file (omega (arith, c.file_length-end.ensures, within)))
