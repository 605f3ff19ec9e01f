-- Refused by the first of 2, 4, 3; or every section put into a room of zeros.
use Rattle.std.proofs.lemmas.Result.{err_from_is_err_and}
use Rattle.encoding.specs.Encoded.{values_of}
use Rattle.encoding.proofs.Encoded.{fine_of, refused_says, encoded_says}
use Rattle.encoding.proofs.encode.Goals as goal

pub returns-in_err-tried : goal.returns-in_err-tried
returns-in_err-tried c =
    let p = err_from_is_err_and c.from_residual.result c.from_residual.ensures.1 in
    rw (p.1, p.2) (refused_says (values_of c.args.values.now) _ c.in_err-tried.ensures)

pub put_all-requires-clause-counts : goal.put_all-requires-clause-counts
put_all-requires-clause-counts c = (fine_of (values_of c.args.values.now) c.in_ok-tried.ensures).counts

pub put_all-requires-clause-as_many : goal.put_all-requires-clause-as_many
put_all-requires-clause-as_many c = (fine_of (values_of c.args.values.now) c.in_ok-tried.ensures).many

pub returns : goal.returns
returns c =
    let put = c.put_all.ensures in
    encoded_says (values_of c.args.values.now) c.in_ok-tried.ensures put.stored put.in_range put.within
