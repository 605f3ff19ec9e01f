-- Each section stands where the one before it ends.
use native.Mathlib.Omega.{arith}
use Rattle.format.proofs.Written.{header_most}
use Rattle.writes.proofs.Counted.{counted_of}
use Rattle.encoding.specs.Encoded.{values_of}
use Rattle.encoding.proofs.Places.{Within, within_of, places_of, pairs_few}
use Rattle.encoding.proofs.Whole.{all_put}
use Rattle.encoding.proofs.put_all.Goals as goal
use Rattle.encoding.proofs.put_all.Goals.{After-put_header}

pub put_header-requires : goal.put_header-requires
put_header-requires c = omega (arith, header_most c.args.values.now.header.version)

within : (c : After-put_header) → Within (values_of c.args.values.now)
within c =
    let vs = values_of c.args.values.now in
    within_of vs (places_of vs.header c.requires.counts) (counted_of vs c.requires.as_many) (pairs_few vs.header c.put_header.ensures.in_range.1)

pub put_records-requires : goal.put_records-requires
put_records-requires c = omega (arith, c.header_length.ensures.0, within (goal.at.put_records-requires c).After-put_header)

pub put_records-requires-2 : goal.put_records-requires-2
put_records-requires-2 c = omega (arith, c.grants_from.ensures.0, within (goal.at.put_records-requires-2 c).After-put_header)

pub put_records-requires-3 : goal.put_records-requires-3
put_records-requires-3 c = omega (arith, c.nodes_from.ensures.0, within (goal.at.put_records-requires-3 c).After-put_header)

pub put-requires : goal.put-requires
put-requires c = omega (arith, c.pairs_from.ensures.0, within (goal.at.put-requires c).After-put_header)

pub put_records-requires-4 : goal.put_records-requires-4
put_records-requires-4 c = omega (arith, c.step_prices_from.ensures.0, within (goal.at.put_records-requires-4 c).After-put_header)

pub put_records-requires-5 : goal.put_records-requires-5
put_records-requires-5 c = omega (arith, c.link_prices_from.ensures.0, within (goal.at.put_records-requires-5 c).After-put_header)

pub returns-clause-stored : goal.returns-clause-stored
returns-clause-stored c =
    let vs = values_of c.args.values.now in
    all_put vs (places_of vs.header c.requires.counts) (counted_of vs c.requires.as_many)
    c.header_length.ensures.0 c.grants_from.ensures.0 c.nodes_from.ensures.0 c.pairs_from.ensures.0 c.step_prices_from.ensures.0 c.link_prices_from.ensures.0
    c.put_header.ensures.stored c.put_records.ensures.stored c.put_records-2.ensures.stored c.put_records-3.ensures.stored c.put.ensures
    c.put_records-4.ensures.stored c.put_records-5.ensures.stored

pub returns-clause-within : goal.returns-clause-within
returns-clause-within c = (within (goal.at.returns-clause-within c).After-put_header).file_within
