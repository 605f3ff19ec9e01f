-- The header's refusal, or the file's values, taken into arrays and written again.
use mathlib.Core.Path.{◌≡◌, sym}
use native.Mathlib.Omega.{arith}
use lib.ListN.{length}
use lib.Seq.{length-take-le}
use Rattle.std.proofs.lemmas.Result.{err_from_is_err_and}
use Rattle.format.specs.Layout.{file_length}
use Rattle.encoding.proofs.Places.{Places}
use Rattle.writing.proofs.Retaken.{Taken, values_again, again_refused, header_same, header_places, header_long, again_writes}
use Rattle.writing.proofs.rewrite.Goals as goal
use Rattle.writing.proofs.rewrite.Goals.{In_ok-header}

pub returns-in_err-header : goal.returns-in_err-header
returns-in_err-header c =
    let p = err_from_is_err_and c.from_residual.result c.from_residual.ensures.1 in
    rw (p.1, p.2) (again_refused c.args.file.now c.args.room.now _ c.in_err-header.ensures)

its_places : (c : In_ok-header) → Places c.in_ok-header.header
its_places c = header_places c.args.file.now c.args.room.now c.in_ok-header.header c.in_ok-header.ensures

its_length : (c : In_ok-header) → length c.args.file.now ≡ file_length c.in_ok-header.header
its_length c = header_long c.args.file.now c.args.room.now c.in_ok-header.header c.in_ok-header.ensures

pub slice_bounds-relations-end : goal.slice_bounds-relations-end
slice_bounds-relations-end c =
    let places = its_places (goal.at.slice_bounds-relations-end c).In_ok-header in
    sym (length-take-le c.in_ok-header.header.relations c.relations-every_relation.result (omega (arith, c.relations-every_relation.ensures.long, places.relations_few)))

pub slice_bounds-grants-end : goal.slice_bounds-grants-end
slice_bounds-grants-end c =
    let places = its_places (goal.at.slice_bounds-grants-end c).In_ok-header in
    sym (length-take-le c.in_ok-header.header.grants c.grants-every_grant.result (omega (arith, c.grants-every_grant.ensures.long, places.grants_few)))

pub slice_bounds-nodes-end : goal.slice_bounds-nodes-end
slice_bounds-nodes-end c =
    let places = its_places (goal.at.slice_bounds-nodes-end c).In_ok-header in
    sym (length-take-le c.in_ok-header.header.nodes c.nodes-every_node.result (omega (arith, c.nodes-every_node.ensures.long, places.nodes_few)))

pub slice_bounds-every_relation-end : goal.slice_bounds-every_relation-end
slice_bounds-every_relation-end c =
    let places = its_places (goal.at.slice_bounds-every_relation-end c).In_ok-header in
    omega (arith, c.relations-every_relation.ensures.long, places.relations_few)

pub slice_bounds-every_grant-end : goal.slice_bounds-every_grant-end
slice_bounds-every_grant-end c =
    let places = its_places (goal.at.slice_bounds-every_grant-end c).In_ok-header in
    omega (arith, c.grants-every_grant.ensures.long, places.grants_few)

pub slice_bounds-every_node-end : goal.slice_bounds-every_node-end
slice_bounds-every_node-end c =
    let places = its_places (goal.at.slice_bounds-every_node-end c).In_ok-header in
    omega (arith, c.nodes-every_node.ensures.long, places.nodes_few)

pub slice_bounds-pairs-count : goal.slice_bounds-pairs-count
slice_bounds-pairs-count c =
    let places = its_places (goal.at.slice_bounds-pairs-count c).In_ok-header in
    omega (arith, c.pairs_from.ensures, c.step_prices_from.ensures)

pub slice_bounds-pairs-start : goal.slice_bounds-pairs-start
slice_bounds-pairs-start c =
    let places = its_places (goal.at.slice_bounds-pairs-start c).In_ok-header in
    omega (arith, c.pairs_from.ensures, c.step_prices_from.ensures)

pub slice_bounds-pairs-end : goal.slice_bounds-pairs-end
slice_bounds-pairs-end c =
    let places = its_places (goal.at.slice_bounds-pairs-end c).In_ok-header in
    let long = its_length (goal.at.slice_bounds-pairs-end c).In_ok-header in
    omega (arith, c.step_prices_from.ensures)

pub shared_ref_as_front-step_prices : goal.shared_ref_as_front-step_prices
shared_ref_as_front-step_prices c =
    let places = its_places (goal.at.shared_ref_as_front-step_prices c).In_ok-header in
    omega (arith, c.step_prices-steps.ensures, c.prices-every_price.ensures.long)

pub slice_bounds-link_prices-end : goal.slice_bounds-link_prices-end
slice_bounds-link_prices-end c =
    let places = its_places (goal.at.slice_bounds-link_prices-end c).In_ok-header in
    omega (arith, c.step_prices-steps.ensures, c.link_prices.ensures, c.prices-every_price.ensures.long)

pub returns : goal.returns
returns c =
    let s = c.args.file.now in
    let h = c.in_ok-header.header in
    let taken : Taken s h c.relations-every_relation.result c.grants-every_grant.result c.nodes-every_node.result c.prices-every_price.result =
    record {
      relations_long = c.relations-every_relation.ensures.long;
      its_relations = c.relations-every_relation.ensures.each;
      grants_long = c.grants-every_grant.ensures.long;
      its_grants = c.grants-every_grant.ensures.each;
      nodes_long = c.nodes-every_node.ensures.long;
      its_nodes = c.nodes-every_node.ensures.each;
      prices_long = c.prices-every_price.ensures.long;
      its_prices = c.prices-every_price.ensures.each;
    } in
    let same = header_same s c.args.room.now h c.in_ok-header.ensures in
    let places = header_places s c.args.room.now h c.in_ok-header.ensures in
    let long = header_long s c.args.room.now h c.in_ok-header.ensures in
    let values = values_again s h same long places _ _ _ _ taken c.pairs_from.ensures.0 c.step_prices_from.ensures.0 c.step_prices-steps.ensures.0 c.link_prices.ensures.0 in
    again_writes s c.args.room.now h c.in_ok-header.ensures (λ k. (c.type_inv.file k).fits) values c.write.ensures
