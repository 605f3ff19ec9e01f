-- Values with as many records as the counts say: how long their file is.
use Prim.Native.Nat.{◌*◌}
use mathlib.Core.Path.{◌≡◌}
use mathlib.Core.Bool.{false}
use native.Mathlib.Omega.{arith}
use lib.ListN.{length, length-append}
use borrow.Author.Tests.{eqb-true, not-false}
use Rattle.laws.specs.BigEndian.{bytes}
use Rattle.laws.proofs.BigEndian.{bytes_length}
use Rattle.laws.proofs.Cases.{none-of}
use Rattle.laws.proofs.InOrder.{in_order_length}
use Rattle.night.specs.Versions.{node_length, grant_length}
use Rattle.format.specs.Layout.{grants_from, nodes_from, pairs_from, pairs_in, step_prices_from, link_prices_from, file_length, relation_bytes, grant_bytes, node_bytes}
use Rattle.format.proofs.Written.{header_long, relation_long, grant_long, node_long}
use Rattle.writes.specs.Values.{Values, file_bytes}
use Rattle.writes.specs.Writing.{miscounted, miscounted_by}
use Rattle.writes.specs.Back.{AsLong}

pub record Counted (vs : Values) : Type 0 where
  pub relations : length vs.relations ≡ vs.header.relations
  pub grants : length vs.grants ≡ vs.header.grants
  pub nodes : length vs.nodes ≡ vs.header.nodes
  pub pairs : length vs.pairs ≡ 2 * pairs_in vs.header
  pub steps : length vs.step_prices ≡ vs.header.nodes * vs.header.subjects
  pub links : length vs.link_prices ≡ vs.header.subjects * vs.header.subjects

pub counted_of : (vs : Values) → miscounted vs ≡ false → Counted vs
unfolding miscounted miscounted_by
counted_of vs fine =
    let t = none-of _ fine in
    record {
      relations = eqb-true _ _ (not-false _ t.0);
      grants = eqb-true _ _ (not-false _ t.1.0);
      nodes = eqb-true _ _ (not-false _ t.1.1.0);
      pairs = eqb-true _ _ (not-false _ t.1.1.1.0);
      steps = eqb-true _ _ (not-false _ t.1.1.1.1.0);
      links = eqb-true _ _ (not-false _ t.1.1.1.1.1.0);
    }

pub as_long : AsLong
unfolding file_bytes grants_from nodes_from pairs_from step_prices_from link_prices_from file_length
as_long vs fine =
    let n = counted_of vs fine in
    rw (
      length-append,
      header_long vs.header,
      length-append,
      in_order_length relation_bytes 9 relation_long vs.relations,
      n.relations,
      length-append,
      in_order_length (grant_bytes vs.header.version) (grant_length vs.header.version) (grant_long vs.header.version) vs.grants,
      n.grants,
      length-append,
      in_order_length (node_bytes vs.header.version) (node_length vs.header.version) (node_long vs.header.version) vs.nodes,
      n.nodes,
      length-append,
      n.pairs,
      length-append,
      in_order_length (bytes 4) 4 (bytes_length 4) vs.step_prices,
      n.steps,
      in_order_length (bytes 4) 4 (bytes_length 4) vs.link_prices,
      n.links,
    ) (omega arith)
