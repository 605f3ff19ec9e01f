-- What stands in which byte, by computation.
use mathlib.Core.Path.{refl}
use Rattle.laws.specs.BigEndian.{be, bytes}
use Rattle.laws.specs.Upwards.{upwards}
use Rattle.night.specs.Versions.{delivers, has_pairs, has_days, header_length, grant_length, node_length}
use Rattle.night.specs.Night.{relation_of, grant_of, node_of, pair_of, step_price, link_price}
use Rattle.format.specs.Layout.{grants_from, nodes_from, pairs_from, pairs_in, step_prices_from, link_prices_from, file_length, header_of, header_bytes, as_read, relation_at, relation_bytes, grant_at, grant_bytes, grant_as_read, node_at, node_bytes, node_as_read, pair_at, prices_at, nth_price, night_in}
use Rattle.format.specs.Rising.{Rising}

pub rising : Rising
unfolding be bytes upwards delivers has_pairs has_days header_length grant_length node_length relation_of grant_of node_of pair_of step_price link_price grants_from nodes_from pairs_from pairs_in step_prices_from link_prices_from file_length header_of header_bytes as_read relation_at relation_bytes grant_at grant_bytes grant_as_read node_at node_bytes node_as_read pair_at prices_at nth_price night_in
rising =
    record {
      two_bytes = refl;
      two_low = refl;
      four_bytes = refl;
      header-bytes = refl;
      header_bytes_one = refl;
      header_bytes_two = refl;
      header_bytes_three = refl;
      header_bytes_four = refl;
      header_read = refl;
      header_read_one = refl;
      header_read_two = refl;
      header_read_three = refl;
      header_read_four = refl;
      header_cut = refl;
      as_read_one = refl;
      as_read_two = refl;
      as_read_three = refl;
      as_read_four = refl;
      relation-bytes = refl;
      relation_low = refl;
      relation_read = refl;
      grant-bytes = refl;
      grant_bytes_four = refl;
      grant_read_three = refl;
      grant_read_four = refl;
      grant_as_three = refl;
      grant_as_four = refl;
      node-bytes = refl;
      node_bytes_three = refl;
      node_read_two = refl;
      node_read_three = refl;
      node_as_two = refl;
      node_as_three = refl;
      pair_read = refl;
      prices_read = refl;
      prices_rows = refl;
      starts_one = refl;
      starts_two = refl;
      starts_three = refl;
      starts_four = refl;
      longest_one = refl;
      longest_two = refl;
      longest_three = refl;
      longest_four = refl;
      second_relation = refl;
      second_grant = refl;
      second_days = refl;
      second_undated = refl;
      second_node = refl;
      second_pair = refl;
      second_step = refl;
      first_link = refl;
      third_price = refl;
    }
