-- The values that a writer is given, the night that they are, and the bytes of its file.
use Rattle.std.specs.Prelude.{ℕ, ◌+◌, ◌*◌, List, ◌++◌, map, get_or}
use Rattle.laws.specs.BigEndian.{be, bytes}
use Rattle.laws.specs.InOrder.{in_order}
use Rattle.laws.specs.Upwards.{each}
use Rattle.night.specs.declared.Header.{Header}
use Rattle.night.specs.declared.Relation.{Relation}
use Rattle.night.specs.declared.Grant.{Grant}
use Rattle.night.specs.declared.Node.{Node}
use Rattle.night.specs.Night.{Night}
use Rattle.format.specs.Layout.{pairs_from, pairs_in, step_prices_from, link_prices_from, header_of, header_bytes, as_read}
use Rattle.format.specs.Layout.{relation_bytes, grant_bytes, grant_as_read, node_bytes, node_as_read, pair_at, night_of}

-- the header's values, the records in the file's order, the pairs as they stand in it, two bytes each, and the prices, row after row
pub record Values : Type 0 where
  pub header : Header
  pub relations : List Relation
  pub grants : List Grant
  pub nodes : List Node
  pub pairs : List ℕ
  pub step_prices : List ℕ
  pub link_prices : List ℕ

-- prices that stand row after row, as rows of so many each
unfoldable pub rows_of : List ℕ → ℕ → ℕ → List (List ℕ)
rows_of prices rows columns = each rows (λ i. each columns (λ p. get_or prices (i * columns + p) 0))

-- the night that the values are: header, grants and nodes as they are read
unfoldable pub night_from : Values → Night
night_from vs =
    record {
      header = as_read vs.header;
      relations = vs.relations;
      grants = map (grant_as_read vs.header.version) vs.grants;
      nodes = map (node_as_read vs.header.version) vs.nodes;
      pairs = each (pairs_in vs.header) (λ i. pair_at vs.pairs (2 * i));
      step_prices = rows_of vs.step_prices vs.header.nodes vs.header.subjects;
      link_prices = rows_of vs.link_prices vs.header.subjects vs.header.subjects;
    }

-- the bytes of the file: header, relations, grants, nodes, pairs, step prices, link prices
unfoldable pub file_bytes : Values → List ℕ
file_bytes vs =
    header_bytes vs.header
    ++ (in_order relation_bytes vs.relations
    ++ (in_order (grant_bytes vs.header.version) vs.grants
    ++ (in_order (node_bytes vs.header.version) vs.nodes
    ++ (vs.pairs
    ++ (in_order (bytes 4) vs.step_prices
    ++ in_order (bytes 4) vs.link_prices)))))

-- so many bytes from `at` on
abbrev pub bytes_from : List ℕ → ℕ → ℕ → List ℕ
bytes_from s at n = each n (λ k. get_or s (at + k) 0)

-- so many 32-bit prices from `at` on
abbrev pub prices_from : List ℕ → ℕ → ℕ → List ℕ
prices_from s at n = each n (λ k. be s (at + 4 * k) 4)

-- the values of a file, as they stand in it
unfoldable pub values_of : List ℕ → Values
values_of s =
    record {
      header = header_of s;
      relations = (night_of s).relations;
      grants = (night_of s).grants;
      nodes = (night_of s).nodes;
      pairs = bytes_from s (pairs_from (header_of s)) (2 * pairs_in (header_of s));
      step_prices = prices_from s (step_prices_from (header_of s)) ((header_of s).nodes * (header_of s).subjects);
      link_prices = prices_from s (link_prices_from (header_of s)) ((header_of s).subjects * (header_of s).subjects);
    }

-- values with another header
abbrev pub with_header : Header → Values → Values
with_header h vs =
    record {
      header = h;
      relations = vs.relations;
      grants = vs.grants;
      nodes = vs.nodes;
      pairs = vs.pairs;
      step_prices = vs.step_prices;
      link_prices = vs.link_prices;
    }

-- and with other nodes
abbrev pub with_nodes : List Node → Values → Values
with_nodes ns vs =
    record {
      header = vs.header;
      relations = vs.relations;
      grants = vs.grants;
      nodes = ns;
      pairs = vs.pairs;
      step_prices = vs.step_prices;
      link_prices = vs.link_prices;
    }

-- with other grants
abbrev pub with_grants : List Grant → Values → Values
with_grants gs vs =
    record {
      header = vs.header;
      relations = vs.relations;
      grants = gs;
      nodes = vs.nodes;
      pairs = vs.pairs;
      step_prices = vs.step_prices;
      link_prices = vs.link_prices;
    }

-- values as they are read back: all of them, header, grants and nodes as they are read
unfoldable pub read_as : Values → Values
read_as vs =
    with_header (as_read vs.header)
    (with_grants (map (grant_as_read vs.header.version) vs.grants) (with_nodes (map (node_as_read vs.header.version) vs.nodes) vs))
