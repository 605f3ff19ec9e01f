-- Records whose bytes rise, 1, 2, 3, ..: which byte each value stands in, read and written, and where the sections of a file start. Said by numbers, so that a
-- slip in the layout shows here.
use Rattle.std.specs.Prelude.{ℕ, ◌+◌, ◌≡◌, List, [], ◌∷◌, ◌++◌, set}
use Rattle.laws.specs.BigEndian.{bytes}
use Rattle.laws.specs.Upwards.{each}
use Rattle.night.specs.declared.Header.{Header}
use Rattle.night.specs.declared.Relation.{Relation}
use Rattle.night.specs.declared.Grant.{Grant}
use Rattle.night.specs.declared.Node.{Node}
use Rattle.night.specs.Night.{relation_of, grant_of, node_of, pair_of, step_price, link_price}
use Rattle.format.specs.Layout.{grants_from, nodes_from, pairs_from, step_prices_from, link_prices_from, file_length, header_of, header_bytes, as_read}
use Rattle.format.specs.Layout.{relation_at, relation_bytes, grant_at, grant_bytes, grant_as_read, node_at, node_bytes, node_as_read, pair_at, prices_at, nth_price, night_of}

-- a header in this version: version, subjects, relations, attributes, nodes, grants, steps allowed are followed by this user, so many pairs and this day
abbrev pub headed : ℕ → ℕ → ℕ → ℕ → Header
headed version user pairs day =
    record { version = version; subjects = 3; relations = 4; attributes = 5; nodes = 6; grants = 1800; steps = 151653132; user = user; pairs = pairs; day = day }

-- the bytes that such a header may have, after those of the version
abbrev pub behind : List ℕ
behind = 3 ∷ 4 ∷ 5 ∷ 6 ∷ 7 ∷ 8 ∷ 9 ∷ 10 ∷ 11 ∷ 12 ∷ 13 ∷ 14 ∷ 15 ∷ 16 ∷ []

abbrev pub a_relation : Relation
a_relation = record { owner = 1; set = 144964032628459529 }

-- a grant from a first to a last day
abbrev pub a_grant : ℕ → ℕ → Grant
a_grant first last = record { relation = 1; subject = 2; first = first; last = last; clear = 217304205466536202; sealed = 796025588171149586 }

-- a node that names so many pairs from a first one on
abbrev pub a_node : ℕ → ℕ → Node
a_node first count =
    record {
      kind = 1;
      left = 2;
      right = 3;
      x = 4;
      y = 5;
      spare1 = 6;
      spare2 = 7;
      spare3 = 8;
      set = 651345242494996240;
      needed = 1230066625199609624;
      size = 421141276;
      first = first;
      count = count;
    }

-- so many bytes 0, 1, 2, ..
abbrev pub rising : ℕ → List ℕ
rising n = each n (λ k. k)

-- a byte, and the prices 1, 2, 256 and 4
abbrev pub four_prices : List ℕ
four_prices = 9 ∷ 0 ∷ 0 ∷ 0 ∷ 1 ∷ 0 ∷ 0 ∷ 0 ∷ 2 ∷ 0 ∷ 0 ∷ 1 ∷ 0 ∷ 0 ∷ 0 ∷ 0 ∷ 4 ∷ []

-- a header whose counts all differ: 3 subjects, 2 relations, 5 nodes, 4 grants, 6 pairs
abbrev pub unlike : ℕ → Header
unlike version = record { version = version; subjects = 3; relations = 2; attributes = 7; nodes = 5; grants = 4; steps = 0; user = 0; pairs = 6; day = 0 }

-- and one with every count at its limit
abbrev pub largest : ℕ → Header
largest version =
    record { version = version; subjects = 16; relations = 16; attributes = 64; nodes = 64; grants = 272; steps = 0; user = 0; pairs = 255; day = 0 }

-- where grants, nodes, pairs, step prices and link prices start, and where the file ends
abbrev pub starts : Header → List ℕ
starts h = grants_from h ∷ nodes_from h ∷ pairs_from h ∷ step_prices_from h ∷ link_prices_from h ∷ file_length h ∷ []

-- a file of version 4 with one subject and two relations, grants, nodes and pairs; behind its header of 19 bytes the byte at place k is k
abbrev pub two_of_each : List ℕ
two_of_each = 65 ∷ 88 ∷ 80 ∷ 0 ∷ 4 ∷ 1 ∷ 2 ∷ 1 ∷ 2 ∷ 0 ∷ 2 ∷ 0 ∷ 0 ∷ 0 ∷ 9 ∷ 0 ∷ 2 ∷ 0 ∷ 0 ∷ each 138 (λ k. 19 + k)

pub record Rising : Type 0 where
  -- the bytes of a number, its highest first
  pub two_bytes : bytes 2 258 ≡ 1 ∷ 2 ∷ []
  pub two_low : bytes 2 3 ≡ 0 ∷ 3 ∷ []
  pub four_bytes : bytes 4 16909060 ≡ 1 ∷ 2 ∷ 3 ∷ 4 ∷ []
  -- of a header; before version 4 without the day, before version 3 without the pairs, in version 1 without the user
  pub header-bytes : header_bytes (headed 258 13 14 3856) ≡ 65 ∷ 88 ∷ 80 ∷ 1 ∷ 2 ∷ behind
  pub header_bytes_one : header_bytes (headed 1 13 14 3856) ≡ 65 ∷ 88 ∷ 80 ∷ 0 ∷ 1 ∷ 3 ∷ 4 ∷ 5 ∷ 6 ∷ 7 ∷ 8 ∷ 9 ∷ 10 ∷ 11 ∷ 12 ∷ []
  pub header_bytes_two : header_bytes (headed 2 13 14 3856) ≡ 65 ∷ 88 ∷ 80 ∷ 0 ∷ 2 ∷ 3 ∷ 4 ∷ 5 ∷ 6 ∷ 7 ∷ 8 ∷ 9 ∷ 10 ∷ 11 ∷ 12 ∷ 13 ∷ []
  pub header_bytes_three :
      header_bytes (headed 3 13 14 3856)
      ≡ 65 ∷ 88 ∷ 80 ∷ 0 ∷ 3 ∷ 3 ∷ 4 ∷ 5 ∷ 6 ∷ 7 ∷ 8 ∷ 9 ∷ 10 ∷ 11 ∷ 12 ∷ 13 ∷ 14 ∷ []
  pub header_bytes_four : header_bytes (headed 4 13 14 3856) ≡ 65 ∷ 88 ∷ 80 ∷ 0 ∷ 4 ∷ behind
  -- read: what the version doesn't have is 0, whatever stands there; so is what lies past the end
  pub header_read : header_of (65 ∷ 88 ∷ 80 ∷ 1 ∷ 2 ∷ behind) ≡ headed 258 13 14 3856
  pub header_read_one : header_of (65 ∷ 88 ∷ 80 ∷ 0 ∷ 1 ∷ behind) ≡ headed 1 0 0 0
  pub header_read_two : header_of (65 ∷ 88 ∷ 80 ∷ 0 ∷ 2 ∷ behind) ≡ headed 2 13 0 0
  pub header_read_three : header_of (65 ∷ 88 ∷ 80 ∷ 0 ∷ 3 ∷ behind) ≡ headed 3 13 14 0
  pub header_read_four : header_of (65 ∷ 88 ∷ 80 ∷ 0 ∷ 4 ∷ behind) ≡ headed 4 13 14 3856
  pub header_cut : header_of (65 ∷ 88 ∷ 80 ∷ 0 ∷ 4 ∷ 3 ∷ 4 ∷ 5 ∷ 6 ∷ 7 ∷ 8 ∷ 9 ∷ 10 ∷ 11 ∷ 12 ∷ []) ≡ headed 4 0 0 0
  pub as_read_one : as_read (headed 1 9 10 11) ≡ headed 1 0 0 0
  pub as_read_two : as_read (headed 2 9 10 11) ≡ headed 2 9 0 0
  pub as_read_three : as_read (headed 3 9 10 11) ≡ headed 3 9 10 0
  pub as_read_four : as_read (headed 4 9 10 11) ≡ headed 4 9 10 11
  -- of records; of a low number, with zeros before it
  pub relation-bytes : relation_bytes a_relation ≡ 1 ∷ 2 ∷ 3 ∷ 4 ∷ 5 ∷ 6 ∷ 7 ∷ 8 ∷ 9 ∷ []
  pub relation_low : relation_bytes (record { owner = 3; set = 258 }) ≡ 3 ∷ 0 ∷ 0 ∷ 0 ∷ 0 ∷ 0 ∷ 0 ∷ 1 ∷ 2 ∷ []
  pub relation_read : relation_at (rising 10) 1 ≡ a_relation
  -- of a grant; before version 4 without its days, and read as one for every day
  pub grant-bytes :
      grant_bytes 3 (a_grant 4884 5398)
      ≡ 1 ∷ 2 ∷ 3 ∷ 4 ∷ 5 ∷ 6 ∷ 7 ∷ 8 ∷ 9 ∷ 10 ∷ 11 ∷ 12 ∷ 13 ∷ 14 ∷ 15 ∷ 16 ∷ 17 ∷ 18 ∷ []
  pub grant_bytes_four : grant_bytes 4 (a_grant 4884 5398) ≡ grant_bytes 3 (a_grant 4884 5398) ++ (19 ∷ 20 ∷ 21 ∷ 22 ∷ [])
  pub grant_read_three : grant_at 3 (rising 23) 1 ≡ a_grant 0 65535
  pub grant_read_four : grant_at 4 (rising 23) 1 ≡ a_grant 4884 5398
  pub grant_as_three : grant_as_read 3 (a_grant 4884 5398) ≡ a_grant 0 65535
  pub grant_as_four : grant_as_read 4 (a_grant 4884 5398) ≡ a_grant 4884 5398
  -- of a node; before version 3 without what names pairs
  pub node-bytes :
      node_bytes 2 (a_node 29 30)
      ≡ 1 ∷ 2 ∷ 3 ∷ 4 ∷ 5 ∷ 6 ∷ 7 ∷ 8 ∷ 9 ∷ 10 ∷ 11 ∷ 12 ∷ 13 ∷ 14
      ∷ 15 ∷ 16 ∷ 17 ∷ 18 ∷ 19 ∷ 20 ∷ 21 ∷ 22 ∷ 23 ∷ 24 ∷ 25 ∷ 26 ∷ 27 ∷ 28 ∷ []
  pub node_bytes_three : node_bytes 3 (a_node 29 30) ≡ node_bytes 2 (a_node 29 30) ++ (29 ∷ 30 ∷ [])
  pub node_read_two : node_at 2 (rising 31) 1 ≡ a_node 0 0
  pub node_read_three : node_at 3 (rising 31) 1 ≡ a_node 29 30
  pub node_as_two : node_as_read 2 (a_node 29 30) ≡ a_node 0 0
  pub node_as_three : node_as_read 3 (a_node 29 30) ≡ a_node 29 30
  pub pair_read : pair_at (rising 3) 1 ≡ record { left = 1; right = 2 }
  -- prices: row after row, four bytes each
  pub prices_read : prices_at four_prices 1 2 2 ≡ (1 ∷ 2 ∷ []) ∷ (256 ∷ 4 ∷ []) ∷ []
  pub prices_rows : prices_at four_prices 5 3 1 ≡ (2 ∷ []) ∷ (256 ∷ []) ∷ (4 ∷ []) ∷ []
  -- where the sections start, and how long the longest file is
  pub starts_one : starts (unlike 1) ≡ 33 ∷ 105 ∷ 245 ∷ 245 ∷ 305 ∷ 341 ∷ []
  pub starts_two : starts (unlike 2) ≡ 34 ∷ 106 ∷ 246 ∷ 246 ∷ 306 ∷ 342 ∷ []
  pub starts_three : starts (unlike 3) ≡ 35 ∷ 107 ∷ 257 ∷ 269 ∷ 329 ∷ 365 ∷ []
  pub starts_four : starts (unlike 4) ≡ 37 ∷ 125 ∷ 275 ∷ 287 ∷ 347 ∷ 383 ∷ []
  pub longest_one : file_length (largest 1) ≡ 11967
  pub longest_two : file_length (largest 2) ≡ 11968
  pub longest_three : file_length (largest 3) ≡ 12607
  pub longest_four : file_length (largest 4) ≡ 13697
  -- the second record of each section, by its first byte, a grant's days, every day in version 3, and prices by their bytes
  pub second_relation : (relation_of (night_of two_of_each) 1).owner ≡ 28
  pub second_grant : (grant_of (night_of two_of_each) 1).relation ≡ 59
  pub second_days : bytes 2 (grant_of (night_of two_of_each) 1).first ++ bytes 2 (grant_of (night_of two_of_each) 1).last ≡ 77 ∷ 78 ∷ 79 ∷ 80 ∷ []
  pub second_undated : (grant_of (night_of (set two_of_each 4 3)) 1).first ∷ (grant_of (night_of (set two_of_each 4 3)) 1).last ∷ [] ≡ 0 ∷ 65535 ∷ []
  pub second_node : (node_of (night_of two_of_each) 1).kind ≡ 111
  pub second_pair : (pair_of (night_of two_of_each) 1).left ≡ 143
  pub second_step : bytes 4 (step_price (night_of two_of_each) 1 0) ≡ 149 ∷ 150 ∷ 151 ∷ 152 ∷ []
  pub first_link : bytes 4 (link_price (night_of two_of_each) 0 0) ≡ 153 ∷ 154 ∷ 155 ∷ 156 ∷ []
  pub third_price : nth_price two_of_each (header_of two_of_each) 2 ≡ link_price (night_of two_of_each) 0 0
