-- Where each record of the file stands, the values that are read there, and beside each the bytes that are written for them. All numbers big-endian; a byte
-- past the end counts as 0.
use Rattle.std.specs.Prelude.{ℕ, ◌+◌, ◌*◌, List, [], ◌∷◌, ◌++◌, get_or, if◌then◌else◌}
use Rattle.laws.specs.BigEndian.{be, bytes}
use Rattle.laws.specs.Upwards.{each}
use Rattle.night.specs.declared.Header.{Header}
use Rattle.night.specs.declared.Relation.{Relation}
use Rattle.night.specs.declared.Grant.{Grant}
use Rattle.night.specs.declared.Node.{Node}
use Rattle.night.specs.declared.Pair.{Pair}
use Rattle.night.specs.Versions.{delivers, has_pairs, has_days, header_length, relation_length, grant_length, node_length, pair_length}
use Rattle.night.specs.Night.{Night}

-- where each section starts, and where the last one ends
unfoldable pub grants_from : Header → ℕ
grants_from h = header_length h.version + relation_length h.version * h.relations

unfoldable pub nodes_from : Header → ℕ
nodes_from h = grants_from h + grant_length h.version * h.grants

unfoldable pub pairs_from : Header → ℕ
pairs_from h = nodes_from h + node_length h.version * h.nodes

-- how many pairs there are: none in a version without pairs
unfoldable pub pairs_in : Header → ℕ
pairs_in h = if has_pairs h.version then h.pairs else 0

unfoldable pub step_prices_from : Header → ℕ
step_prices_from h = pairs_from h + pair_length h.version * pairs_in h

unfoldable pub link_prices_from : Header → ℕ
link_prices_from h = step_prices_from h + 4 * (h.nodes * h.subjects)

unfoldable pub file_length : Header → ℕ
file_length h = link_prices_from h + 4 * (h.subjects * h.subjects)

-- the header's values: after the mark, version, subjects, relations, attributes, nodes, grants, steps allowed; the user, how many pairs and the night's day, each 0 in a
-- version without it
unfoldable pub header_of : List ℕ → Header
header_of s =
    record {
      version = be s 3 2;
      subjects = get_or s 5 0;
      relations = get_or s 6 0;
      attributes = get_or s 7 0;
      nodes = get_or s 8 0;
      grants = be s 9 2;
      steps = be s 11 4;
      user = if delivers (be s 3 2) then get_or s 15 0 else 0;
      pairs = if has_pairs (be s 3 2) then get_or s 16 0 else 0;
      day = if has_days (be s 3 2) then be s 17 2 else 0;
    }

-- its bytes: the mark `AXP`, and the values in this order; a user, a number of pairs and a day only in a version that has them
unfoldable pub header_bytes : Header → List ℕ
header_bytes h =
    65 ∷ 88 ∷ 80
    ∷ (bytes 2 h.version
    ++ (h.subjects ∷ h.relations ∷ h.attributes ∷ h.nodes
    ∷ (bytes 2 h.grants
    ++ (bytes 4 h.steps
    ++ ((if delivers h.version then h.user ∷ [] else [])
    ++ ((if has_pairs h.version then h.pairs ∷ [] else [])
    ++ (if has_days h.version then bytes 2 h.day else [])))))))

-- the header as these bytes are read: a field that the version doesn't have means nothing, and is read at its fixed value
unfoldable pub as_read : Header → Header
as_read h =
    record {
      version = h.version;
      subjects = h.subjects;
      relations = h.relations;
      attributes = h.attributes;
      nodes = h.nodes;
      grants = h.grants;
      steps = h.steps;
      user = if delivers h.version then h.user else 0;
      pairs = pairs_in h;
      day = if has_days h.version then h.day else 0;
    }

-- a relation: owner, set
unfoldable pub relation_at : List ℕ → ℕ → Relation
relation_at s at = record { owner = get_or s at 0; set = be s (at + 1) 8 }

unfoldable pub relation_bytes : Relation → List ℕ
relation_bytes v = v.owner ∷ bytes 8 v.set

-- a grant: relation, subject, set in clear, set sealed; and its first and last day, every day in a version without days
unfoldable pub grant_at : ℕ → List ℕ → ℕ → Grant
grant_at version s at =
    record {
      relation = get_or s at 0;
      subject = get_or s (at + 1) 0;
      first = if has_days version then be s (at + 18) 2 else 0;
      last = if has_days version then be s (at + 20) 2 else 65535;
      clear = be s (at + 2) 8;
      sealed = be s (at + 10) 8;
    }

unfoldable pub grant_bytes : ℕ → Grant → List ℕ
grant_bytes version v =
    v.relation ∷ v.subject
    ∷ (bytes 8 v.clear ++ (bytes 8 v.sealed ++ (if has_days version then bytes 2 v.first ++ bytes 2 v.last else [])))

-- the grant as these bytes are read
unfoldable pub grant_as_read : ℕ → Grant → Grant
grant_as_read version v =
    record {
      relation = v.relation;
      subject = v.subject;
      first = if has_days version then v.first else 0;
      last = if has_days version then v.last else 65535;
      clear = v.clear;
      sealed = v.sealed;
    }

-- a node: kind, left, right, x, y, three spare bytes, set, needed in clear, size; and the first pair and how many, 0 in a version without pairs
unfoldable pub node_at : ℕ → List ℕ → ℕ → Node
node_at version s at =
    record {
      kind = get_or s at 0;
      left = get_or s (at + 1) 0;
      right = get_or s (at + 2) 0;
      x = get_or s (at + 3) 0;
      y = get_or s (at + 4) 0;
      spare1 = get_or s (at + 5) 0;
      spare2 = get_or s (at + 6) 0;
      spare3 = get_or s (at + 7) 0;
      set = be s (at + 8) 8;
      needed = be s (at + 16) 8;
      size = be s (at + 24) 4;
      first = if has_pairs version then get_or s (at + 28) 0 else 0;
      count = if has_pairs version then get_or s (at + 29) 0 else 0;
    }

-- its fields of one byte, which stand first, and all of it
abbrev pub node_start : Node → List ℕ
node_start v = v.kind ∷ v.left ∷ v.right ∷ v.x ∷ v.y ∷ v.spare1 ∷ v.spare2 ∷ v.spare3 ∷ []

unfoldable pub node_bytes : ℕ → Node → List ℕ
node_bytes version v =
    node_start v ++ (bytes 8 v.set ++ (bytes 8 v.needed ++ (bytes 4 v.size ++ (if has_pairs version then v.first ∷ v.count ∷ [] else []))))

-- the node as these bytes are read
unfoldable pub node_as_read : ℕ → Node → Node
node_as_read version v =
    record {
      kind = v.kind;
      left = v.left;
      right = v.right;
      x = v.x;
      y = v.y;
      spare1 = v.spare1;
      spare2 = v.spare2;
      spare3 = v.spare3;
      set = v.set;
      needed = v.needed;
      size = v.size;
      first = if has_pairs version then v.first else 0;
      count = if has_pairs version then v.count else 0;
    }

-- a pair: the left operand's attribute, the right one's
unfoldable pub pair_at : List ℕ → ℕ → Pair
pair_at s at = record { left = get_or s at 0; right = get_or s (at + 1) 0 }

-- a table of prices: rows of so many 32-bit prices each
unfoldable pub prices_at : List ℕ → ℕ → ℕ → ℕ → List (List ℕ)
prices_at s at rows columns = each rows (λ i. each columns (λ p. be s (at + 4 * (i * columns + p)) 4))

-- price number i of all, step prices first: the link prices stand right behind them, in rows as long
unfoldable pub nth_price : List ℕ → Header → ℕ → ℕ
nth_price s h i = get_or (each (h.nodes * h.subjects + h.subjects * h.subjects) (λ k. be s (step_prices_from h + 4 * k) 4)) i 0

-- the night that the bytes hold, where the header is h
unfoldable pub night_in : List ℕ → Header → Night
night_in s h =
    record {
      header = h;
      relations = each h.relations (λ i. relation_at s (header_length h.version + relation_length h.version * i));
      grants = each h.grants (λ i. grant_at h.version s (grants_from h + grant_length h.version * i));
      nodes = each h.nodes (λ i. node_at h.version s (nodes_from h + node_length h.version * i));
      pairs = each (pairs_in h) (λ i. pair_at s (pairs_from h + pair_length h.version * i));
      step_prices = prices_at s (step_prices_from h) h.nodes h.subjects;
      link_prices = prices_at s (link_prices_from h) h.subjects h.subjects;
    }

-- the night of a file
abbrev pub night_of : List ℕ → Night
night_of s = night_in s (header_of s)
