-- The values of the small file, written by hand from its records, and how neighbours are made of them.
use Rattle.std.specs.Prelude.{ℕ, List, [], ◌∷◌, ◌++◌, take, replicate}
use Rattle.night.specs.declared.Header.{Header}
use Rattle.night.specs.declared.Relation.{Relation}
use Rattle.night.specs.declared.Grant.{Grant}
use Rattle.night.specs.declared.Node.{Node}
use Rattle.night.specs.Night.{no_relation, no_node}
use Rattle.night.specs.Days.{header_in}
use Rattle.trials.specs.Small.{small, two_prices, three_pairs}
use Rattle.writes.specs.Values.{Values, with_header, with_grants}

-- a header with no pairs, of day 0: version, subjects, relations, attributes, nodes, grants, steps allowed, user
abbrev pub a_header : ℕ → ℕ → ℕ → ℕ → ℕ → ℕ → ℕ → ℕ → Header
a_header version subjects relations attributes nodes grants steps user =
    record {
      version = version;
      subjects = subjects;
      relations = relations;
      attributes = attributes;
      nodes = nodes;
      grants = grants;
      steps = steps;
      user = user;
      pairs = 0;
      day = 0;
    }

-- the same header with so many pairs
abbrev pub counting : ℕ → Header → Header
counting pairs h =
    record {
      version = h.version;
      subjects = h.subjects;
      relations = h.relations;
      attributes = h.attributes;
      nodes = h.nodes;
      grants = h.grants;
      steps = h.steps;
      user = h.user;
      pairs = pairs;
      day = h.day;
    }

-- the same header of this day
abbrev pub on_day : ℕ → Header → Header
on_day day h = header_in h h.version day

-- a relation: owner, set
abbrev pub a_relation : ℕ → ℕ → Relation
a_relation owner set = record { owner = owner; set = set }

-- a grant for every day: relation, subject, set in clear, set sealed
abbrev pub a_grant : ℕ → ℕ → ℕ → ℕ → Grant
a_grant relation subject clear sealed = record { relation = relation; subject = subject; first = 0; last = 65535; clear = clear; sealed = sealed }

-- the same grant from a first to a last day
abbrev pub lasting : ℕ → ℕ → Grant → Grant
lasting first last g = record { relation = g.relation; subject = g.subject; first = first; last = last; clear = g.clear; sealed = g.sealed }

-- a node of size 1 that names no pairs, its spare bytes 0: kind, left, right, x, y, set, needed in clear
abbrev pub a_node : ℕ → ℕ → ℕ → ℕ → ℕ → ℕ → ℕ → Node
a_node kind left right x y set needed =
    record {
      kind = kind;
      left = left;
      right = right;
      x = x;
      y = y;
      spare1 = 0;
      spare2 = 0;
      spare3 = 0;
      set = set;
      needed = needed;
      size = 1;
      first = 0;
      count = 0;
    }

-- the same node with a first pair and a count
abbrev pub naming : ℕ → ℕ → Node → Node
naming first count v =
    record {
      kind = v.kind;
      left = v.left;
      right = v.right;
      x = v.x;
      y = v.y;
      spare1 = v.spare1;
      spare2 = v.spare2;
      spare3 = v.spare3;
      set = v.set;
      needed = v.needed;
      size = v.size;
      first = first;
      count = count;
    }

-- the small file's
unfoldable pub small_values : Values
small_values =
    record {
      header = a_header 1 2 2 2 4 4 6 0;
      relations = a_relation 0 1 ∷ a_relation 1 2 ∷ [];
      grants = a_grant 0 0 1 0 ∷ a_grant 1 1 2 0 ∷ a_grant 0 255 0 1 ∷ a_grant 1 255 0 2 ∷ [];
      nodes = a_node 0 255 255 0 255 1 0 ∷ a_node 0 255 255 1 255 2 0 ∷ a_node 4 0 1 255 255 0 0 ∷ a_node 2 2 255 0 255 0 1 ∷ [];
      pairs = [];
      step_prices = 0 ∷ 0 ∷ 0 ∷ 0 ∷ 1 ∷ 1 ∷ 1 ∷ 1 ∷ [];
      link_prices = 0 ∷ 1 ∷ 1 ∷ 0 ∷ [];
    }

-- the same values with another list
abbrev pub with_relations : List Relation → Values → Values
with_relations rs vs =
    record { header = vs.header; relations = rs; grants = vs.grants; nodes = vs.nodes; pairs = vs.pairs; step_prices = vs.step_prices; link_prices = vs.link_prices }

abbrev pub with_pairs : List ℕ → Values → Values
with_pairs qs vs =
    record {
      header = vs.header;
      relations = vs.relations;
      grants = vs.grants;
      nodes = vs.nodes;
      pairs = qs;
      step_prices = vs.step_prices;
      link_prices = vs.link_prices;
    }

abbrev pub with_steps : List ℕ → Values → Values
with_steps ps vs =
    record { header = vs.header; relations = vs.relations; grants = vs.grants; nodes = vs.nodes; pairs = vs.pairs; step_prices = ps; link_prices = vs.link_prices }

abbrev pub with_links : List ℕ → Values → Values
with_links ps vs =
    record { header = vs.header; relations = vs.relations; grants = vs.grants; nodes = vs.nodes; pairs = vs.pairs; step_prices = vs.step_prices; link_prices = ps }

-- the small file with the prices 1 to 12, and its values
abbrev pub priced_file : List ℕ
priced_file = take 217 small ++ (two_prices 1 2 ++ two_prices 3 4 ++ two_prices 5 6 ++ two_prices 7 8 ++ two_prices 9 10 ++ two_prices 11 12)

abbrev pub priced_values : Values
priced_values = with_steps (1 ∷ 2 ∷ 3 ∷ 4 ∷ 5 ∷ 6 ∷ 7 ∷ 8 ∷ []) (with_links (9 ∷ 10 ∷ 11 ∷ 12 ∷ []) small_values)

-- a header whose counts all differ: of 3 subjects, 2 relations, 7 attributes, 5 nodes and 4 grants there are 15 step prices and 9 link prices; here zeros only
abbrev pub unlike_file : List ℕ
unlike_file = 65 ∷ 88 ∷ 80 ∷ 0 ∷ 1 ∷ 3 ∷ 2 ∷ 7 ∷ 5 ∷ 0 ∷ 4 ∷ 0 ∷ 0 ∷ 0 ∷ 6 ∷ replicate 326 0

abbrev pub unlike_values : Values
unlike_values =
    record {
      header = a_header 1 3 2 7 5 4 6 0;
      relations = replicate 2 no_relation;
      grants = replicate 4 (a_grant 0 0 0 0);
      nodes = replicate 5 no_node;
      pairs = [];
      step_prices = replicate 15 0;
      link_prices = replicate 9 0;
    }

-- of the file of version 3: a join over both leaves, given the header's count of pairs, the node and the pairs' bytes
abbrev pub pairing_values : ℕ → Node → List ℕ → Values
pairing_values many node pairs =
    record {
      header = counting many (a_header 3 2 2 4 3 4 2 0);
      relations = a_relation 0 3 ∷ a_relation 1 12 ∷ [];
      grants = a_grant 0 0 3 0 ∷ a_grant 1 1 12 0 ∷ a_grant 0 255 0 3 ∷ a_grant 1 255 0 12 ∷ [];
      nodes = a_node 0 255 255 0 255 3 0 ∷ a_node 0 255 255 1 255 12 0 ∷ node ∷ [];
      pairs = pairs;
      step_prices = 0 ∷ 0 ∷ 0 ∷ 0 ∷ 1 ∷ 1 ∷ [];
      link_prices = 0 ∷ 1 ∷ 1 ∷ 0 ∷ [];
    }

-- a join on so many pairs from the first on, with this needed set
abbrev pub a_pairing : ℕ → ℕ → ℕ → Node
a_pairing first count needed = naming first count (a_node 9 0 1 255 255 0 needed)

-- on the second and the third of three pairs
abbrev pub paired_values : ℕ → Values
paired_values needed = pairing_values 3 (a_pairing 1 2 needed) three_pairs

-- the small file's in version 4, on this day: owners see their own on day 5 only, and any sees all sealed from day 3 to 5 and nothing from day 6 to 9
abbrev pub dated_values : ℕ → Values
dated_values day =
    with_header (on_day day (a_header 4 2 2 2 4 6 6 1))
    (with_grants
    (lasting 5 5 (a_grant 0 0 1 0) ∷ lasting 5 5 (a_grant 1 1 2 0) ∷ lasting 3 5 (a_grant 0 255 0 1) ∷ lasting 3 5 (a_grant 1 255 0 2)
    ∷ lasting 6 9 (a_grant 0 255 0 0) ∷ lasting 6 9 (a_grant 1 255 0 0) ∷ [])
    small_values)
