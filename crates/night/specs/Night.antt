-- The values of a plan file, in the order of the file.
use Rattle.std.specs.Prelude.{ℕ, List, [], get_or}
use Rattle.night.specs.declared.Header.{Header}
use Rattle.night.specs.declared.Relation.{Relation}
use Rattle.night.specs.declared.Grant.{Grant}
use Rattle.night.specs.declared.Node.{Node}
use Rattle.night.specs.declared.Pair.{Pair}

-- every field of the file: prices as rows, a row for each node or for each subject that sends
pub record Night : Type 0 where
  pub header : Header
  pub relations : List Relation
  pub grants : List Grant
  pub nodes : List Node
  pub pairs : List Pair
  pub step_prices : List (List ℕ)
  pub link_prices : List (List ℕ)

-- what stands past the end of a list of records: no relation, a grant of nothing, a leaf of nothing, attribute 0 twice
abbrev pub no_relation : Relation
no_relation = record { owner = 0; set = 0 }

abbrev pub no_grant : Grant
no_grant = record { relation = 0; subject = 0; first = 0; last = 0; clear = 0; sealed = 0 }

abbrev pub no_node : Node
no_node = record { kind = 0; left = 0; right = 0; x = 0; y = 0; spare1 = 0; spare2 = 0; spare3 = 0; set = 0; needed = 0; size = 0; first = 0; count = 0 }

abbrev pub no_pair : Pair
no_pair = record { left = 0; right = 0 }

-- record number i
unfoldable pub relation_of : Night → ℕ → Relation
relation_of N i = get_or N.relations i no_relation

unfoldable pub grant_of : Night → ℕ → Grant
grant_of N i = get_or N.grants i no_grant

unfoldable pub node_of : Night → ℕ → Node
node_of N i = get_or N.nodes i no_node

unfoldable pub pair_of : Night → ℕ → Pair
pair_of N i = get_or N.pairs i no_pair

-- the price of node i done by subject p, and of the link from subject p to subject q
unfoldable pub step_price : Night → ℕ → ℕ → ℕ
step_price N i p = get_or (get_or N.step_prices i []) p 0

unfoldable pub link_price : Night → ℕ → ℕ → ℕ
link_price N p q = get_or (get_or N.link_prices p []) q 0
