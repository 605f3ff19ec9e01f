-- A join on one pair is the join of kind 5 on its two attributes.
use Rattle.std.specs.Prelude.{ℕ, ◌≡◌, ◌↔◌, set}
use Rattle.night.specs.declared.Node.{Node}
use Rattle.night.specs.Night.{Night, node_of}
use Rattle.night.specs.Kinds.{a_join, a_join_on_pairs, its_pair}
use Rattle.run.specs.Keys.{Plan}
use Rattle.run.specs.Run.{key_of, holders, Stuck, ForbiddenAt, DeliveryFails, Clean}
use Rattle.model.specs.Tables.{table_of}
use Rattle.model.specs.Candidates.{candidate_set}

-- the join of kind 5 on the attributes of the node's first pair
unfoldable pub as_join : Night → Node → Node
as_join N v =
    record {
      kind = a_join;
      left = v.left;
      right = v.right;
      x = (its_pair N v 0).left;
      y = (its_pair N v 0).right;
      spare1 = v.spare1;
      spare2 = v.spare2;
      spare3 = v.spare3;
      set = v.set;
      needed = v.needed;
      size = v.size;
      first = 0;
      count = 0;
    }

-- the night with that join as node i
unfoldable pub joined_at : Night → ℕ → Night
joined_at N i =
    record {
      header = N.header;
      relations = N.relations;
      grants = N.grants;
      nodes = set N.nodes i (as_join N (node_of N i));
      pairs = N.pairs;
      step_prices = N.step_prices;
      link_prices = N.link_prices;
    }

-- both nights have the same tables, candidates, keys and holders, and for every plan the same nodes are stuck or forbidden, and the delivery fails in both or in
-- neither
pub record SameAs (N M : Night) : Type 0 where
  pub table : (j : ℕ) → table_of N j ≡ table_of M j
  pub candidates : (j : ℕ) → candidate_set N j ≡ candidate_set M j
  pub key : (p : Plan) (a : ℕ) → key_of N p a ≡ key_of M p a
  pub holder : (p : Plan) (a : ℕ) → holders N p a ≡ holders M p a
  pub stuck : (p : Plan) (j : ℕ) → Stuck N p j ↔ Stuck M p j
  pub forbidden : (p : Plan) (j : ℕ) → ForbiddenAt N p j ↔ ForbiddenAt M p j
  pub delivery : (p : Plan) → DeliveryFails N p ↔ DeliveryFails M p
  pub clean : (p : Plan) → Clean N p ↔ Clean M p

-- a join on one pair may be written as a join of kind 5, whatever the rest of the night is
abbrev pub OnePair : Type 0
OnePair = (N : Night) (i : ℕ) → (node_of N i).kind ≡ a_join_on_pairs → (node_of N i).count ≡ 1 → SameAs N (joined_at N i)
