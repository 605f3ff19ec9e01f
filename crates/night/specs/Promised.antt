-- What reading promises of the night of an accepted file. Planning uses this and nothing else of reading. That the kind is one of the version's, that
-- unused fields and spare bytes, the pairs named, version and length are as they must be, and that no grant ends before it begins, is checked too, and
-- left out here, since no proof rests on it.
use Rattle.std.specs.Prelude.{ℕ, ◌+◌, ◌<◌, ◌≤◌, ◌≡◌, true, List, [], ◌∷◌, ◌⊎◌}
use Rattle.sets.specs.Sets.{In, Within, Apart}
use Rattle.night.specs.Versions.{delivers}
use Rattle.night.specs.Night.{Night, relation_of, grant_of, node_of, step_price, link_price}
use Rattle.night.specs.Kinds.{uses_left, uses_right, uses_x, uses_set, uses_pairs, its_pair, reads, read_together, visible, is_child}
use Rattle.night.specs.Views.{any_subject, shares_day, view_of}

-- of each set, all is needed or none
abbrev pub AllOrNone : ℕ → List ℕ → Type 0
AllOrNone needed [] = Unit {0}
AllOrNone needed (t ∷ ts) = (Apart needed t ⊎ Within t needed) × AllOrNone needed ts

-- the counts are within their limits, and a user is a subject; that there is a grant at all follows from the owners' views
pub record SoundCounts (N : Night) : Type 0 where
  pub subjects_some : 1 ≤ N.header.subjects
  pub subjects_most : N.header.subjects ≤ 16
  pub relations_some : 1 ≤ N.header.relations
  pub relations_most : N.header.relations ≤ 16
  pub attributes_some : 1 ≤ N.header.attributes
  pub attributes_most : N.header.attributes ≤ 64
  pub nodes_some : 1 ≤ N.header.nodes
  pub nodes_most : N.header.nodes ≤ 64
  pub grants_some : 1 ≤ N.header.grants
  pub grants_most : N.header.grants ≤ 272
  pub user_there : delivers N.header.version ≡ true → N.header.user < N.header.subjects

-- relation i has an owner, and attributes below a that no earlier relation has
pub record SoundRelation (N : Night) (i : ℕ) : Type 0 where
  pub owner_there : (relation_of N i).owner < N.header.subjects
  pub some : (relation_of N i).set ≡ 0 → ⊥
  pub below_a : (k : ℕ) → In k (relation_of N i).set → k < N.header.attributes
  pub apart_before : (j : ℕ) → j < i → Apart (relation_of N i).set (relation_of N j).set

-- grant i is on a relation, to a subject or to any, with disjoint sets within the relation; no earlier grant for the same pair shares a day with it
pub record SoundGrant (N : Night) (i : ℕ) : Type 0 where
  pub relation_there : (grant_of N i).relation < N.header.relations
  pub subject-there : ((grant_of N i).subject < N.header.subjects) ⊎ ((grant_of N i).subject ≡ any_subject)
  pub sets_apart : Apart (grant_of N i).clear (grant_of N i).sealed
  pub clear_within : Within (grant_of N i).clear (relation_of N (grant_of N i).relation).set
  pub sealed_within : Within (grant_of N i).sealed (relation_of N (grant_of N i).relation).set
  pub once : (j : ℕ) → j < i → (grant_of N j).relation ≡ (grant_of N i).relation → (grant_of N j).subject ≡ (grant_of N i).subject
      → shares_day (grant_of N j) (grant_of N i).first (grant_of N i).last ≡ true → ⊥

-- node i has lower and different children that no earlier node has, and what it uses is visible in its operand
pub record SoundNode (N : Night) (i : ℕ) : Type 0 where
  pub left_lower : uses_left (node_of N i).kind ≡ true → (node_of N i).left < i
  pub right_lower : uses_right (node_of N i).kind ≡ true → (node_of N i).right < i
  pub children_differ : uses_right (node_of N i).kind ≡ true → (node_of N i).right ≡ (node_of N i).left → ⊥
  pub children_once : (j c : ℕ) → j < i → is_child (node_of N j) c ≡ true → is_child (node_of N i) c ≡ true → ⊥
  pub size_most : (node_of N i).size ≤ 1000000
  pub leaf_relation : (node_of N i).kind ≡ 0 → (node_of N i).x < N.header.relations
  pub leaf_within : (node_of N i).kind ≡ 0 → Within (node_of N i).set (relation_of N (node_of N i).x).set
  pub leaf_once : (j : ℕ) → j < i → (node_of N i).kind ≡ 0 → (node_of N j).kind ≡ 0 → (node_of N j).x ≡ (node_of N i).x → ⊥
  pub set_some : uses_set (node_of N i).kind ≡ true → ((node_of N i).kind ≡ 6 → ⊥) → (node_of N i).set ≡ 0 → ⊥
  pub x_visible : ((node_of N i).kind ≡ 0 → ⊥) → uses_x (node_of N i).kind ≡ true → In (node_of N i).x (visible N (node_of N i).left)
  pub y_visible_left : (node_of N i).kind ≡ 3 → In (node_of N i).y (visible N (node_of N i).left)
  pub y_visible_right : (node_of N i).kind ≡ 5 → In (node_of N i).y (visible N (node_of N i).right)
  pub set_visible : ((node_of N i).kind ≡ 0 → ⊥) → uses_set (node_of N i).kind ≡ true → Within (node_of N i).set (visible N (node_of N i).left)
  pub x_outside : (node_of N i).kind ≡ 6 → In (node_of N i).x (node_of N i).set → ⊥
  pub x_inside : (node_of N i).kind ≡ 8 → In (node_of N i).x (node_of N i).set
  pub pair_visible_left : uses_pairs (node_of N i).kind ≡ true → (k : ℕ) → k < (node_of N i).count
      → In (its_pair N (node_of N i) k).left (visible N (node_of N i).left)
  pub pair_visible_right : uses_pairs (node_of N i).kind ≡ true → (k : ℕ) → k < (node_of N i).count
      → In (its_pair N (node_of N i) k).right (visible N (node_of N i).right)
  pub needed_read : Within (node_of N i).needed (reads N (node_of N i))
  pub needed_together : AllOrNone (node_of N i).needed (read_together N (node_of N i))

-- every owner sees all of its relation in clear, on the night's day
abbrev pub OwnersSee : Night → Type 0
OwnersSee N = (i : ℕ) → i < N.header.relations → Within (relation_of N i).set (view_of N (relation_of N i).owner i).clear

-- the facts of an accepted file that hold whatever the day
pub record Promised (N : Night) : Type 0 where
  pub counts : SoundCounts N
  pub relation : (i : ℕ) → i < N.header.relations → SoundRelation N i
  pub relations_all : (k : ℕ) → k < N.header.attributes → (i : ℕ) × (i < N.header.relations) × In k (relation_of N i).set
  pub grant : (i : ℕ) → i < N.header.grants → SoundGrant N i
  pub node : (i : ℕ) → i < N.header.nodes → SoundNode N i
  pub parent : (c : ℕ) → c + 1 < N.header.nodes → (i : ℕ) × (i < N.header.nodes) × (is_child (node_of N i) c ≡ true)
  pub step-price : (i p : ℕ) → i < N.header.nodes → p < N.header.subjects → step_price N i p ≤ 1000000
  pub leaf_price : (i p : ℕ) → i < N.header.nodes → p < N.header.subjects → (node_of N i).kind ≡ 0 → step_price N i p ≡ 0
  pub link-price : (p q : ℕ) → p < N.header.subjects → q < N.header.subjects → link_price N p q ≤ 1000
  pub link_self : (p : ℕ) → p < N.header.subjects → link_price N p p ≡ 0
