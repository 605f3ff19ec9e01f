-- The run of a plan, over columns and past steps.
use Rattle.std.specs.Prelude.{ℕ, zero, suc, ◌-◌, ◌<◌, ◌≡◌, Bool, true, false, List, [], ◌∷◌, ◌++◌, ◌⊎◌, eqb, get_or, if◌then◌else◌}
use Rattle.laws.specs.Choose.{any_of}
use Rattle.laws.specs.Upwards.{each, upwards}
use Rattle.sets.specs.Sets.{In, member, union, apart, unions}
use Rattle.night.specs.declared.Node.{Node}
use Rattle.night.specs.Versions.{delivers}
use Rattle.night.specs.Night.{Night, node_of}
use Rattle.night.specs.Kinds.{a_leaf, a_select, a_compare, a_join, an_aggregate, a_count, a_function, a_join_on_pairs, uses_left, uses_right}
use Rattle.night.specs.Kinds.{attribute, its_pair, both_of, reads, read_together, visible}
use Rattle.night.specs.Views.{clear_of, sealed_of}
use Rattle.run.specs.Linked.{Chain}
use Rattle.run.specs.Keys.{Plan, Event, events, key_name, key_holders}

-- an attribute in a table: not there, clear, or sealed under a key
pub data Form : Type 0 where
  absent : Form
  clear : Form
  sealed : ℕ → Form

-- a step of a table's past: the node, its kind, and the form of every attribute that it read
pub record Past : Type 0 where
  pub node : ℕ
  pub kind : ℕ
  pub read : ℕ → Form

-- a table: its columns, and all steps that made it
pub record Held : Type 0 where
  pub column : ℕ → Form
  pub past : List Past

-- the past of kind 2 tests x, of kinds 6 and 7 each attribute of the set
unfoldable pub tested_by : ℕ → Node → ℕ
tested_by kind v = if eqb kind a_select then attribute v.x else if any_of (eqb kind an_aggregate ∷ eqb kind a_count ∷ []) then v.set else 0

-- kinds 3, 5, 8 tie what they read, kind 9 each of its pairs
unfoldable pub tied_by : Night → ℕ → Node → List ℕ
tied_by N kind v =
    if any_of (eqb kind a_compare ∷ eqb kind a_join ∷ eqb kind a_function ∷ []) then reads N v ∷ [] else
    if eqb kind a_join_on_pairs then each v.count (λ k. both_of (its_pair N v k)) else
    []

-- one of a list
abbrev pub Some : {A : Type 0} → (A → Type 0) → List A → Type 0
Some Q [] = ⊥
Some Q (x ∷ xs) = Q x ⊎ Some Q xs

-- the past tested attribute a while it had this form
unfoldable pub Tested : Night → List Past → ℕ → Form → Type 0
Tested N past a form = Some (λ d. In a (tested_by d.kind (node_of N d.node)) × (d.read a ≡ form)) past

-- the past tied this set
unfoldable pub Tied : Night → List Past → ℕ → Type 0
Tied N past m = Some (λ d. Some (λ t. m ≡ t) (tied_by N d.kind (node_of N d.node))) past

-- the set with each set of the list that meets it, one after the other
unfoldable pub spread_over : List ℕ → ℕ → ℕ
spread_over [] s = s
spread_over (t ∷ ts) s = spread_over ts (if apart s t then s else union s t)

-- the same over what the nodes below n tie
unfoldable pub spread : Night → ℕ → ℕ → ℕ
spread N zero s = s
spread N (suc n) s = spread_over (tied_by N (node_of N n).kind (node_of N n)) (spread N n s)

-- that many times over
unfoldable pub spread_times : Night → ℕ → ℕ → ℕ
spread_times N zero s = s
spread_times N (suc k) s = spread N N.header.nodes (spread_times N k s)

-- attribute k and all that chains of the ties of all steps reach from it: 64 times are enough, since a time that adds none of 64
-- attributes is the last that could
unfoldable pub reached : Night → ℕ → ℕ
reached N k = spread_times N 64 (attribute k)

-- the name of attribute k's key in the run
unfoldable pub key_of : Night → Plan → ℕ → ℕ
key_of N p k = key_name (reached N) (events N p) k

-- sealing a clear column, opening a sealed one; any other stays as it is
abbrev pub sealed_under : ℕ → Form → Form
sealed_under key absent = absent
sealed_under key clear = sealed key
sealed_under key (sealed k) = sealed k

abbrev pub unsealed : Form → Form
unsealed absent = absent
unsealed clear = clear
unsealed (sealed k) = clear

-- the columns of two operands side by side
abbrev pub beside : Form → Form → Form
beside absent f = f
beside clear f = clear
beside (sealed k) f = sealed k

-- no table
abbrev pub nothing : Held
nothing = record { column = λ a. absent; past = [] }

-- node k's table after its own sealing
unfoldable pub leaving : Night → Plan → ℕ → Held → Held
leaving N p k t = record { column = λ a. if member (p.seals k) a then sealed_under (key_of N p a) (t.column a) else t.column a; past = t.past }

-- a table after node i's opening
unfoldable pub opened_by : Plan → ℕ → Held → Held
opened_by p i t = record { column = λ a. if member (p.opens i) a then unsealed (t.column a) else t.column a; past = t.past }

-- two operands as one
unfoldable pub together : Held → Held → Held
together t u = record { column = λ a. beside (t.column a) (u.column a); past = t.past ++ u.past }

-- a leaf's table: its set in clear, and no past
unfoldable pub leaf_held : Node → Held
leaf_held v = record { column = λ a. if member v.set a then clear else absent; past = [] }

-- node i's result over its operands after opening: what is visible after it, in the form it had; and one more step in its past
unfoldable pub result_over : Night → ℕ → Held → Held
result_over N i t =
    record {
      column = λ a. if member (visible N i) a then t.column a else absent;
      past = t.past ++ (record { node = i; kind = (node_of N i).kind; read = λ a. if member (reads N (node_of N i)) a then t.column a else absent } ∷ []);
    }

-- an operand on arrival at node i: the child's table after its own sealing
unfoldable pub arriving : Night → Plan → List Held → Bool → ℕ → Held
arriving N p before uses k = if uses then leaving N p k (get_or before k nothing) else nothing

-- node i's result from those of the nodes before it
unfoldable pub held_step : Night → Plan → List Held → ℕ → Held
held_step N p before i =
    if eqb (node_of N i).kind a_leaf then leaf_held (node_of N i) else
    result_over N i
    (together (opened_by p i (arriving N p before (uses_left (node_of N i).kind) (node_of N i).left))
    (opened_by p i (arriving N p before (uses_right (node_of N i).kind) (node_of N i).right)))

-- the results of all nodes, worked out upwards
unfoldable pub helds : Night → Plan → List Held
helds N p = upwards (held_step N p) N.header.nodes

-- node i's result, before it is sealed
unfoldable pub result_of : Night → Plan → ℕ → Held
result_of N p i = get_or (helds N p) i nothing

-- its operands on arrival, and after opening
unfoldable pub left_arrives : Night → Plan → ℕ → Held
left_arrives N p i = arriving N p (helds N p) (uses_left (node_of N i).kind) (node_of N i).left

unfoldable pub right_arrives : Night → Plan → ℕ → Held
right_arrives N p i = arriving N p (helds N p) (uses_right (node_of N i).kind) (node_of N i).right

unfoldable pub left_opened : Night → Plan → ℕ → Held
left_opened N p i = opened_by p i (left_arrives N p i)

unfoldable pub right_opened : Night → Plan → ℕ → Held
right_opened N p i = opened_by p i (right_arrives N p i)

-- both side by side
unfoldable pub arrived : Night → Plan → ℕ → Held
arrived N p i = together (left_arrives N p i) (right_arrives N p i)

unfoldable pub opened : Night → Plan → ℕ → Held
opened N p i = together (left_opened N p i) (right_opened N p i)

-- what is delivered: the root's table after its own sealing
unfoldable pub delivered : Night → Plan → Held
delivered N p = leaving N p (N.header.nodes - 1) (result_of N p (N.header.nodes - 1))

-- and after the user has opened whatever is sealed
unfoldable pub received : Night → Plan → Held
received N p = record { column = λ a. unsealed ((delivered N p).column a); past = (delivered N p).past }

-- a column is sealed
abbrev pub is_sealed : Form → Bool
is_sealed absent = false
is_sealed clear = false
is_sealed (sealed key) = true

-- the attributes that are sealed in a table
unfoldable pub sealed_in : Night → Held → ℕ
sealed_in N t = unions (λ a. if is_sealed (t.column a) then attribute a else 0) N.header.attributes

-- the delivery as one more event: the user opens whatever is sealed; none in a version without a user
unfoldable pub deliveries : Night → Plan → List Event
deliveries N p =
    if delivers N.header.version then record { subject = N.header.user; opened = sealed_in N (delivered N p); sealed = 0 } ∷ [] else []

unfoldable pub all_events : Night → Plan → List Event
all_events N p = events N p ++ deliveries N p

-- the holders of attribute k's key in the run
unfoldable pub holders : Night → Plan → ℕ → ℕ
holders N p k = key_holders (reached N) (all_events N p) k

-- a set all in this form
abbrev pub AllAre : Held → ℕ → Form → Type 0
AllAre t m form = (a : ℕ) → In a m → t.column a ≡ form

-- node i, leaf or step, is stuck
pub data Stuck (N : Night) (p : Plan) (i : ℕ) : Type 0 where
  -- it seals what isn't clear
  seals_unclear : (a : ℕ) → In a (p.seals i) → ((result_of N p i).column a ≡ clear → ⊥) → Stuck N p i
  -- it opens what isn't sealed
  opens_unsealed : (a : ℕ) → In a (p.opens i) → ((key : ℕ) → (arrived N p i).column a ≡ sealed key → ⊥) → Stuck N p i
  -- it opens without being a holder
  opens_unheld : (a key : ℕ) → In a (p.opens i) → (arrived N p i).column a ≡ sealed key
      → (In (p.subject i) (holders N p key) → ⊥) → Stuck N p i
  -- a needed attribute isn't clear
  needs_unclear : (a : ℕ) → In a (node_of N i).needed → ((opened N p i).column a ≡ clear → ⊥) → Stuck N p i
  -- attributes of kinds 3, 5, 8, or those of a pair of kind 9, are neither all clear nor all sealed under one key
  mixes : (m : ℕ) → Some (λ t. m ≡ t) (read_together N (node_of N i)) → (AllAre (opened N p i) m clear → ⊥)
      → ((key : ℕ) → AllAre (opened N p i) m (sealed key) → ⊥) → Stuck N p i

-- a table is forbidden to a subject that sees P in clear and E sealed
pub data Forbidden (N : Night) (t : Held) (P E : ℕ) : Type 0 where
  -- a clear column or an attribute tested clear is outside P
  clear_column : (a : ℕ) → t.column a ≡ clear → (In a P → ⊥) → Forbidden N t P E
  clear_test : (a : ℕ) → Tested N t.past a clear → (In a P → ⊥) → Forbidden N t P E
  -- a sealed column or one tested sealed is outside P and E
  sealed_column : (a key : ℕ) → t.column a ≡ sealed key → (In a P → ⊥) → (In a E → ⊥) → Forbidden N t P E
  sealed_test : (a key : ℕ) → Tested N t.past a (sealed key) → (In a P → ⊥) → (In a E → ⊥) → Forbidden N t P E
  -- attributes linked by a chain of ties lie neither all in P nor all in E
  tied_apart : (a b c : ℕ) → Chain (Tied N t.past) a b → Chain (Tied N t.past) a c → (In b P → ⊥) → (In c E → ⊥) → Forbidden N t P E

-- the table is forbidden to node i's subject
abbrev pub Forbids : Night → Plan → ℕ → Held → Type 0
Forbids N p i t = Forbidden N t (clear_of N (p.subject i)) (sealed_of N (p.subject i))

-- node i is a step, and its subject is given a forbidden table
pub data ForbiddenAt (N : Night) (p : Plan) (i : ℕ) : Type 0 where
  -- an operand on arrival
  left-arrives : uses_left (node_of N i).kind ≡ true → Forbids N p i (left_arrives N p i) → ForbiddenAt N p i
  right-arrives : uses_right (node_of N i).kind ≡ true → Forbids N p i (right_arrives N p i) → ForbiddenAt N p i
  -- an operand after opening
  left-opened : uses_left (node_of N i).kind ≡ true → Forbids N p i (left_opened N p i) → ForbiddenAt N p i
  right-opened : uses_right (node_of N i).kind ≡ true → Forbids N p i (right_opened N p i) → ForbiddenAt N p i
  -- the result
  result_made : ((node_of N i).kind ≡ 0 → ⊥) → Forbids N p i (result_of N p i) → ForbiddenAt N p i

-- the table is forbidden to the user
abbrev pub ForbidsUser : Night → Held → Type 0
ForbidsUser N t = Forbidden N t (clear_of N N.header.user) (sealed_of N N.header.user)

-- the delivery fails
pub data DeliveryFails (N : Night) (p : Plan) : Type 0 where
  -- the user is given a forbidden table, on arrival or after opening
  user_takes : ForbidsUser N (delivered N p) → DeliveryFails N p
  user_opens : ForbidsUser N (received N p) → DeliveryFails N p
  -- the user opens without being a holder
  user_unheld : (a key : ℕ) → (delivered N p).column a ≡ sealed key → (In N.header.user (holders N p key) → ⊥) → DeliveryFails N p

-- no node is stuck, and none is given a forbidden table; in a version with a user the delivery does not fail
pub record Clean (N : Night) (p : Plan) : Type 0 where
  pub free : (i : ℕ) → i < N.header.nodes → Stuck N p i → ⊥
  pub allowed : (i : ℕ) → i < N.header.nodes → ForbiddenAt N p i → ⊥
  pub delivery : delivers N.header.version ≡ true → DeliveryFails N p → ⊥
