-- A small file, written record by record from document 01, whose neighbours have the verdicts of the table.
use Rattle.std.specs.Prelude.{ℕ, ◌+◌, ◌*◌, List, [], ◌∷◌, ◌++◌, set, take, drop, replicate}

-- a file of version 1 in version 2, with a user after the steps allowed
abbrev pub with_user : ℕ → List ℕ → List ℕ
with_user user s = set (take 15 s) 4 2 ++ (user ∷ drop 15 s)

-- the bytes of a relation: owner, set; sets here have attributes 0 to 7 only
abbrev pub a_relation : ℕ → ℕ → List ℕ
a_relation owner set = owner ∷ 0 ∷ 0 ∷ 0 ∷ 0 ∷ 0 ∷ 0 ∷ 0 ∷ set ∷ []

-- of a grant: relation, subject, set in clear, set sealed
abbrev pub a_grant : ℕ → ℕ → ℕ → ℕ → List ℕ
a_grant relation subject clear sealed =
    relation ∷ subject ∷ 0 ∷ 0 ∷ 0 ∷ 0 ∷ 0 ∷ 0 ∷ 0 ∷ clear ∷ 0 ∷ 0 ∷ 0 ∷ 0 ∷ 0 ∷ 0 ∷ 0 ∷ sealed ∷ []

-- of a node of size 1: kind, left, right, x, y, three zero bytes, set, needed in clear
abbrev pub a_node : ℕ → ℕ → ℕ → ℕ → ℕ → ℕ → ℕ → List ℕ
a_node kind left right x y set needed =
    kind ∷ left ∷ right ∷ x ∷ y ∷ 0 ∷ 0 ∷ 0 ∷ 0 ∷ 0 ∷ 0 ∷ 0 ∷ 0 ∷ 0 ∷ 0 ∷ set
    ∷ 0 ∷ 0 ∷ 0 ∷ 0 ∷ 0 ∷ 0 ∷ 0 ∷ needed ∷ 0 ∷ 0 ∷ 0 ∷ 1 ∷ []

-- of two prices
abbrev pub two_prices : ℕ → ℕ → List ℕ
two_prices p q = 0 ∷ 0 ∷ 0 ∷ p ∷ 0 ∷ 0 ∷ 0 ∷ q ∷ []

-- two subjects, two relations of one attribute, four nodes, four grants, 6 steps allowed: two leaves, their product, and a select of attribute 0, which it
-- needs in clear; each owner sees its own in clear, and any sees all sealed
unfoldable pub small : List ℕ
small =
    65 ∷ 88 ∷ 80 ∷ 0 ∷ 1 ∷ 2 ∷ 2 ∷ 2 ∷ 4 ∷ 0 ∷ 4 ∷ 0 ∷ 0 ∷ 0 ∷ 6
    ∷ (a_relation 0 1 ++ a_relation 1 2
    ++ a_grant 0 0 1 0 ++ a_grant 1 1 2 0 ++ a_grant 0 255 0 1 ++ a_grant 1 255 0 2
    ++ a_node 0 255 255 0 255 1 0 ++ a_node 0 255 255 1 255 2 0 ++ a_node 4 0 1 255 255 0 0 ++ a_node 2 2 255 0 255 0 1
    ++ two_prices 0 0 ++ two_prices 0 0 ++ two_prices 1 1 ++ two_prices 1 1
    ++ two_prices 0 1 ++ two_prices 1 0)

-- where byte k of a record of it stands
abbrev pub relation_byte : ℕ → ℕ → ℕ
relation_byte i k = 15 + 9 * i + k

abbrev pub grant_byte : ℕ → ℕ → ℕ
grant_byte i k = 33 + 18 * i + k

abbrev pub node_byte : ℕ → ℕ → ℕ
node_byte i k = 105 + 28 * i + k

-- and byte k of price number i, step prices first
abbrev pub price_byte : ℕ → ℕ → ℕ
price_byte i k = 217 + 4 * i + k

-- node 2 a select of attribute 0 over node 0, so that node 1 has no parent
abbrev pub parentless : List ℕ
parentless = set (set (set small (node_byte 2 0) 2) (node_byte 2 2) 255) (node_byte 2 3) 0

-- a file of one subject with three leaves and a project over the last of them, so that nodes 0 and 1 have no parent
abbrev pub two_parentless : List ℕ
two_parentless =
    65 ∷ 88 ∷ 80 ∷ 0 ∷ 1 ∷ 1 ∷ 3 ∷ 3 ∷ 4 ∷ 0 ∷ 3 ∷ 0 ∷ 0 ∷ 0 ∷ 0
    ∷ (a_relation 0 1 ++ a_relation 0 2 ++ a_relation 0 4
    ++ a_grant 0 0 1 0 ++ a_grant 1 0 2 0 ++ a_grant 2 0 4 0
    ++ a_node 0 255 255 0 255 1 0 ++ a_node 0 255 255 1 255 2 0 ++ a_node 0 255 255 2 255 4 0 ++ a_node 1 2 255 255 255 4 0
    ++ replicate 20 0)

-- of a node in a version with pairs: the first pair that it names, and how many
abbrev pub naming : ℕ → ℕ → List ℕ → List ℕ
naming first count node = node ++ (first ∷ count ∷ [])

-- a file of version 3 with so many pairs: two relations of two attributes, a leaf of each, and this node over them; user 0; the pairs' bytes
abbrev pub pairing : ℕ → List ℕ → List ℕ → List ℕ
pairing many node pairs =
    65 ∷ 88 ∷ 80 ∷ 0 ∷ 3 ∷ 2 ∷ 2 ∷ 4 ∷ 3 ∷ 0 ∷ 4 ∷ 0 ∷ 0 ∷ 0 ∷ 2 ∷ 0 ∷ many
    ∷ (a_relation 0 3 ++ a_relation 1 12
    ++ a_grant 0 0 3 0 ++ a_grant 1 1 12 0 ++ a_grant 0 255 0 3 ++ a_grant 1 255 0 12
    ++ naming 0 0 (a_node 0 255 255 0 255 3 0) ++ naming 0 0 (a_node 0 255 255 1 255 12 0) ++ node
    ++ pairs
    ++ two_prices 0 0 ++ two_prices 0 0 ++ two_prices 1 1
    ++ two_prices 0 1 ++ two_prices 1 0)

-- a join on so many pairs from the first on, with this needed set
abbrev pub joining : ℕ → ℕ → ℕ → List ℕ
joining first count needed = naming first count (a_node 9 0 1 255 255 0 needed)

-- three pairs, of which the first is none that a node could name
abbrev pub three_pairs : List ℕ
three_pairs = 200 ∷ 64 ∷ 0 ∷ 2 ∷ 1 ∷ 3 ∷ []

-- a join on the second and the third, which needs this in clear
abbrev pub paired : ℕ → List ℕ
paired needed = pairing 3 (joining 1 2 needed) three_pairs

-- a file of version 3 in which two joins name one pair, of which both attributes are visible in the later one's left operand
abbrev pub named_twice : List ℕ
named_twice =
    65 ∷ 88 ∷ 80 ∷ 0 ∷ 3 ∷ 1 ∷ 3 ∷ 3 ∷ 5 ∷ 0 ∷ 3 ∷ 0 ∷ 0 ∷ 0 ∷ 9 ∷ 0 ∷ 1
    ∷ (a_relation 0 1 ++ a_relation 0 2 ++ a_relation 0 4
    ++ a_grant 0 0 1 0 ++ a_grant 1 0 2 0 ++ a_grant 2 0 4 0
    ++ naming 0 0 (a_node 0 255 255 0 255 1 0) ++ naming 0 0 (a_node 0 255 255 1 255 2 0) ++ naming 0 0 (a_node 0 255 255 2 255 4 0)
    ++ naming 0 1 (a_node 9 0 1 255 255 0 0) ++ naming 0 1 (a_node 9 3 2 255 255 0 0)
    ++ (0 ∷ 1 ∷ [])
    ++ replicate 24 0)

-- of a grant in a version with days: its first and its last
abbrev pub lasting : ℕ → ℕ → List ℕ → List ℕ
lasting first last grant = grant ++ (0 ∷ first ∷ 0 ∷ last ∷ [])

-- a file of version 4, of this day: a relation of one attribute, which its owner sees in clear from day 3 to 9, two more grants on it, and a leaf; user 0
abbrev pub dating : ℕ → List ℕ → List ℕ → List ℕ
dating day second third =
    65 ∷ 88 ∷ 80 ∷ 0 ∷ 4 ∷ 2 ∷ 1 ∷ 1 ∷ 1 ∷ 0 ∷ 3 ∷ 0 ∷ 0 ∷ 0 ∷ 0 ∷ 0 ∷ 0 ∷ 0 ∷ day
    ∷ (a_relation 0 1
    ++ lasting 3 9 (a_grant 0 0 1 0) ++ second ++ third
    ++ naming 0 0 (a_node 0 255 255 0 255 1 0)
    ++ two_prices 0 0
    ++ two_prices 0 1 ++ two_prices 1 0)

-- the other subject sees it in clear to day 4, and sealed from day 5 on
abbrev pub dated : ℕ → List ℕ
dated day = dating day (lasting 0 4 (a_grant 0 1 1 0)) (lasting 5 9 (a_grant 0 1 0 1))

-- it sees it in clear on these days, and sealed on those
abbrev pub dated_twice : ℕ → ℕ → ℕ → ℕ → List ℕ
dated_twice first last first' last' = dating 5 (lasting first last (a_grant 0 1 1 0)) (lasting first' last' (a_grant 0 1 0 1))
