-- The bytes of a record: how many they are, that they are read back as the record, and that a record that was read has the bytes that it was read from.
use Prim.Native.Nat.{ℕ, suc, ◌+◌, ◌<◌, ◌≤◌, ◌^◌}
use mathlib.Core.Path.{◌≡◌, refl, sym, ap, ◌∙◌}
use mathlib.Core.Bool.{Bool, true, false}
use mathlib.Core.List.{List, [], ◌∷◌, ◌++◌}
use native.Mathlib.Nat.{add-zero}
use native.Mathlib.Omega.{arith}
use lib.ListN.{length, length-append, get_or, take, drop}
use lib.Seq.{take-add}
use Rattle.laws.specs.BigEndian.{be, bytes}
use Rattle.std.specs.Prelude.{if◌then◌else◌}
use Rattle.laws.proofs.BigEndian.{bytes_length, be_bytes, bytes_be}
use Rattle.laws.proofs.Parts.{part_one, part_more}
use Rattle.night.specs.declared.Header.{Header}
use Rattle.night.specs.declared.Relation.{Relation}
use Rattle.night.specs.declared.Grant.{Grant}
use Rattle.night.specs.declared.Node.{Node}
use Rattle.night.specs.Versions.{delivers, has_pairs, has_days, header_length, grant_length, node_length}
use Rattle.night.proofs.Kept.{pairs_deliver, days_pairs}
use Rattle.format.specs.Layout.{pairs_in, header_of, header_bytes, as_read, relation_at, relation_bytes, grant_at, grant_bytes, grant_as_read, node_at, node_bytes, node_as_read}

-- how many
pub relation_long : (v : Relation) → length (relation_bytes v) ≡ 9
unfolding relation_bytes
relation_long v = rw (bytes_length 8 v.set) refl

-- the days of a grant, where its version has them
abbrev dated : Bool → ℕ → ℕ → List ℕ
dated b first last = if b then bytes 2 first ++ bytes 2 last else []

pub grant_long : (version : ℕ) (v : Grant) → length (grant_bytes version v) ≡ grant_length version
unfolding grant_bytes grant_length
grant_long version v = simp (length-append, bytes_length) (go (has_days version))
  where
    go : (b : Bool) → suc (suc (8 + (8 + length (dated b v.first v.last)))) ≡ (if b then 22 else 18)
    go true = simp (length-append, bytes_length) refl
    go false = refl

-- between eighteen and twenty-two
pub grant_least : (version : ℕ) → 18 ≤ grant_length version
unfolding grant_length
grant_least version = go (has_days version)
  where
    go : (b : Bool) → 18 ≤ (if b then 22 else 18)
    go true = omega arith
    go false = omega arith

pub grant_most : (version : ℕ) → grant_length version ≤ 22
unfolding grant_length
grant_most version = go (has_days version)
  where
    go : (b : Bool) → (if b then 22 else 18) ≤ 22
    go true = omega arith
    go false = omega arith

-- the pairs that a node names, where its version has them
abbrev named : Bool → ℕ → ℕ → List ℕ
named b first count = if b then first ∷ count ∷ [] else []

pub node_long : (version : ℕ) (v : Node) → length (node_bytes version v) ≡ node_length version
unfolding node_bytes node_length
node_long version v = simp (length-append, bytes_length) (go (has_pairs version))
  where
    go : (b : Bool) → suc (suc (suc (suc (suc (suc (suc (suc (8 + (8 + (4 + length (named b v.first v.count))))))))))) ≡ (if b then 30 else 28)
    go true = refl
    go false = refl

-- what a header has behind the steps, where its version has it
abbrev behind : Bool → Bool → Bool → ℕ → ℕ → ℕ → List ℕ
behind d p t user pairs day = (if d then user ∷ [] else []) ++ ((if p then pairs ∷ [] else []) ++ (if t then bytes 2 day else []))

-- how long it is, by these
abbrev long_by : Bool → Bool → Bool → ℕ
long_by d p t = if t then 19 else if p then 17 else if d then 16 else 15

-- what holds of each sort of version: without anything, with a user, with pairs too, with days too
by_sort : (Q : Bool → Bool → Bool → Type 0) → Q false false false → Q true false false → Q true true false → Q true true true
    → (version : ℕ) → Q (delivers version) (has_pairs version) (has_days version)
by_sort Q none user pairs days version = go (delivers version) (has_pairs version) (has_days version) (pairs_deliver version) (days_pairs version)
  where
    go : (d p t : Bool) → (p ≡ true → d ≡ true) → (t ≡ true → p ≡ true) → Q d p t
    go true true true f g = days
    go true true false f g = pairs
    go true false true f g = absurd (let z : ◌≡◌ {A = ℕ} 0 1 = cc (g refl) in omega arith)
    go true false false f g = user
    go false true t f g = absurd (let z : ◌≡◌ {A = ℕ} 0 1 = cc (f refl) in omega arith)
    go false false true f g = absurd (let z : ◌≡◌ {A = ℕ} 0 1 = cc (g refl) in omega arith)
    go false false false f g = none

pub header_long : (h : Header) → length (header_bytes h) ≡ header_length h.version
unfolding header_bytes header_length bytes
header_long h =
    by_sort (λ d p t.
    length (65 ∷ 88 ∷ 80 ∷ (bytes 2 h.version ++ (h.subjects ∷ h.relations ∷ h.attributes ∷ h.nodes
    ∷ (bytes 2 h.grants ++ (bytes 4 h.steps ++ behind d p t h.user h.pairs h.day))))) ≡ long_by d p t) refl refl refl refl h.version

-- between fifteen and nineteen
pub header_least : (version : ℕ) → 15 ≤ header_length version
unfolding header_length
header_least = by_sort (λ d p t. 15 ≤ long_by d p t) (omega arith) (omega arith) (omega arith) (omega arith)

pub header_most : (version : ℕ) → header_length version ≤ 19
unfolding header_length
header_most = by_sort (λ d p t. long_by d p t ≤ 19) (omega arith) (omega arith) (omega arith) (omega arith)

-- between twenty-eight and thirty
pub node_least : (version : ℕ) → 28 ≤ node_length version
unfolding node_length
node_least version = go (has_pairs version)
  where
    go : (b : Bool) → 28 ≤ (if b then 30 else 28)
    go true = omega arith
    go false = omega arith

pub node_most : (version : ℕ) → node_length version ≤ 30
unfolding node_length
node_most version = go (has_pairs version)
  where
    go : (b : Bool) → (if b then 30 else 28) ≤ 30
    go true = omega arith
    go false = omega arith

-- read after write, whatever stands behind the header
behind_back : (v w u q y : ℕ) (rest : List ℕ) → w ≡ v → y < 2 ^ 16
    → ((if delivers w then get_or (behind (delivers v) (has_pairs v) (has_days v) u q y ++ rest) 0 0 else 0) ≡ (if delivers v then u else 0))
    × ((if has_pairs w then get_or (behind (delivers v) (has_pairs v) (has_days v) u q y ++ rest) 1 0 else 0) ≡ (if has_pairs v then q else 0))
    × ((if has_days w then be (behind (delivers v) (has_pairs v) (has_days v) u q y ++ rest) 2 2 else 0) ≡ (if has_days v then y else 0))
unfolding be bytes
behind_back v w u q y rest e small =
    rw e (by_sort (λ d p t.
    ((if d then get_or (behind d p t u q y ++ rest) 0 0 else 0) ≡ (if d then u else 0))
    × ((if p then get_or (behind d p t u q y ++ rest) 1 0 else 0) ≡ (if p then q else 0))
    × ((if t then be (behind d p t u q y ++ rest) 2 2 else 0) ≡ (if t then y else 0)))
    (refl, refl, refl) (refl, refl, refl) (refl, refl, refl) (refl, refl, be_bytes 2 y small) v)

pub header_back : (h : Header) (rest : List ℕ) → h.version < 2 ^ 16 → h.grants < 2 ^ 16 → h.steps < 2 ^ 32 → h.day < 2 ^ 16
    → header_of (header_bytes h ++ rest) ≡ as_read h
unfolding be bytes header_of header_bytes as_read pairs_in
header_back h rest version grants steps day =
    let its-version = be_bytes 2 h.version version in
    let its-last = behind_back h.version (be (bytes 2 h.version) 0 2) h.user h.pairs h.day rest its-version day in
    λ i. record {
      version = its-version i;
      subjects = h.subjects;
      relations = h.relations;
      attributes = h.attributes;
      nodes = h.nodes;
      grants = be_bytes 2 h.grants grants i;
      steps = be_bytes 4 h.steps steps i;
      user = its-last.0 i;
      pairs = its-last.1 i;
      day = its-last.2 i;
    }

-- of a record alone
pub relation_back : (v : Relation) → v.set < 2 ^ 64 → relation_at (relation_bytes v) 0 ≡ v
unfolding be bytes relation_at relation_bytes
relation_back v set = λ i. record { owner = v.owner; set = be_bytes 8 v.set set i }

dated_back : (b : Bool) (first last : ℕ) → first < 2 ^ 16 → last < 2 ^ 16
    → ((if b then be (dated b first last) 0 2 else 0) ≡ (if b then first else 0)) × ((if b then be (dated b first last) 2 2 else 65535) ≡ (if b then last else 65535))
unfolding be bytes
dated_back true first last l k = (be_bytes 2 first l, be_bytes 2 last k)
dated_back false first last l k = (refl, refl)

pub grant_back : (version : ℕ) (v : Grant) → v.clear < 2 ^ 64 → v.sealed < 2 ^ 64 → v.first < 2 ^ 16 → v.last < 2 ^ 16
    → grant_at version (grant_bytes version v) 0 ≡ grant_as_read version v
unfolding be bytes grant_at grant_bytes grant_as_read
grant_back version v clear sealed first last =
    let days = dated_back (has_days version) v.first v.last first last in
    λ i. record {
      relation = v.relation;
      subject = v.subject;
      first = days.0 i;
      last = days.1 i;
      clear = be_bytes 8 v.clear clear i;
      sealed = be_bytes 8 v.sealed sealed i;
    }

named_back : (b : Bool) (first count : ℕ)
    → ((if b then get_or (named b first count) 0 0 else 0) ≡ (if b then first else 0)) × ((if b then get_or (named b first count) 1 0 else 0) ≡ (if b then count else 0))
named_back true first count = (refl, refl)
named_back false first count = (refl, refl)

pub node_back : (version : ℕ) (v : Node) → v.set < 2 ^ 64 → v.needed < 2 ^ 64 → v.size < 2 ^ 32 → node_at version (node_bytes version v) 0 ≡ node_as_read version v
unfolding be bytes node_at node_bytes node_as_read
node_back version v set needed size =
    let names = named_back (has_pairs version) v.first v.count in
    λ i. record {
      kind = v.kind;
      left = v.left;
      right = v.right;
      x = v.x;
      y = v.y;
      spare1 = v.spare1;
      spare2 = v.spare2;
      spare3 = v.spare3;
      set = be_bytes 8 v.set set i;
      needed = be_bytes 8 v.needed needed i;
      size = be_bytes 4 v.size size i;
      first = names.0 i;
      count = names.1 i;
    }

-- write after read: of a list of bytes that has the whole record
module _ (s : List ℕ) (all : (k : ℕ) → get_or s k 0 < 256) (at : ℕ) where
  -- a single byte, and a number, k past the record's start
  one : (k n : ℕ) → at + k < length s → take (suc n) (drop (at + k) s) ≡ get_or s (at + k) 0 ∷ take n (drop (at + suc k) s)
  one k n l = part_one 0 s at k n l

  number : (k n m : ℕ) → at + (k + n) ≤ length s → take (n + m) (drop (at + k) s) ≡ bytes n (be s (at + k) n) ++ take m (drop (at + (k + n)) s)
  number k n m l = part_more 0 s at k n m ∙ ap (λ (xs : List ℕ). xs ++ take m (drop (at + (k + n)) s)) (sym (bytes_be s all (at + k) n (omega arith)))

  last : (k n : ℕ) → at + (k + n) ≤ length s → take n (drop (at + k) s) ≡ bytes n (be s (at + k) n)
  last k n l = sym (bytes_be s all (at + k) n (omega arith))

  begins : (n : ℕ) → at < length s → take (suc n) (drop at s) ≡ get_or s at 0 ∷ take n (drop (at + 1) s)
  begins n l = rw (add-zero at) at (one 0 n (rw (add-zero at) l))

  pub relation_again : at + 9 ≤ length s → relation_bytes (relation_at s at) ≡ take 9 (drop at s)
  unfolding relation_at relation_bytes
  relation_again l = rw (begins 8 (omega arith), last 1 8 (omega arith)) refl

  -- a grant, and n bytes behind its sets
  grant_start : (n : ℕ) → at + 18 ≤ length s
      → take (suc (suc (8 + (8 + n)))) (drop at s)
      ≡ get_or s at 0 ∷ get_or s (at + 1) 0 ∷ (bytes 8 (be s (at + 2) 8) ++ (bytes 8 (be s (at + 10) 8) ++ take n (drop (at + 18) s)))
  grant_start n l =
      rw (begins (suc (8 + (8 + n))) (omega arith), one 1 (8 + (8 + n)) (omega arith), number 2 8 (8 + n) (omega arith), number 10 8 n (omega arith)) refl

  pub grant_again : (version : ℕ) → at + grant_length version ≤ length s → grant_bytes version (grant_at version s at) ≡ take (grant_length version) (drop at s)
  unfolding grant_at grant_bytes grant_length
  grant_again version l = go (has_days version) l
    where
      go : (b : Bool) → at + (if b then 22 else 18) ≤ length s
          → get_or s at 0 ∷ get_or s (at + 1) 0 ∷ (bytes 8 (be s (at + 2) 8) ++ (bytes 8 (be s (at + 10) 8)
          ++ dated b (if b then be s (at + 18) 2 else 0) (if b then be s (at + 20) 2 else 65535)))
          ≡ take (if b then 22 else 18) (drop at s)
      go true l = rw (← last 20 2 (omega arith), ← number 18 2 2 (omega arith)) (sym (grant_start 4 (omega arith)))
      go false l = sym (grant_start 0 l)

  -- a node, and n bytes behind its size
  node-start : (n : ℕ) → at + 28 ≤ length s
      → take (suc (suc (suc (suc (suc (suc (suc (suc (8 + (8 + (4 + n))))))))))) (drop at s)
      ≡ get_or s at 0 ∷ get_or s (at + 1) 0 ∷ get_or s (at + 2) 0 ∷ get_or s (at + 3) 0 ∷ get_or s (at + 4) 0 ∷ get_or s (at + 5) 0 ∷ get_or s (at + 6) 0 ∷ get_or s (at + 7) 0
      ∷ (bytes 8 (be s (at + 8) 8) ++ (bytes 8 (be s (at + 16) 8) ++ (bytes 4 (be s (at + 24) 4) ++ take n (drop (at + 28) s))))
  node-start n l =
      let w = 8 + (8 + (4 + n)) in
      rw (
        begins (suc (suc (suc (suc (suc (suc (suc w))))))) (omega arith),
        one 1 (suc (suc (suc (suc (suc (suc w)))))) (omega arith),
        one 2 (suc (suc (suc (suc (suc w))))) (omega arith),
        one 3 (suc (suc (suc (suc w)))) (omega arith),
        one 4 (suc (suc (suc w))) (omega arith),
        one 5 (suc (suc w)) (omega arith),
        one 6 (suc w) (omega arith),
        one 7 w (omega arith),
        number 8 8 (8 + (4 + n)) (omega arith),
        number 16 8 (4 + n) (omega arith),
        number 24 4 n (omega arith),
      ) refl

  pub node_again : (version : ℕ) → at + node_length version ≤ length s → node_bytes version (node_at version s at) ≡ take (node_length version) (drop at s)
  unfolding node_at node_bytes node_length
  node_again version l = go (has_pairs version) l
    where
      go : (b : Bool) → at + (if b then 30 else 28) ≤ length s
          → get_or s at 0 ∷ get_or s (at + 1) 0 ∷ get_or s (at + 2) 0 ∷ get_or s (at + 3) 0 ∷ get_or s (at + 4) 0 ∷ get_or s (at + 5) 0 ∷ get_or s (at + 6) 0 ∷ get_or s (at + 7) 0
          ∷ (bytes 8 (be s (at + 8) 8) ++ (bytes 8 (be s (at + 16) 8) ++ (bytes 4 (be s (at + 24) 4)
          ++ named b (if b then get_or s (at + 28) 0 else 0) (if b then get_or s (at + 29) 0 else 0))))
          ≡ take (if b then 30 else 28) (drop at s)
      go true l = rw (← one 29 0 (omega arith), ← one 28 1 (omega arith)) (sym (node-start 2 (omega arith)))
      go false l = sym (node-start 0 l)

-- the header of a list of bytes that begins with the mark
pub header_again : (s : List ℕ) → ((k : ℕ) → get_or s k 0 < 256) → get_or s 0 0 ≡ 65 → get_or s 1 0 ≡ 88 → get_or s 2 0 ≡ 80
    → header_length (header_of s).version ≤ length s → header_bytes (header_of s) ≡ take (header_length (header_of s).version) s
unfolding header_of header_bytes header_length bytes
header_again s all first second third long =
    by_sort (λ d p t. long_by d p t ≤ length s
    → 65 ∷ 88 ∷ 80 ∷ (bytes 2 (be s 3 2) ++ (get_or s 5 0 ∷ get_or s 6 0 ∷ get_or s 7 0 ∷ get_or s 8 0
    ∷ (bytes 2 (be s 9 2) ++ (bytes 4 (be s 11 4) ++ behind d p t (if d then get_or s 15 0 else 0) (if p then get_or s 16 0 else 0) (if t then be s 17 2 else 0)))))
    ≡ take (long_by d p t) s)
    (λ l. sym (before 0 l))
    (λ l. sym (before 1 (omega arith) ∙ rw (one s all 0 15 0 (omega arith)) refl))
    (λ l. sym (before 2 (omega arith) ∙ rw (one s all 0 15 1 (omega arith), one s all 0 16 0 (omega arith)) refl))
    (λ l. sym (before 4 (omega arith) ∙ rw (one s all 0 15 3 (omega arith), one s all 0 16 2 (omega arith), last s all 0 17 2 (omega arith)) refl))
    (be s 3 2) long
  where
    -- what stands before user, pairs and day
    before : (n : ℕ) → 15 ≤ length s
        → take (15 + n) s
        ≡ 65 ∷ 88 ∷ 80 ∷ (bytes 2 (be s 3 2) ++ (get_or s 5 0 ∷ get_or s 6 0 ∷ get_or s 7 0 ∷ get_or s 8 0
        ∷ (bytes 2 (be s 9 2) ++ (bytes 4 (be s 11 4) ++ take n (drop 15 s)))))
    before n l =
        rw (
          take-add 15 n s,
          one s all 0 0 14 (omega arith),
          first,
          one s all 0 1 13 (omega arith),
          second,
          one s all 0 2 12 (omega arith),
          third,
          number s all 0 3 2 10 (omega arith),
          one s all 0 5 9 (omega arith),
          one s all 0 6 8 (omega arith),
          one s all 0 7 7 (omega arith),
          one s all 0 8 6 (omega arith),
          number s all 0 9 2 4 (omega arith),
          last s all 0 11 4 (omega arith),
        ) refl
