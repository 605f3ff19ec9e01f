-- The header and the records, part by part.
use Prim.Native.Nat.{ℕ, ◌+◌, ◌≤◌}
use mathlib.Core.Path.{◌≡◌, refl}
use mathlib.Core.Bool.{Bool, true, false}
use mathlib.Core.List.{List, [], ◌∷◌, ◌++◌}
use native.Mathlib.Omega.{arith}
use Rattle.std.specs.Prelude.{if◌then◌else◌}
use Rattle.laws.specs.BigEndian.{bytes}
use Rattle.laws.proofs.BigEndian.{bytes_length}
use Rattle.night.specs.declared.Header.{Header}
use Rattle.night.specs.declared.Grant.{Grant}
use Rattle.night.specs.declared.Node.{Node}
use Rattle.night.specs.Versions.{delivers, has_pairs, has_days, header_length, grant_length, node_length}
use Rattle.night.proofs.Kept.{pairs_deliver, days_pairs}
use Rattle.format.specs.Layout.{header_bytes, grant_bytes, node_start, node_bytes}
use Rattle.encoding.specs.Stored.{Stored}
use Rattle.encoding.proofs.Put.{put_then}

-- how long header, grant and node are in a version that has their last parts
pub user_long : (version : ℕ) → delivers version ≡ true → 16 ≤ header_length version
unfolding header_length
user_long version e = go (has_days version) (has_pairs version)
  where
    go : (d p : Bool) → 16 ≤ (if d then 19 else if p then 17 else if delivers version then 16 else 15)
    go true p = omega arith
    go false true = omega arith
    go false false = rw e (omega arith)

pub pairs_long : (version : ℕ) → has_pairs version ≡ true → 17 ≤ header_length version
unfolding header_length
pairs_long version e = go (has_days version)
  where
    go : (d : Bool) → 17 ≤ (if d then 19 else if has_pairs version then 17 else if delivers version then 16 else 15)
    go true = omega arith
    go false = rw e (omega arith)

pub day_long : (version : ℕ) → has_days version ≡ true → header_length version ≡ 19
unfolding header_length
day_long version e = rw e refl

pub days_long : (version : ℕ) → has_days version ≡ true → grant_length version ≡ 22
unfolding grant_length
days_long version e = rw e refl

pub names_long : (version : ℕ) → has_pairs version ≡ true → node_length version ≡ 30
unfolding node_length
names_long version e = rw e refl

-- the days of a grant
abbrev pub days_of : ℕ → Grant → List ℕ
days_of version v = if has_days version then bytes 2 v.first ++ bytes 2 v.last else []

pub days_put : (v : Grant) {s done after : List ℕ} (at : ℕ) → Stored s done (at + 18) (bytes 2 v.first) → Stored done after (at + 20) (bytes 2 v.last)
    → Stored s after (at + 18) (bytes 2 v.first ++ bytes 2 v.last)
days_put v at first last =
    let next : at + 20 ≡ at + 18 + 2 = omega arith in
    put_then 2 (bytes_length 2 v.first) first (rw next at last)

pub grant_put : (version : ℕ) (v : Grant) {s begun done more after : List ℕ} {at : ℕ}
    → Stored s begun at (v.relation ∷ v.subject ∷ [])
    → Stored begun done (at + 2) (bytes 8 v.clear)
    → Stored done more (at + 10) (bytes 8 v.sealed)
    → Stored more after (at + 18) (days_of version v)
    → Stored s after at (grant_bytes version v)
unfolding grant_bytes bytes
grant_put version v first clear_put sealed_put days = put_then 18 refl (put_then 10 refl (put_then 2 refl first clear_put) sealed_put) days

-- the pairs that a node names
abbrev pub names_of : ℕ → Node → List ℕ
names_of version v = if has_pairs version then v.first ∷ v.count ∷ [] else []

pub node_put : (version : ℕ) (v : Node) {s start done more sized after : List ℕ} {at : ℕ}
    → Stored s start at (node_start v)
    → Stored start done (at + 8) (bytes 8 v.set)
    → Stored done more (at + 16) (bytes 8 v.needed)
    → Stored more sized (at + 24) (bytes 4 v.size)
    → Stored sized after (at + 28) (names_of version v)
    → Stored s after at (node_bytes version v)
unfolding node_bytes bytes
node_put version v begun set_put needed_put size_put names_put =
    put_then 28 refl (put_then 24 refl (put_then 16 refl (put_then 8 refl begun set_put) needed_put) size_put) names_put

-- what a header has behind the steps: user, pairs and day, each in a version that has it
abbrev pub user_bytes : Header → List ℕ
user_bytes h = if delivers h.version then h.user ∷ [] else []

abbrev pub pairs_bytes : Header → List ℕ
pairs_bytes h = if has_pairs h.version then h.pairs ∷ [] else []

abbrev pub day_bytes : Header → List ℕ
day_bytes h = if has_days h.version then bytes 2 h.day else []

last_put : (h : Header) {s a b after : List ℕ} → Stored s a 15 (user_bytes h) → Stored a b 16 (pairs_bytes h) → Stored b after 17 (day_bytes h)
    → Stored s after 15 (user_bytes h ++ (pairs_bytes h ++ day_bytes h))
last_put h {s} {a} {b} {after} = go (has_days h.version) (has_pairs h.version) (delivers h.version) (days_pairs h.version) (pairs_deliver h.version)
  where
    go : (d p t : Bool) → (d ≡ true → p ≡ true) → (p ≡ true → t ≡ true)
        → Stored s a 15 (if t then h.user ∷ [] else []) → Stored a b 16 (if p then h.pairs ∷ [] else []) → Stored b after 17 (if d then bytes 2 h.day else [])
        → Stored s after 15 ((if t then h.user ∷ [] else []) ++ ((if p then h.pairs ∷ [] else []) ++ (if d then bytes 2 h.day else [])))
    go true true true f g x y z = put_then 1 refl x (put_then 1 refl y z)
    go false true true f g x y z = put_then 1 refl x (put_then 1 refl y z)
    go false false true f g x y z = put_then 1 refl x (put_then {ys = []} 0 refl y (record { all = z.all }))
    go false false false f g x y z =
        let y' : Stored a b 15 [] = record { all = y.all } in
        let z' : Stored b after 15 [] = record { all = z.all } in
        put_then {ys = []} 0 refl x (put_then {ys = []} 0 refl y' z')
    go true false t f g x y z = absurd (let e : false ≡ true = f refl in let w : ⊥ = cc in w)
    go d true false f g x y z = absurd (let e : false ≡ true = g refl in let w : ⊥ = cc in w)

pub header_put : (h : Header) {s marked versioned counted granted stepped with_user with_pairs after : List ℕ}
    → Stored s marked 0 (65 ∷ 88 ∷ 80 ∷ [])
    → Stored marked versioned 3 (bytes 2 h.version)
    → Stored versioned counted 5 (h.subjects ∷ h.relations ∷ h.attributes ∷ h.nodes ∷ [])
    → Stored counted granted 9 (bytes 2 h.grants)
    → Stored granted stepped 11 (bytes 4 h.steps)
    → Stored stepped with_user 15 (user_bytes h)
    → Stored with_user with_pairs 16 (pairs_bytes h)
    → Stored with_pairs after 17 (day_bytes h)
    → Stored s after 0 (header_bytes h)
unfolding header_bytes bytes
header_put h mark version counts grants steps user pairs day =
    put_then 15 refl (put_then 11 refl (put_then 9 refl (put_then 5 refl (put_then 3 refl mark version) counts) grants) steps) (last_put h user pairs day)
