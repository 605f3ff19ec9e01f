-- What is read is the definition's where each of its parts is.
use Prim.Native.Nat.{ℕ, ◌+◌, ◌*◌, ◌<◌, ◌≤◌}
use native.Mathlib.Nat.{add-zero}
use native.Mathlib.Omega.{arith}
use mathlib.Core.Path.{◌≡◌, refl, ◌∙◌, ap, sym}
use mathlib.Core.Bool.{Bool, true, false}
use mathlib.Core.List.{List}
use lib.ListN.{get_or}
use Rattle.laws.specs.BigEndian.{be}
use Rattle.std.specs.Prelude.{if◌then◌else◌}
use Rattle.night.specs.declared.Header.{Header}
use Rattle.night.specs.declared.Relation.{Relation}
use Rattle.night.specs.declared.Grant.{Grant}
use Rattle.night.specs.declared.Node.{Node}
use Rattle.night.specs.declared.Pair.{Pair}
use Rattle.night.specs.Versions.{delivers, has_pairs, has_days, header_length, grant_length, node_length}
use Rattle.night.specs.Night.{relation_of, grant_of, node_of, pair_of, step_price, link_price}
use Rattle.format.specs.Layout.{grants_from, nodes_from, pairs_from, pairs_in, step_prices_from, header_of, relation_at, grant_at, node_at, pair_at, nth_price, night_in}
use Rattle.laws.proofs.BigEndian.{be_copied}
use Rattle.format.proofs.Sections.{relation-at, grant-at, node-at, pair-at, price-in, step_price_in, link_price_in}

pub header_made : {v p r a n g m u q d : ℕ} (s : List ℕ)
    → v ≡ be s 3 2
    → p ≡ get_or s 5 0
    → r ≡ get_or s 6 0
    → a ≡ get_or s 7 0
    → n ≡ get_or s 8 0
    → g ≡ be s 9 2
    → m ≡ be s 11 4
    → u ≡ (if delivers v then get_or s 15 0 else 0)
    → q ≡ (if has_pairs v then get_or s 16 0 else 0)
    → d ≡ (if has_days v then be s 17 2 else 0)
    → ◌≡◌ {A = Header} (record { version = v; subjects = p; relations = r; attributes = a; nodes = n; grants = g; steps = m; user = u; pairs = q; day = d }) (header_of s)
unfolding header_of
header_made s version subjects relations attributes nodes grants steps user pairs day =
    let there = user ∙ ap (λ (n : ℕ). if delivers n then get_or s 15 0 else 0) version in
    let its_day = day ∙ ap (λ (n : ℕ). if has_days n then be s 17 2 else 0) version in
    let many = pairs ∙ ap (λ (n : ℕ). if has_pairs n then get_or s 16 0 else 0) version in
    λ i. record {
      version = version i;
      subjects = subjects i;
      relations = relations i;
      attributes = attributes i;
      nodes = nodes i;
      grants = grants i;
      steps = steps i;
      user = there i;
      pairs = many i;
      day = its_day i;
    }

-- a grant at its place with these numbers, each of which is read by a call
pub grant_made : {u v f l : ℕ} {b : Bool} (version : ℕ) (s : List ℕ) (at : ℕ)
    → b ≡ has_days version
    → f ≡ (if b then be s (at + 18) 2 else 0)
    → l ≡ (if b then be s (at + 20) 2 else 65535)
    → u ≡ be s (at + 2) 8
    → v ≡ be s (at + 10) 8
    → ◌≡◌ {A = Grant} (record { relation = get_or s at 0; subject = get_or s (at + 1) 0; first = f; last = l; clear = u; sealed = v }) (grant_at version s at)
unfolding grant_at
grant_made version s at dated first last clear sealed =
    let its_first = first ∙ ap (λ (b : Bool). if b then be s (at + 18) 2 else 0) dated in
    let its-last = last ∙ ap (λ (b : Bool). if b then be s (at + 20) 2 else 65535) dated in
    λ i. record { relation = get_or s at 0; subject = get_or s (at + 1) 0; first = its_first i; last = its-last i; clear = clear i; sealed = sealed i }

-- a node at its place with these numbers, each of which is read by a call
abbrev node_with : List ℕ → ℕ → ℕ → ℕ → ℕ → ℕ → ℕ → Node
node_with s at set needed size first count =
    record {
      kind = get_or s at 0;
      left = get_or s (at + 1) 0;
      right = get_or s (at + 2) 0;
      x = get_or s (at + 3) 0;
      y = get_or s (at + 4) 0;
      spare1 = get_or s (at + 5) 0;
      spare2 = get_or s (at + 6) 0;
      spare3 = get_or s (at + 7) 0;
      set = set;
      needed = needed;
      size = size;
      first = first;
      count = count;
    }

pub node_made : {u v w f c : ℕ} {b : Bool} (version : ℕ) (s : List ℕ) (at : ℕ)
    → b ≡ has_pairs version
    → u ≡ be s (at + 8) 8
    → v ≡ be s (at + 16) 8
    → w ≡ be s (at + 24) 4
    → f ≡ (if b then get_or s (at + 28) 0 else 0)
    → c ≡ (if b then get_or s (at + 29) 0 else 0)
    → node_with s at u v w f c ≡ node_at version s at
unfolding node_at
node_made version s at paired set needed size first count =
    let its_first = first ∙ ap (λ (b : Bool). if b then get_or s (at + 28) 0 else 0) paired in
    let its-count = count ∙ ap (λ (b : Bool). if b then get_or s (at + 29) 0 else 0) paired in
    λ i. node_with s at (set i) (needed i) (size i) (its_first i) (its-count i)

-- a record read out of p, a copy of w bytes of s from `at` on, as many as it has or more
module _ (w : ℕ) (s : List ℕ) (at : ℕ) (p : List ℕ) (copied : (k : ℕ) → k < w → get_or p k 0 ≡ get_or s (at + k) 0) where
  first : 0 < w → get_or p 0 0 ≡ get_or s at 0
  first l = rw (add-zero at) at (copied 0 l)

  number : (i n : ℕ) → i + n ≤ w → be p i n ≡ be s (at + i) n
  number = be_copied s at p copied

  pub relation_copied : 9 ≤ w → relation_at p 0 ≡ relation_at s at
  unfolding relation_at
  relation_copied l = cc (first (omega arith), number 1 8 (omega arith))

  -- the days of a grant, where its version has them
  days_copied : (b : Bool) → (if b then 22 else 18) ≤ w
      → (18 ≤ w)
      × ((if b then be p 18 2 else 0) ≡ (if b then be s (at + 18) 2 else 0))
      × ((if b then be p 20 2 else 65535) ≡ (if b then be s (at + 20) 2 else 65535))
  days_copied true l = (omega arith, number 18 2 (omega arith), number 20 2 (omega arith))
  days_copied false l = (l, refl, refl)

  pub grant_copied : (version : ℕ) → grant_length version ≤ w → grant_at version p 0 ≡ grant_at version s at
  unfolding grant_at grant_length
  grant_copied version l =
      let days = days_copied (has_days version) l in
      let long = days.0 in
      cc (first (omega arith), copied 1 (omega arith), number 2 8 (omega arith), number 10 8 (omega arith), days.1, days.2)

  -- the pairs that a node names, where its version has them
  names_copied : (b : Bool) → (if b then 30 else 28) ≤ w
      → (28 ≤ w)
      × ((if b then get_or p 28 0 else 0) ≡ (if b then get_or s (at + 28) 0 else 0))
      × ((if b then get_or p 29 0 else 0) ≡ (if b then get_or s (at + 29) 0 else 0))
  names_copied true l = (omega arith, copied 28 (omega arith), copied 29 (omega arith))
  names_copied false l = (l, refl, refl)

  pub node_copied : (version : ℕ) → node_length version ≤ w → node_at version p 0 ≡ node_at version s at
  unfolding node_at node_length
  node_copied version l =
      let names = names_copied (has_pairs version) l in
      let long = names.0 in
      cc (
        first (omega arith),
        copied 1 (omega arith),
        copied 2 (omega arith),
        copied 3 (omega arith),
        copied 4 (omega arith),
        copied 5 (omega arith),
        copied 6 (omega arith),
        copied 7 (omega arith),
        number 8 8 (omega arith),
        number 16 8 (omega arith),
        number 24 4 (omega arith),
        names.1,
        names.2,
      )

-- at a number of its section
module _ (s : List ℕ) (h : Header) (i : ℕ) where
  pub relation_read : {from : ℕ} {v : Relation}
      → i < h.relations
      → from ≡ header_length h.version
      → v ≡ relation_at s (from + 9 * i)
      → v ≡ relation_of (night_in s h) i
  relation_read l from there = there ∙ ap (λ (g : ℕ). relation_at s (g + 9 * i)) from ∙ sym (relation-at s h i l)

  pub grant_read : {from long : ℕ} {v : Grant} → i < h.grants → from ≡ grants_from h → long ≡ grant_length h.version * i → v ≡ grant_at h.version s (from + long) → v ≡ grant_of (night_in s h) i
  grant_read l from long there = there ∙ (λ j. grant_at h.version s (from j + long j)) ∙ sym (grant-at s h i l)

  pub node_read : {from long : ℕ} {v : Node} → i < h.nodes → from ≡ nodes_from h → long ≡ node_length h.version * i → v ≡ node_at h.version s (from + long) → v ≡ node_of (night_in s h) i
  node_read l from long there = there ∙ (λ j. node_at h.version s (from j + long j)) ∙ sym (node-at s h i l)

  pub pair_read : {from : ℕ} {v : Pair} → i < pairs_in h → from ≡ pairs_from h → v ≡ pair_at s (from + 2 * i) → v ≡ pair_of (night_in s h) i
  pair_read l from there = there ∙ ap (λ (g : ℕ). pair_at s (g + 2 * i)) from ∙ sym (pair-at s h i l)

  pub price_read : {from v : ℕ}
      → i < h.nodes * h.subjects + h.subjects * h.subjects
      → from ≡ step_prices_from h
      → v ≡ be s (from + 4 * i) 4
      → v ≡ nth_price s h i
  price_read l from there = there ∙ ap (λ (g : ℕ). be s (g + 4 * i) 4) from ∙ sym (price-in s h i l)

  pub step_price_read : {cell v : ℕ} (p : ℕ)
      → i < h.nodes
      → p < h.subjects
      → cell ≡ i * h.subjects + p
      → v ≡ nth_price s h cell
      → v ≡ step_price (night_in s h) i p
  step_price_read p l k cell there = there ∙ ap (nth_price s h) cell ∙ sym (step_price_in s h i p l k)

  pub link_price_read : {before cell v : ℕ} (q : ℕ)
      → i < h.subjects
      → q < h.subjects
      → before ≡ h.nodes * h.subjects
      → cell ≡ i * h.subjects + q
      → v ≡ nth_price s h (before + cell)
      → v ≡ link_price (night_in s h) i q
  link_price_read q l k before cell there = there ∙ (λ j. nth_price s h (before j + cell j)) ∙ sym (link_price_in s h i q l k)
