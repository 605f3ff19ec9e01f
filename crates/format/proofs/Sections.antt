-- What stands at each number of a section, and past it.
use Prim.Native.Nat.{ℕ, suc, ◌+◌, ◌*◌, ◌<◌, ◌≤◌}
use mathlib.Core.Path.{◌≡◌, refl, sym, ap, ◌∙◌}
use mathlib.Core.Bool.{Bool, true, false}
use mathlib.Core.List.{List, []}
use native.Mathlib.Nat.{mul-le-mul, suc-mul}
use native.Mathlib.Omega.{arith}
use lib.Dec.{ltb}
use lib.ListN.{get_or}
use borrow.Author.Tests.{ltb-true, ltb-false}
use Rattle.laws.specs.BigEndian.{be}
use Rattle.laws.specs.Upwards.{each}
use Rattle.laws.proofs.Upwards.{each_at, each_past}
use Rattle.night.specs.declared.Header.{Header}
use Rattle.night.specs.Versions.{header_length, grant_length, node_length}
use Rattle.night.specs.Night.{relation_of, grant_of, node_of, pair_of, step_price, link_price, no_relation, no_grant, no_node, no_pair}
use Rattle.format.specs.Layout.{grants_from, nodes_from, pairs_from, pairs_in, step_prices_from, link_prices_from, relation_at, grant_at, node_at, pair_at, prices_at, nth_price, night_in}

-- the product of two numbers below 256
pub product_lt : (a b : ℕ) → a < 256 → b < 256 → a * b < 65536
product_lt a b h k = omega (arith, mul-le-mul {n₁ = a} {m₁ = b} {n₂ = 255} {m₂ = 255} (omega arith) (omega arith))

-- a row and a column have a number below the count
pub cell_lt : (rows columns i p : ℕ) → i < rows → p < columns → i * columns + p < rows * columns
cell_lt rows columns i p l k = omega (arith, suc-mul i columns, mul-le-mul {n₁ = suc i} {m₁ = columns} {n₂ = rows} {m₂ = columns} l (omega arith))

-- a table of prices: at a row and a column, past the rows, past the columns
module _ (s : List ℕ) (at rows columns i p : ℕ) where
  abbrev price : ℕ → ℕ → ℕ
  price i p = be s (at + 4 * (i * columns + p)) 4

  row : i < rows → get_or (prices_at s at rows columns) i [] ≡ each columns (price i)
  unfolding prices_at
  row l = each_at (λ i. each columns (price i)) [] i rows l

  price_at : i < rows → p < columns → get_or (get_or (prices_at s at rows columns) i []) p 0 ≡ price i p
  unfolding prices_at
  price_at l k = rw (row l) (each_at (price i) 0 p columns k)

  price_past_rows : rows ≤ i → get_or (get_or (prices_at s at rows columns) i []) p 0 ≡ 0
  unfolding prices_at
  price_past_rows l = rw (each_past (λ i. each columns (price i)) [] i rows l) refl

  price_past_columns : columns ≤ p → get_or (get_or (prices_at s at rows columns) i []) p 0 ≡ 0
  unfolding prices_at
  price_past_columns k = go (ltb i rows) refl
    where
      go : (b : Bool) → ltb i rows ≡ b → get_or (get_or (prices_at s at rows columns) i []) p 0 ≡ 0
      go true e = rw (row (ltb-true i rows e)) (each_past (price i) 0 p columns k)
      go false e = price_past_rows (ltb-false i rows e)

-- a price by its number among all
module _ (s : List ℕ) (h : Header) (i : ℕ) where
  pub price-in : i < h.nodes * h.subjects + h.subjects * h.subjects → nth_price s h i ≡ be s (step_prices_from h + 4 * i) 4
  unfolding nth_price
  price-in l = each_at (λ k. be s (step_prices_from h + 4 * k) 4) 0 i (h.nodes * h.subjects + h.subjects * h.subjects) l

  pub price_past : h.nodes * h.subjects + h.subjects * h.subjects ≤ i → nth_price s h i ≡ 0
  unfolding nth_price
  price_past l = each_past (λ k. be s (step_prices_from h + 4 * k) 4) 0 i (h.nodes * h.subjects + h.subjects * h.subjects) l

module _ (s : List ℕ) (h : Header) (i : ℕ) where
  pub relation-at : i < h.relations → relation_of (night_in s h) i ≡ relation_at s (header_length h.version + 9 * i)
  unfolding relation_of night_in
  relation-at l = each_at (λ k. relation_at s (header_length h.version + 9 * k)) no_relation i h.relations l

  pub relation_past : h.relations ≤ i → relation_of (night_in s h) i ≡ no_relation
  unfolding relation_of night_in
  relation_past l = each_past (λ k. relation_at s (header_length h.version + 9 * k)) no_relation i h.relations l

  pub grant-at : i < h.grants → grant_of (night_in s h) i ≡ grant_at h.version s (grants_from h + grant_length h.version * i)
  unfolding grant_of night_in
  grant-at l = each_at (λ k. grant_at h.version s (grants_from h + grant_length h.version * k)) no_grant i h.grants l

  pub grant_past : h.grants ≤ i → grant_of (night_in s h) i ≡ no_grant
  unfolding grant_of night_in
  grant_past l = each_past (λ k. grant_at h.version s (grants_from h + grant_length h.version * k)) no_grant i h.grants l

  pub node-at : i < h.nodes → node_of (night_in s h) i ≡ node_at h.version s (nodes_from h + node_length h.version * i)
  unfolding node_of night_in
  node-at l = each_at (λ k. node_at h.version s (nodes_from h + node_length h.version * k)) no_node i h.nodes l

  pub node_past : h.nodes ≤ i → node_of (night_in s h) i ≡ no_node
  unfolding node_of night_in
  node_past l = each_past (λ k. node_at h.version s (nodes_from h + node_length h.version * k)) no_node i h.nodes l

  pub pair-at : i < pairs_in h → pair_of (night_in s h) i ≡ pair_at s (pairs_from h + 2 * i)
  unfolding pair_of night_in
  pair-at l = each_at (λ k. pair_at s (pairs_from h + 2 * k)) no_pair i (pairs_in h) l

  pub pair_past : pairs_in h ≤ i → pair_of (night_in s h) i ≡ no_pair
  unfolding pair_of night_in
  pair_past l = each_past (λ k. pair_at s (pairs_from h + 2 * k)) no_pair i (pairs_in h) l

  pub step_price_in : (p : ℕ) → i < h.nodes → p < h.subjects → step_price (night_in s h) i p ≡ nth_price s h (i * h.subjects + p)
  unfolding step_price night_in
  step_price_in p l k =
      price_at s (step_prices_from h) h.nodes h.subjects i p l k
      ∙ sym (price-in s h (i * h.subjects + p) (omega (arith, cell_lt h.nodes h.subjects i p l k)))

  pub step_price_past_nodes : (p : ℕ) → h.nodes ≤ i → step_price (night_in s h) i p ≡ 0
  unfolding step_price night_in
  step_price_past_nodes p = price_past_rows s (step_prices_from h) h.nodes h.subjects i p

  pub step_price_past_subjects : (p : ℕ) → h.subjects ≤ p → step_price (night_in s h) i p ≡ 0
  unfolding step_price night_in
  step_price_past_subjects p = price_past_columns s (step_prices_from h) h.nodes h.subjects i p

  pub link_price_in : (q : ℕ) → i < h.subjects → q < h.subjects → link_price (night_in s h) i q ≡ nth_price s h (h.nodes * h.subjects + (i * h.subjects + q))
  unfolding link_price night_in link_prices_from
  link_price_in q l k =
      let behind : link_prices_from h + 4 * (i * h.subjects + q) ≡ step_prices_from h + 4 * (h.nodes * h.subjects + (i * h.subjects + q)) = omega arith in
      price_at s (link_prices_from h) h.subjects h.subjects i q l k
      ∙ ap (λ (at : ℕ). be s at 4) behind
      ∙ sym (price-in s h (h.nodes * h.subjects + (i * h.subjects + q)) (omega (arith, cell_lt h.subjects h.subjects i q l k)))

  pub link_price_past_from : (q : ℕ) → h.subjects ≤ i → link_price (night_in s h) i q ≡ 0
  unfolding link_price night_in
  link_price_past_from q = price_past_rows s (link_prices_from h) h.subjects h.subjects i q

  pub link_price_past_to : (q : ℕ) → h.subjects ≤ q → link_price (night_in s h) i q ≡ 0
  unfolding link_price night_in
  link_price_past_to q = price_past_columns s (link_prices_from h) h.subjects h.subjects i q
