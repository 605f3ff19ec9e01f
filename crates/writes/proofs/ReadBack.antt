-- The file of values is read back as their night.
use Prim.Native.Nat.{ℕ, ◌+◌, ◌*◌, ◌<◌, ◌^◌}
use mathlib.Core.Path.{◌≡◌, refl, sym, ap, ◌∙◌}
use mathlib.Core.Bool.{Bool, true, false}
use mathlib.Core.List.{List, [], ◌++◌, append_assoc, append-nil, map-id}
use native.Mathlib.Nat.{add-zero, add_assoc}
use native.Mathlib.Omega.{arith}
use lib.ListN.{length, length-append, get_or}
use Rattle.laws.specs.BigEndian.{be, bytes}
use Rattle.std.specs.Prelude.{if◌then◌else◌}
use Rattle.laws.specs.InOrder.{in_order}
use Rattle.laws.specs.Upwards.{each}
use Rattle.laws.proofs.BigEndian.{bytes_length, be_bytes, be_copied}
use Rattle.laws.proofs.InOrder.{in_order_length}
use Rattle.laws.proofs.Upwards.{each_same, each_self}
use Rattle.night.specs.declared.Header.{Header}
use Rattle.night.specs.declared.Relation.{Relation}
use Rattle.night.specs.declared.Grant.{Grant}
use Rattle.night.specs.declared.Node.{Node}
use Rattle.night.specs.Versions.{has_pairs, header_length, node_length, grant_length}
use Rattle.night.specs.Night.{no_relation, no_grant, no_node}
use Rattle.format.specs.Layout.{grants_from, nodes_from, pairs_from, pairs_in, step_prices_from, link_prices_from, file_length, header_of, as_read, header_bytes, relation_at, relation_bytes, grant_at, grant_bytes, grant_as_read, node_at, node_bytes, node_as_read, pair_at, prices_at, night_in}
use Rattle.format.proofs.Read.{relation_copied, grant_copied, node_copied}
use Rattle.format.proofs.Sections.{cell_lt}
use Rattle.format.proofs.Written.{header_long, relation_long, grant_long, node_long, header_back, relation_back, grant_back, node_back}
use Rattle.writes.specs.Values.{Values, rows_of, night_from, file_bytes, bytes_from, prices_from, values_of, read_as}
use Rattle.writes.specs.Back.{RelationFits, GrantFits, NodeFits, ValuesFit, ReadsBack, ValuesBack}
use Rattle.writes.proofs.Counted.{Counted, counted_of}
use Rattle.writes.proofs.Sections.{entry_back, section_back, byte_back}

-- each kind of record, from a list that has its bytes at a place
module _ (s : List ℕ) (at : ℕ) where
  relation_from : (v : Relation) → RelationFits v → ((k : ℕ) → k < 9 → get_or (relation_bytes v) k 0 ≡ get_or s (at + k) 0) → relation_at s at ≡ v
  relation_from v fits copied = sym (relation_copied 9 s at (relation_bytes v) copied (omega arith)) ∙ relation_back v fits

  grant_from : (version : ℕ) (v : Grant) → GrantFits v → ((k : ℕ) → k < grant_length version → get_or (grant_bytes version v) k 0 ≡ get_or s (at + k) 0) → grant_at version s at ≡ grant_as_read version v
  grant_from version v fits copied =
      sym (grant_copied (grant_length version) s at (grant_bytes version v) copied version (omega arith)) ∙ grant_back version v fits.0 fits.1 fits.2 fits.3

  node_from : (version : ℕ) (v : Node) → NodeFits v → ((k : ℕ) → k < node_length version → get_or (node_bytes version v) k 0 ≡ get_or s (at + k) 0) → node_at version s at ≡ node_as_read version v
  node_from version v fits copied = sym (node_copied (node_length version) s at (node_bytes version v) copied version (omega arith)) ∙ node_back version v fits.0 fits.1 fits.2

  price_from : (v : ℕ) → v < 2 ^ 32 → ((k : ℕ) → k < 4 → get_or (bytes 4 v) k 0 ≡ get_or s (at + k) 0) → be s at 4 ≡ v
  price_from v fits copied = sym (rw (add-zero at) at (be_copied s at (bytes 4 v) copied 0 4 (omega arith))) ∙ be_bytes 4 v fits

-- a table of prices that was written row after row
module _ (before : List ℕ) (prices after s : List ℕ) (at rows columns : ℕ) (there : s ≡ before ++ (in_order (bytes 4) prices ++ after)) (long : length before ≡ at)
    (fits : (k : ℕ) → get_or prices k 0 < 2 ^ 32) (many : length prices ≡ rows * columns) where
  prices_back : prices_at s at rows columns ≡ rows_of prices rows columns
  unfolding prices_at rows_of
  prices_back =
      each_same (λ i. each columns (λ p. be s (at + 4 * (i * columns + p)) 4)) (λ i. each columns (λ p. get_or prices (i * columns + p) 0)) rows
      (λ i l. each_same (λ p. be s (at + 4 * (i * columns + p)) 4) (λ p. get_or prices (i * columns + p) 0) columns
      (λ p q. entry_back (bytes 4) 4 (bytes_length 4) 0 (λ s at. be s at 4) (λ v. v) (λ v. v < 2 ^ 32) price_from before prices after s at there long fits (i * columns + p) (rw many (cell_lt rows columns i p l q))))

-- pairs that stand in it as they are
module _ (before pairs after s : List ℕ) (at n : ℕ) (there : s ≡ before ++ (pairs ++ after)) (long : length before ≡ at) (many : length pairs ≡ 2 * n) where
  pairs_back : each n (λ i. pair_at s (at + 2 * i)) ≡ each n (λ i. pair_at pairs (2 * i))
  unfolding pair_at
  pairs_back = each_same (λ i. pair_at s (at + 2 * i)) (λ i. pair_at pairs (2 * i)) n one
    where
      one : (i : ℕ) → i < n → pair_at s (at + 2 * i) ≡ pair_at pairs (2 * i)
      one i l =
          let left = byte_back before pairs after there long (2 * i) (omega arith) in
          let right : get_or s (at + 2 * i + 1) 0 ≡ get_or pairs (2 * i + 1) 0 = rw (add_assoc at (2 * i) 1) (byte_back before pairs after there long (2 * i + 1) (omega arith)) in
          λ k. record { left = left k; right = right k }

  bytes_back : bytes_from s at (2 * n) ≡ pairs
  bytes_back = each_same (λ k. get_or s (at + k) 0) (λ k. get_or pairs k 0) (2 * n) (λ k l. byte_back before pairs after there long k (omega arith)) ∙ rw (← many) (each_self pairs 0)

-- a header as it is read counts the pairs that are there
pub pairs_alike : (h : Header) → pairs_in (as_read h) ≡ pairs_in h
unfolding pairs_in as_read
pairs_alike h = go (has_pairs h.version)
  where
    go : (b : Bool) → (if b then (if b then h.pairs else 0) else 0) ≡ (if b then h.pairs else 0)
    go true = refl
    go false = refl

-- so its sections stand where they stood
pub steps_alike : (h : Header) → step_prices_from (as_read h) ≡ step_prices_from h
unfolding grants_from nodes_from pairs_from step_prices_from as_read
steps_alike h = ap (λ (n : ℕ). pairs_from h + 2 * n) (pairs_alike h)

pub links_alike : (h : Header) → link_prices_from (as_read h) ≡ link_prices_from h
unfolding link_prices_from as_read
links_alike h = ap (λ (n : ℕ). n + 4 * (h.nodes * h.subjects)) (steps_alike h)

pub length_alike : (h : Header) → file_length (as_read h) ≡ file_length h
unfolding file_length as_read
length_alike h = ap (λ (n : ℕ). n + 4 * (h.subjects * h.subjects)) (links_alike h)

-- the sections of the file, and what stands before each
module _ (vs : Values) where
  abbrev H : List ℕ
  H = header_bytes vs.header

  abbrev R : List ℕ
  R = in_order relation_bytes vs.relations

  abbrev G : List ℕ
  G = in_order (grant_bytes vs.header.version) vs.grants

  abbrev N : List ℕ
  N = in_order (node_bytes vs.header.version) vs.nodes

  abbrev P : List ℕ
  P = vs.pairs

  abbrev S : List ℕ
  S = in_order (bytes 4) vs.step_prices

  abbrev L : List ℕ
  L = in_order (bytes 4) vs.link_prices

  first_there : file_bytes vs ≡ H ++ (R ++ (G ++ (N ++ (P ++ (S ++ L)))))
  unfolding file_bytes
  first_there = refl

  second_there : file_bytes vs ≡ (H ++ R) ++ (G ++ (N ++ (P ++ (S ++ L))))
  second_there = first_there ∙ sym (append_assoc H R (G ++ (N ++ (P ++ (S ++ L)))))

  third_there : file_bytes vs ≡ ((H ++ R) ++ G) ++ (N ++ (P ++ (S ++ L)))
  third_there = second_there ∙ sym (append_assoc (H ++ R) G (N ++ (P ++ (S ++ L))))

  fourth_there : file_bytes vs ≡ (((H ++ R) ++ G) ++ N) ++ (P ++ (S ++ L))
  fourth_there = third_there ∙ sym (append_assoc ((H ++ R) ++ G) N (P ++ (S ++ L)))

  fifth_there : file_bytes vs ≡ ((((H ++ R) ++ G) ++ N) ++ P) ++ (S ++ L)
  fifth_there = fourth_there ∙ sym (append_assoc (((H ++ R) ++ G) ++ N) P (S ++ L))

  last_there : file_bytes vs ≡ (((((H ++ R) ++ G) ++ N) ++ P) ++ S) ++ (L ++ [])
  last_there =
      fifth_there ∙ sym (append_assoc ((((H ++ R) ++ G) ++ N) ++ P) S L) ∙ ap (λ (xs : List ℕ). (((((H ++ R) ++ G) ++ N) ++ P) ++ S) ++ xs) (sym (append-nil L))

  module _ (n : Counted vs) where
    second_at : length (H ++ R) ≡ grants_from vs.header
    unfolding grants_from
    second_at = rw (length-append, header_long vs.header, in_order_length relation_bytes 9 relation_long vs.relations, n.relations) refl

    third_at : length ((H ++ R) ++ G) ≡ nodes_from vs.header
    unfolding nodes_from
    third_at =
        let version = vs.header.version in
        rw (length-append (H ++ R) G, second_at, in_order_length (grant_bytes version) (grant_length version) (grant_long version) vs.grants, n.grants) refl

    fourth_at : length (((H ++ R) ++ G) ++ N) ≡ pairs_from vs.header
    unfolding pairs_from
    fourth_at =
        let version = vs.header.version in
        rw (length-append ((H ++ R) ++ G) N, third_at, in_order_length (node_bytes version) (node_length version) (node_long version) vs.nodes, n.nodes) refl

    fifth_at : length ((((H ++ R) ++ G) ++ N) ++ P) ≡ step_prices_from vs.header
    unfolding step_prices_from
    fifth_at = rw (length-append (((H ++ R) ++ G) ++ N) P, fourth_at, n.pairs) refl

    last_at : length (((((H ++ R) ++ G) ++ N) ++ P) ++ S) ≡ link_prices_from vs.header
    unfolding link_prices_from
    last_at = rw (length-append ((((H ++ R) ++ G) ++ N) ++ P) S, fifth_at, in_order_length (bytes 4) 4 (bytes_length 4) vs.step_prices, n.steps) refl

    -- the night that the bytes hold, where the header is the one that was written
    night_back : ValuesFit vs → night_in (file_bytes vs) (as_read vs.header) ≡ night_from vs
    unfolding night_in night_from as_read grants_from nodes_from pairs_from
    night_back fits =
        let h = vs.header in
        let s = file_bytes vs in
        let version = h.version in
        let relations =
        section_back relation_bytes 9 relation_long no_relation relation_at (λ v. v) RelationFits relation_from H vs.relations (G ++ (N ++ (P ++ (S ++ L)))) s (header_length version) first_there
        (header_long h) fits.relation h.relations n.relations ∙ map-id vs.relations
        in
        let grants =
        section_back (grant_bytes version) (grant_length version) (grant_long version) no_grant (grant_at version) (grant_as_read version) GrantFits (λ s at. grant_from s at version) (H ++ R) vs.grants (N ++ (P ++ (S ++ L))) s (grants_from h) second_there second_at fits.grant
        h.grants n.grants
        in
        let nodes =
        section_back (node_bytes version) (node_length version) (node_long version) no_node (node_at version) (node_as_read version) NodeFits (λ s at. node_from s at version)
        ((H ++ R) ++ G) vs.nodes (P ++ (S ++ L)) s (nodes_from h) third_there third_at fits.node h.nodes n.nodes
        in
        let pairs : each (pairs_in (as_read h)) (λ i. pair_at s (pairs_from h + 2 * i)) ≡ each (pairs_in h) (λ i. pair_at P (2 * i)) =
        rw (pairs_alike h) (pairs_back (((H ++ R) ++ G) ++ N) P (S ++ L) s (pairs_from h) (pairs_in h) fourth_there fourth_at n.pairs)
        in
        let steps : prices_at s (step_prices_from (as_read h)) h.nodes h.subjects ≡ rows_of vs.step_prices h.nodes h.subjects =
        rw (steps_alike h) (prices_back ((((H ++ R) ++ G) ++ N) ++ P) vs.step_prices L s (step_prices_from h) h.nodes h.subjects fifth_there fifth_at fits.step-price n.steps)
        in
        let links : prices_at s (link_prices_from (as_read h)) h.subjects h.subjects ≡ rows_of vs.link_prices h.subjects h.subjects =
        rw (links_alike h)
        (prices_back (((((H ++ R) ++ G) ++ N) ++ P) ++ S) vs.link_prices [] s (link_prices_from h) h.subjects h.subjects last_there last_at fits.link-price n.links)
        in
        λ i. record { header = as_read h; relations = relations i; grants = grants i; nodes = nodes i; pairs = pairs i; step_prices = steps i; link_prices = links i }

  pub header_read : ValuesFit vs → header_of (file_bytes vs) ≡ as_read vs.header
  header_read fits = rw first_there (header_back vs.header (R ++ (G ++ (N ++ (P ++ (S ++ L))))) fits.header.version fits.header.grants fits.header.steps fits.header.day)

pub reads_back : ReadsBack
reads_back vs fits fine = ap (night_in (file_bytes vs)) (header_read vs fits) ∙ night_back vs (counted_of vs fine) fits

-- the values themselves
module _ (vs : Values) (fits : ValuesFit vs) (n : Counted vs) where
  -- where the header is the one that was written
  pairs-read : bytes_from (file_bytes vs) (pairs_from (as_read vs.header)) (2 * pairs_in (as_read vs.header)) ≡ vs.pairs
  unfolding grants_from nodes_from pairs_from as_read
  pairs-read =
      rw (pairs_alike vs.header)
      (bytes_back (((H vs ++ R vs) ++ G vs) ++ N vs) vs.pairs (S vs ++ L vs) (file_bytes vs) (pairs_from vs.header) (pairs_in vs.header) (fourth_there vs) (fourth_at vs n) n.pairs)

  steps_read : prices_from (file_bytes vs) (step_prices_from (as_read vs.header)) ((as_read vs.header).nodes * (as_read vs.header).subjects) ≡ vs.step_prices
  unfolding as_read
  steps_read =
      rw (steps_alike vs.header)
      (section_back (bytes 4) 4 (bytes_length 4) 0 (λ s at. be s at 4) (λ v. v) (λ v. v < 2 ^ 32) price_from ((((H vs ++ R vs) ++ G vs) ++ N vs) ++ P vs) vs.step_prices (L vs)
      (file_bytes vs) (step_prices_from vs.header) (fifth_there vs) (fifth_at vs n) fits.step-price _ n.steps ∙ map-id vs.step_prices)

  links_read : prices_from (file_bytes vs) (link_prices_from (as_read vs.header)) ((as_read vs.header).subjects * (as_read vs.header).subjects) ≡ vs.link_prices
  unfolding as_read
  links_read =
      rw (links_alike vs.header)
      (section_back (bytes 4) 4 (bytes_length 4) 0 (λ s at. be s at 4) (λ v. v) (λ v. v < 2 ^ 32) price_from (((((H vs ++ R vs) ++ G vs) ++ N vs) ++ P vs) ++ S vs) vs.link_prices []
      (file_bytes vs) (link_prices_from vs.header) (last_there vs) (last_at vs n) fits.link-price _ n.links ∙ map-id vs.link_prices)

pub values_back : ValuesBack
unfolding values_of night_from read_as
values_back vs fits fine =
    let n = counted_of vs fine in
    let night = reads_back vs fits fine in
    let header = header_read vs fits in
    let pairs = ap (λ (h : Header). bytes_from (file_bytes vs) (pairs_from h) (2 * pairs_in h)) header ∙ pairs-read vs fits n in
    let steps = ap (λ (h : Header). prices_from (file_bytes vs) (step_prices_from h) (h.nodes * h.subjects)) header ∙ steps_read vs fits n in
    let links = ap (λ (h : Header). prices_from (file_bytes vs) (link_prices_from h) (h.subjects * h.subjects)) header ∙ links_read vs fits n in
    λ i. record { header = header i; relations = (night i).relations; grants = (night i).grants; nodes = (night i).nodes; pairs = pairs i; step_prices = steps i; link_prices = links i }
