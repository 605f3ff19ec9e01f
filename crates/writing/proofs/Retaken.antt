-- The values of a file, taken into arrays, are the file's values; and what is said of writing them again.
use Prim.Native.Nat.{ℕ, ◌+◌, ◌-◌, ◌*◌, ◌<◌, ◌≤◌}
use mathlib.Core.Path.{◌≡◌, refl, sym, ap, ◌∙◌}
use mathlib.Core.List.{List}
use native.Mathlib.Omega.{arith}
use lib.ListN.{length, length-drop, get_or, take, drop}
use lib.Seq.{ext_get_or, get_or-take, get_or-drop, length-take-le}
use Rattle.std.specs.Prelude.{Result, Err}
use borrow.Author.Tests.{eqb-true, not-false}
use Rattle.laws.specs.BigEndian.{be}
use Rattle.laws.specs.Trials.{answers, refuses, verdict}
use Rattle.laws.proofs.Trials.{passed, refused_then, accepted_alike}
use Rattle.laws.proofs.Upwards.{each_length, each_at}
use Rattle.night.specs.declared.Header.{Header}
use Rattle.night.specs.declared.Relation.{Relation}
use Rattle.night.specs.declared.Grant.{Grant}
use Rattle.night.specs.declared.Node.{Node}
use Rattle.night.specs.declared.refusals.Refusal.{Refusal}
use Rattle.night.specs.Refusals.{number_of}
use Rattle.night.specs.Night.{relation_of, grant_of, node_of, no_relation, no_grant, no_node}
use Rattle.format.specs.Layout.{pairs_from, pairs_in, step_prices_from, link_prices_from, file_length, header_of, nth_price, night_in}
use Rattle.format.proofs.Sections.{price-in}
use Rattle.trials.specs.Trials.{header_trials}
use Rattle.writes.specs.Values.{Values, bytes_from, prices_from, values_of}
use Rattle.writes.specs.Back.{Bytes}
use Rattle.writes.proofs.Again.{headed_again, rewrite_on}
use Rattle.writes.specs.Writing.{rewrite_of, room_after}
use Rattle.encoding.proofs.Places.{Places, places_of}
use Rattle.writing.specs.Answers.{WriteSays, RewriteSays}

-- the front of an array that has the entries of a list
front_same : {A : Type 0} (arr xs : List A) (d : A) (n : ℕ) → length xs ≡ n → n ≤ length arr → ((k : ℕ) → k < n → get_or arr k d ≡ get_or xs k d) → take n arr ≡ xs
front_same arr xs d n long l same =
    let taken : length (take n arr) ≡ n = length-take-le n arr l in
    ext_get_or d (take n arr) xs (taken ∙ sym long) (λ k q. get_or-take n arr k d (rw taken at q) ∙ same k (rw taken at q))

-- values by their parts
abbrev pub values_from : Header → List Relation → List Grant → List Node → List ℕ → List ℕ → List ℕ → Values
values_from h relations grants nodes pairs steps links = record { header = h; relations = relations; grants = grants; nodes = nodes; pairs = pairs; step_prices = steps; link_prices = links }

-- what is read of a file, taken into arrays
pub record Taken (s : List ℕ) (h : Header) (relations : List Relation) (grants : List Grant) (nodes : List Node) (prices : List ℕ) : Type 0 where
  pub relations_long : length relations ≡ 16
  pub its_relations : (k : ℕ) → k < 16 → get_or relations k no_relation ≡ relation_of (night_in s h) k
  pub grants_long : length grants ≡ 272
  pub its_grants : (k : ℕ) → k < 272 → get_or grants k no_grant ≡ grant_of (night_in s h) k
  pub nodes_long : length nodes ≡ 64
  pub its_nodes : (k : ℕ) → k < 64 → get_or nodes k no_node ≡ node_of (night_in s h) k
  pub prices_long : length prices ≡ 1280
  pub its_prices : (k : ℕ) → k < 1280 → get_or prices k 0 ≡ nth_price s h k

module _ (s : List ℕ) (h : Header) (same : h ≡ header_of s) (long : length s ≡ file_length h) (places : Places h) (relations : List Relation) (grants : List Grant) (nodes : List Node)
    (prices : List ℕ) (taken : Taken s h relations grants nodes prices) where
  relations_are : take h.relations relations ≡ (night_in s h).relations
  unfolding relation_of night_in
  relations_are =
      front_same relations (night_in s h).relations no_relation h.relations (each_length _ h.relations) (omega (arith, places.relations_few, taken.relations_long))
      (λ k l. taken.its_relations k (omega (arith, places.relations_few)))

  grants_are : take h.grants grants ≡ (night_in s h).grants
  unfolding grant_of night_in
  grants_are =
      front_same grants (night_in s h).grants no_grant h.grants (each_length _ h.grants) (omega (arith, places.grants_few, taken.grants_long))
      (λ k l. taken.its_grants k (omega (arith, places.grants_few)))

  nodes_are : take h.nodes nodes ≡ (night_in s h).nodes
  unfolding node_of night_in
  nodes_are =
      front_same nodes (night_in s h).nodes no_node h.nodes (each_length _ h.nodes) (omega (arith, places.nodes_few, taken.nodes_long))
      (λ k l. taken.its_nodes k (omega (arith, places.nodes_few)))

  -- the pairs' bytes, as they stand in the file
  pairs_are : (from to : ℕ) → from ≡ pairs_from h → to ≡ step_prices_from h → take (to - from) (drop from s) ≡ bytes_from s (pairs_from h) (2 * pairs_in h)
  pairs_are from to e₁ e₂ =
      let n : to - from ≡ 2 * pairs_in h = omega (arith, places.steps-at) in
      let within : pairs_from h + 2 * pairs_in h ≤ length s = omega (arith, places.steps-at, places.links_at, places.end_at) in
      let many : length (take (2 * pairs_in h) (drop (pairs_from h) s)) ≡ 2 * pairs_in h = length-take-le (2 * pairs_in h) (drop (pairs_from h) s) (rw (length-drop (pairs_from h) s) (omega arith)) in
      rw (n, e₁)
      (ext_get_or 0 (take (2 * pairs_in h) (drop (pairs_from h) s)) (bytes_from s (pairs_from h) (2 * pairs_in h)) (many ∙ sym (each_length _ (2 * pairs_in h)))
      (λ k l.
      let below : k < 2 * pairs_in h = omega arith in
      get_or-take (2 * pairs_in h) (drop (pairs_from h) s) k 0 below ∙ get_or-drop (pairs_from h) s k 0 ∙ sym (each_at (λ k. get_or s (pairs_from h + k) 0) 0 k (2 * pairs_in h) below)))

  -- a table of n prices from number `from` on, where at is its place
  prices_are : (from at n : ℕ) → from + n ≤ 1280 → from + n ≤ h.nodes * h.subjects + h.subjects * h.subjects → step_prices_from h + 4 * from ≡ at
      → take n (drop from prices) ≡ prices_from s at n
  prices_are from at n few within there =
      let rest : length (drop from prices) ≡ 1280 - from = rw (length-drop from prices, taken.prices_long) refl in
      front_same (drop from prices) (prices_from s at n) 0 n (each_length _ n) (omega (arith, rest))
      (λ k l.
      let place : step_prices_from h + 4 * (from + k) ≡ at + 4 * k = omega (arith, there) in
      get_or-drop from prices k 0 ∙ taken.its_prices (from + k) (omega arith) ∙ price-in s h (from + k) (omega arith) ∙ ap (λ (p : ℕ). be s p 4) place
      ∙ sym (each_at (λ k. be s (at + 4 * k) 4) 0 k n l))

  pub values_again : {from to steps links : ℕ} → from ≡ pairs_from h → to ≡ step_prices_from h → steps ≡ h.nodes * h.subjects → links ≡ h.subjects * h.subjects
      → values_from h (take h.relations relations) (take h.grants grants) (take h.nodes nodes) (take (to - from) (drop from s)) (take steps prices) (take (steps + links - steps) (drop steps prices))
      ≡ values_of s
  unfolding values_of
  values_again {from} {to} {steps} {links} from-e to-e steps-e links-e =
      let first : take steps prices ≡ prices_from s (step_prices_from h) (h.nodes * h.subjects) =
      rw steps-e (prices_are 0 (step_prices_from h) (h.nodes * h.subjects) (omega (arith, places.steps_few)) (omega arith) (omega arith)) in
      let many : steps + links - steps ≡ h.subjects * h.subjects = omega (arith, links-e) in
      let second : take (steps + links - steps) (drop steps prices) ≡ prices_from s (link_prices_from h) (h.subjects * h.subjects) =
      rw (many, steps-e) (prices_are (h.nodes * h.subjects) (link_prices_from h) (h.subjects * h.subjects) (omega (arith, places.steps_few, places.links_few)) (omega arith) (omega (arith, places.links_at))) in
      let pairs = pairs_are from to from-e to-e in
      rw (← same) (λ i. values_from h (relations_are i) (grants_are i) (nodes_are i) (pairs i) (first i) (second i))

-- the header was refused
pub again_refused : (s before : List ℕ) (r : Refusal) → refuses (number_of r.reason) r.place ≡ verdict (header_trials s) (header_of s) → RewriteSays s before before (Err r)
unfolding rewrite_of
again_refused s before r e =
    let refused : rewrite_of s (length before) ≡ refuses (number_of r.reason) r.place = refused_then (header_trials s) _ (header_of s) (file_length (header_of s)) _ _ (sym e) in
    record { its_answer = rw refused refl; room = rw refused refl }

-- or accepted with these values
module _ (s before : List ℕ) (h : Header) (e : answers h ≡ verdict (header_trials s) (header_of s)) where
  pub header_same : h ≡ header_of s
  header_same = sym (passed (header_trials s) (header_of s) h (sym e)).1

  pub header_places : Places h
  unfolding header_trials
  header_places = rw header_same (places_of (header_of s) (passed (header_trials s) (header_of s) h (sym e)).0.1.1.1.0)

  passes : verdict (header_trials s) (tt {0}) ≡ answers tt
  passes = accepted_alike (header_trials s) (header_of s) h tt (sym e)

  pub header_long : length s ≡ file_length h
  unfolding header_trials
  header_long = rw header_same (eqb-true _ _ (not-false _ (passed (header_trials s) (header_of s) h (sym e)).0.1.1.1.1.0))

  pub again_writes : {vs : Values} {after : List ℕ} {r : Result ℕ Refusal} → Bytes s → vs ≡ values_of s → WriteSays vs before after r → RewriteSays s before after r
  again_writes {vs} {after} {r} all same says =
      let own : WriteSays (values_of s) before after r = rw same at says in
      let e = rewrite_on s (length before) passes in
      let back = sym e in
      let bytes = (headed_again s all passes).same in
      record { its_answer = own.its_answer ∙ sym e; room = own.room ∙ (λ i. room_after (back i) (bytes i) before) }
