-- The values of an accepted file, written again, are its bytes.
use Prim.Native.Nat.{ℕ, suc, ◌+◌, ◌*◌, ◌<◌, ◌≤◌, ◌^◌}
use mathlib.Core.Path.{◌≡◌, refl, sym, ap, ◌∙◌}
use mathlib.Core.Bool.{Bool, true, false}
use mathlib.Core.List.{List, ◌++◌}
use native.Mathlib.Nat.{mul-le-mul, mul-suc}
use native.Mathlib.Omega.{arith}
use lib.Dec.{lit<}
use lib.ListN.{length, length-drop, get_or, take, drop, take-append-drop}
use lib.Seq.{length-take-le, drop-drop, take_all, get_or-take, get_or-drop}
use borrow.Author.Tests.{le-ltb, eqb-true, not-false}
use Rattle.laws.specs.BigEndian.{be, bytes}
use Rattle.std.specs.Prelude.{if◌then◌else◌}
use Rattle.laws.specs.Choose.{any_of}
use Rattle.laws.specs.InOrder.{in_order}
use Rattle.laws.specs.Trials.{Says, answers, refuses, verdict}
use Rattle.laws.specs.Upwards.{each}
use Rattle.laws.proofs.BigEndian.{be_fits, bytes_be}
use Rattle.laws.proofs.Cases.{none-of, eq_fine}
use Rattle.laws.proofs.InOrder.{in_order_part}
use Rattle.laws.proofs.Trials.{passed, passes_append, passes_accepts, passed_then, refused_then}
use Rattle.laws.proofs.Upwards.{each_length, each_same, each_self, each_holds}
use Rattle.night.specs.declared.Header.{Header}
use Rattle.night.specs.Versions.{header_length, node_length, has_days, grant_length}
use Rattle.night.specs.Night.{no_relation, no_grant, no_node}
use Rattle.format.specs.Layout.{grants_from, nodes_from, pairs_from, pairs_in, step_prices_from, link_prices_from, file_length, header_of, relation_at, relation_bytes, grant_at, grant_bytes, node_at, node_bytes, night_in, night_of}
use Rattle.format.proofs.Written.{header_again, relation_again, grant_again, node_again}
use Rattle.trials.specs.Trials.{not_marked, header_trials, record_trials, tree_trials, trials, check_of}
use Rattle.writes.specs.Values.{bytes_from, prices_from, file_bytes, values_of}
use Rattle.writes.specs.Writing.{miscounted, miscounted_by, write_trials, write_of, judged_by, rewrite_of}
use Rattle.writes.specs.Back.{HeaderFits, RelationFits, GrantFits, NodeFits, ValuesFit, Bytes, HeadedAgain, RewrittenAlike, AcceptedAgain}
use Rattle.writes.proofs.Judged.{judged_alike}

-- there are as many values as its counts say
as_counted : (s : List ℕ) → miscounted (values_of s) ≡ false
unfolding miscounted miscounted_by any_of values_of night_in
as_counted s =
    let h = header_of s in
    rw (
      eq_fine (length (each h.relations (λ i. relation_at s (header_length h.version + 9 * i)))) h.relations (each_length _ h.relations),
      eq_fine (length (each h.grants (λ i. grant_at h.version s (grants_from h + grant_length h.version * i)))) h.grants (each_length _ h.grants),
      eq_fine (length (each h.nodes (λ i. node_at h.version s (nodes_from h + node_length h.version * i)))) h.nodes (each_length _ h.nodes),
      eq_fine (length (bytes_from s (pairs_from h) (2 * pairs_in h))) (2 * pairs_in h) (each_length _ (2 * pairs_in h)),
      eq_fine (length (prices_from s (step_prices_from h) (h.nodes * h.subjects))) (h.nodes * h.subjects) (each_length _ (h.nodes * h.subjects)),
      eq_fine (length (prices_from s (link_prices_from h) (h.subjects * h.subjects))) (h.subjects * h.subjects) (each_length _ (h.subjects * h.subjects)),
    ) refl

-- and they fit
module _ (s : List ℕ) (all : Bytes s) where
  header_fits : HeaderFits (header_of s)
  unfolding header_of
  header_fits = record { version = be_fits s all 3 2; grants = be_fits s all 9 2; steps = be_fits s all 11 4; day = either (has_days (be s 3 2)) }
    where
      either : (b : Bool) → (if b then be s 17 2 else 0) < 2 ^ 16
      either true = be_fits s all 17 2
      either false = lit< tt

  relation_fits : (at : ℕ) → RelationFits (relation_at s at)
  unfolding relation_at
  relation_fits at = be_fits s all (at + 1) 8

  grant_fits : (version at : ℕ) → GrantFits (grant_at version s at)
  unfolding grant_at
  grant_fits version at = (be_fits s all (at + 2) 8, be_fits s all (at + 10) 8, first (has_days version), last (has_days version))
    where
      first : (b : Bool) → (if b then be s (at + 18) 2 else 0) < 2 ^ 16
      first true = be_fits s all (at + 18) 2
      first false = lit< tt

      last : (b : Bool) → (if b then be s (at + 20) 2 else 65535) < 2 ^ 16
      last true = be_fits s all (at + 20) 2
      last false = lit< tt

  node_fits : (version at : ℕ) → NodeFits (node_at version s at)
  unfolding node_at
  node_fits version at = (be_fits s all (at + 8) 8, be_fits s all (at + 16) 8, be_fits s all (at + 24) 4)

  pub values_fit : ValuesFit (values_of s)
  unfolding values_of night_in
  values_fit =
      let h = header_of s in
      record {
        header = header_fits;
        relation = each_holds RelationFits _ no_relation h.relations (lit< tt) (λ k l. relation_fits (header_length h.version + 9 * k));
        grant = each_holds GrantFits _ no_grant h.grants (lit< tt, lit< tt, lit< tt, lit< tt) (λ k l. grant_fits h.version (grants_from h + grant_length h.version * k));
        node = each_holds NodeFits _ no_node h.nodes (lit< tt, lit< tt, lit< tt) (λ k l. node_fits h.version (nodes_from h + node_length h.version * k));
        step-price = each_holds (λ v. v < 2 ^ 32) _ 0 (h.nodes * h.subjects) (lit< tt) (λ k l. be_fits s all (step_prices_from h + 4 * k) 4);
        link-price = each_holds (λ v. v < 2 ^ 32) _ 0 (h.subjects * h.subjects) (lit< tt) (λ k l. be_fits s all (link_prices_from h + 4 * k) 4);
      }

-- a section that is a stretch of s, before the rest of s
joins : (s : List ℕ) {xs : List ℕ} (at n : ℕ) → xs ≡ take n (drop at s) → xs ++ drop (at + n) s ≡ drop at s
joins s at n e = rw (e, ← drop-drop n at s) (take-append-drop n (drop at s))

-- an entry of n that are w long each ends within them
pub entry_ends : (w n i : ℕ) → i < n → w * i + w ≤ w * n
entry_ends w n i l = omega (arith, mul-le-mul {n₁ = w} {m₁ = suc i} {n₂ = w} {m₂ = n} (omega arith) l, mul-suc w i)

-- so its place is within its section
entry_within : (w n i at : ℕ) (s : List ℕ) → i < n → at + w * n ≤ length s → at + w * i + w ≤ length s
entry_within w n i at s l q = omega (arith, entry_ends w n i l)

-- the sections of a file of bytes that is as long as its counts say, and begins with a mark
module _ (s : List ℕ) (all : Bytes s) (long : length s ≡ file_length (header_of s)) where
  abbrev head : Header
  head = header_of s

  abbrev wide : ℕ
  wide = node_length head.version

  abbrev granted : ℕ
  granted = grant_length head.version

  ends : (header_length head.version + 9 * head.relations ≡ grants_from head) × (grants_from head + granted * head.grants ≡ nodes_from head) × (nodes_from head + wide * head.nodes ≡ pairs_from head)
      × (pairs_from head + 2 * pairs_in head ≡ step_prices_from head) × (step_prices_from head + 4 * (head.nodes * head.subjects) ≡ link_prices_from head)
      × (link_prices_from head + 4 * (head.subjects * head.subjects) ≡ file_length head)
  unfolding grants_from nodes_from pairs_from step_prices_from link_prices_from file_length
  ends = (refl, refl, refl, refl, refl, refl)

  relations_again : in_order relation_bytes (each head.relations (λ i. relation_at s (header_length head.version + 9 * i))) ≡ take (9 * head.relations) (drop (header_length head.version) s)
  relations_again =
      in_order_part relation_bytes 9 _ s (header_length head.version) head.relations
      (λ i l. relation_again s all (header_length head.version + 9 * i) (entry_within 9 head.relations i (header_length head.version) s l (omega (arith, ends, long))))

  grants_again : in_order (grant_bytes head.version) (each head.grants (λ i. grant_at head.version s (grants_from head + granted * i))) ≡ take (granted * head.grants) (drop (grants_from head) s)
  grants_again =
      in_order_part (grant_bytes head.version) granted _ s (grants_from head) head.grants
      (λ i l. grant_again s all (grants_from head + granted * i) head.version (entry_within granted head.grants i (grants_from head) s l (omega (arith, ends, long))))

  nodes_again : in_order (node_bytes head.version) (each head.nodes (λ i. node_at head.version s (nodes_from head + wide * i))) ≡ take (wide * head.nodes) (drop (nodes_from head) s)
  nodes_again =
      in_order_part (node_bytes head.version) wide _ s (nodes_from head) head.nodes
      (λ i l. node_again s all (nodes_from head + wide * i) head.version (entry_within wide head.nodes i (nodes_from head) s l (omega (arith, ends, long))))

  -- bytes as they stand
  stretch_again : (at n : ℕ) → at + n ≤ length s → bytes_from s at n ≡ take n (drop at s)
  stretch_again at n q =
      let many : length (take n (drop at s)) ≡ n = length-take-le n (drop at s) (rw (length-drop at s) (omega arith)) in
      each_same (λ k. get_or s (at + k) 0) (λ k. get_or (take n (drop at s)) k 0) n (λ k l. sym (get_or-take n (drop at s) k 0 l ∙ get_or-drop at s k 0)) ∙ rw many at (each_self (take n (drop at s)) 0)

  prices_again : (at n : ℕ) → at + 4 * n ≤ length s → in_order (bytes 4) (prices_from s at n) ≡ take (4 * n) (drop at s)
  prices_again at n q = in_order_part (bytes 4) 4 _ s at n (λ i l. bytes_be s all (at + 4 * i) 4 (entry_within 4 n i at s l q))

  bytes_again : get_or s 0 0 ≡ 65 → get_or s 1 0 ≡ 88 → get_or s 2 0 ≡ 80 → file_bytes (values_of s) ≡ s
  unfolding file_bytes values_of night_in
  bytes_again first second third =
      let steps = head.nodes * head.subjects in
      let links = head.subjects * head.subjects in
      let header = header_again s all first second third (omega (arith, ends, long)) in
      let past : length (drop (link_prices_from head) s) ≤ 4 * links = rw (length-drop (link_prices_from head) s) (omega (arith, ends, long)) in
      let last = prices_again (link_prices_from head) links (omega (arith, ends, long)) ∙ take_all (4 * links) (drop (link_prices_from head) s) past in
      rw (
        last,
        ← ends.4,
        joins s (step_prices_from head) (4 * steps) (prices_again (step_prices_from head) steps (omega (arith, ends, long))),
        ← ends.3,
        joins s (pairs_from head) (2 * pairs_in head) (stretch_again (pairs_from head) (2 * pairs_in head) (omega (arith, ends, long))),
        ← ends.2,
        joins s (nodes_from head) (wide * head.nodes) nodes_again,
        ← ends.1,
        joins s (grants_from head) (granted * head.grants) grants_again,
        ← ends.0,
        joins s (header_length head.version) (9 * head.relations) relations_again,
        header,
      ) (take-append-drop (header_length head.version) s)

-- a file that passes begins with the mark
mark_there : (s : List ℕ) → not_marked s ≡ false → (get_or s 0 0 ≡ 65) × (get_or s 1 0 ≡ 88) × (get_or s 2 0 ≡ 80)
unfolding not_marked
mark_there s fine =
    let t = none-of _ fine in
    (eqb-true _ _ (not-false _ t.1.0), eqb-true _ _ (not-false _ t.1.1.0), eqb-true _ _ (not-false _ t.1.1.1.0))

pub headed_again : HeadedAgain
unfolding header_trials
headed_again s all e =
    let p = (passed (header_trials s) (tt {0}) tt e).0 in
    let mark = mark_there s p.0 in
    let long : length s ≡ file_length (header_of s) = eqb-true _ _ (not-false _ p.1.1.1.1.0) in
    record { fits = values_fit s all; counted = as_counted s; same = bytes_again s all long mark.0 mark.1 mark.2 }

headed_long : (s : List ℕ) → verdict (header_trials s) (tt {0}) ≡ answers tt → length s ≡ file_length (header_of s)
unfolding header_trials
headed_long s e = eqb-true _ _ (not-false _ (passed (header_trials s) (tt {0}) tt e).0.1.1.1.1.0)

header_of_values : (s : List ℕ) → (values_of s).header ≡ header_of s
unfolding values_of
header_of_values s = refl

-- what the writer says of the values of a file whose header passes
again_judged : (s : List ℕ) (room : ℕ) → Bytes s → verdict (header_trials s) (tt {0}) ≡ answers tt → write_of (values_of s) room ≡ judged_by (check_of s) (length s) room
again_judged s room all e =
    let same = headed_again s all e in
    judged_alike (values_of s) room same.fits same.counted ∙ rw (same.same, header_of_values s, ← headed_long s e) refl

-- and the trials go on to the values'
pub rewrite_on : (s : List ℕ) (room : ℕ) → verdict (header_trials s) (tt {0}) ≡ answers tt → rewrite_of s room ≡ write_of (values_of s) room
unfolding rewrite_of write_of values_of
rewrite_on s room e = passed_then (header_trials s) (write_trials (values_of s) room) tt (file_length (header_of s)) e

pub rewritten_alike : RewrittenAlike
unfolding rewrite_of check_of trials
rewritten_alike s room all = go (verdict (header_trials s) tt) refl
  where
    go : (r : Says (Unit {0})) → verdict (header_trials s) tt ≡ r → rewrite_of s room ≡ judged_by (check_of s) (length s) room
    go (answers tt) e = rewrite_on s room e ∙ again_judged s room all e
    go (refuses n p) e =
        refused_then (header_trials s) (write_trials (values_of s) room) tt (file_length (header_of s)) n p e
        ∙ sym (ap (λ (x : Says Header). judged_by x (length s) room) (refused_then (header_trials s) (record_trials (night_of s) ++ tree_trials (night_of s)) tt (header_of s) n p e))

pub accepted_again : AcceptedAgain
unfolding check_of trials
accepted_again s h all e =
    let p = (passed (trials s) (header_of s) h e).0 in
    let head = passes_accepts (header_trials s) (tt {0}) (passes_append (header_trials s) (record_trials (night_of s) ++ tree_trials (night_of s)) p).0 in
    let enough : (room : ℕ) → length s ≤ room → judged_by (check_of s) (length s) room ≡ answers (length s) = λ room l. ap (λ (x : Says Header). judged_by x (length s) room) e ∙ rw (le-ltb room (length s) l) refl in
    record { same = headed_again s all head; again = λ room l. (again_judged s room all head ∙ enough room l, rewritten_alike s room all ∙ enough room l) }
