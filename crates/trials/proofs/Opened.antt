-- The verdict on a file from what came of its two parts, and what the header's trials leave true.
use Prim.Native.Nat.{ℕ, ◌≤◌}
use mathlib.Core.Path.{◌≡◌, ◌∙◌}
use mathlib.Core.List.{List, ◌++◌}
use native.Mathlib.Omega.{arith}
use lib.ListN.{length}
use borrow.Author.Tests.{ltb-false, eqb-true, not-false}
use Rattle.laws.specs.Trials.{answers, refuses, verdict}
use Rattle.laws.proofs.Cases.{none-of}
use Rattle.laws.proofs.Trials.{passed, passed_then, refused_then, refused_alike, accepted_alike}
use Rattle.night.specs.declared.Header.{Header}
use Rattle.format.specs.Layout.{grants_from, nodes_from, pairs_from, step_prices_from, link_prices_from, file_length, header_of, night_in}
use Rattle.trials.specs.Rules.{counts_bad}
use Rattle.trials.specs.Trials.{header_trials, record_trials, tree_trials, trials, check_of}

module _ (s : List ℕ) where
  pub head_refused : (n p : ℕ) → verdict (header_trials s) (tt {0}) ≡ refuses n p → check_of s ≡ refuses n p
  unfolding check_of trials
  head_refused n p e = refused_then (header_trials s) _ tt (header_of s) n p e

  module _ (h : Header) (same : h ≡ header_of s) (head : verdict (header_trials s) (tt {0}) ≡ answers tt) where
    pub body_refused : (n p : ℕ) → verdict (record_trials (night_in s h) ++ tree_trials (night_in s h)) (tt {0}) ≡ refuses n p → check_of s ≡ refuses n p
    unfolding check_of trials
    body_refused n p e =
        let body = record_trials (night_in s h) ++ tree_trials (night_in s h) in
        rw (← same) (passed_then (header_trials s) body tt h head ∙ refused_alike body tt h n p e)

    pub body_accepted : verdict (record_trials (night_in s h) ++ tree_trials (night_in s h)) (tt {0}) ≡ answers tt → check_of s ≡ answers h
    unfolding check_of trials
    body_accepted e =
        let body = record_trials (night_in s h) ++ tree_trials (night_in s h) in
        rw (← same) (passed_then (header_trials s) body tt h head ∙ accepted_alike body tt tt h e)

    pub nodes_few : h.nodes ≤ 64
    unfolding header_trials counts_bad
    nodes_few = rw same (ltb-false 64 (header_of s).nodes (none-of _ (passed (header_trials s) tt tt head).0.1.1.1.0).1.1.1.1.1.1.1.0)

    pub grants_few : h.grants ≤ 272
    unfolding header_trials counts_bad
    grants_few = rw same (ltb-false 272 (header_of s).grants (none-of _ (passed (header_trials s) tt tt head).0.1.1.1.0).1.1.1.1.1.1.1.1.0)

    pub subjects_few : h.subjects ≤ 16
    unfolding header_trials counts_bad
    subjects_few = rw same (ltb-false 16 (header_of s).subjects (none-of _ (passed (header_trials s) tt tt head).0.1.1.1.0).1.0)

    pub relations_few : h.relations ≤ 16
    unfolding header_trials counts_bad
    relations_few = rw same (ltb-false 16 (header_of s).relations (none-of _ (passed (header_trials s) tt tt head).0.1.1.1.0).1.1.1.0)

-- an accepted file's header, and its length
pub accepted_header : (s : List ℕ) (h : Header) → check_of s ≡ answers h → header_of s ≡ h
unfolding check_of
accepted_header s h e = (passed (trials s) (header_of s) h e).1

pub accepted_length : (s : List ℕ) (h : Header) → check_of s ≡ answers h → length s ≡ file_length h
unfolding check_of trials header_trials
accepted_length s h e =
    let q = passed (trials s) (header_of s) h e in
    rw (← q.1) (eqb-true (length s) (file_length (header_of s)) (not-false _ q.0.1.1.1.1.0))

-- the grants lie before the nodes, and these within the file
pub grants_first : (h : Header) → grants_from h ≤ nodes_from h
unfolding nodes_from
grants_first h = omega arith

pub nodes_within : (h : Header) → nodes_from h ≤ file_length h
unfolding pairs_from step_prices_from link_prices_from file_length
nodes_within h = omega arith
