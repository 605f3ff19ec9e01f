-- Why a subject is out, from what the code works out: the refusals, and the three tables one after the other.
use Prim.Native.Nat.{ℕ, ◌<◌}
use mathlib.Core.Path.{◌≡◌, refl, ap, sym, ◌∙◌}
use mathlib.Core.Bool.{Bool, true, false, not}
use mathlib.Core.List.{List, [], ◌∷◌}
use native.Mathlib.Omega.{arith}
use lib.Dec.{eqb, ltb}
use borrow.Author.Tests.{eqb-false, ltb-true}
use Rattle.std.specs.Prelude.{Some, None, if◌then◌else◌}
use Rattle.laws.specs.Choose.{any_of}
use Rattle.laws.specs.Trials.{Says, answers, refuses, verdict}
use Rattle.laws.proofs.Cases.{none-of}
use Rattle.laws.proofs.Trials.{passed_then, refused_then, accepted_alike}
use Rattle.night.specs.declared.Header.{Header}
use Rattle.night.specs.declared.Node.{Node}
use Rattle.night.specs.Night.{Night, node_of}
use Rattle.night.specs.Kinds.{uses_right}
use Rattle.night.specs.Promised.{Promised}
use Rattle.night.specs.Views.{clear_of, sealed_of}
use Rattle.format.specs.Layout.{header_of, night_in, night_of}
use Rattle.model.specs.declared.Table.{Table}
use Rattle.model.specs.declared.Out.{Out}
use Rattle.model.specs.Tables.{least_view, table_of}
use Rattle.model.specs.Reasons.{of_left, of_right, of_result, looked_at, Standing, standing_by, standing}
use Rattle.model.proofs.Reasons.{or_else, table_by_table}
use Rattle.tables.specs.declared.Columns.{Columns}
use Rattle.tables.specs.Columns.{with_tied}
use Rattle.trials.specs.Trials.{trials, check_of}
use Rattle.trials.proofs.Opened.{accepted_header}
use Rattle.verdicts.specs.Refusals.{no_step, asked_trials, why_trials}
use Rattle.eligible.specs.declared.walk.Walked.{Walked}
use Rattle.eligible.specs.Walk.{walked_of}
use Rattle.eligible.proofs.Walks.{lower_left, lower_right}

-- a node of which a subject may be asked
pub asked_step : (N : Night) (i : ℕ) → no_step N i ≡ false → (i < N.header.nodes) × ((node_of N i).kind ≡ 0 → ⊥)
unfolding no_step
asked_step N i e = go (ltb i N.header.nodes) refl e
  where
    go : (b : Bool) → ltb i N.header.nodes ≡ b → (if b then eqb (node_of N i).kind 0 else true) ≡ false
        → (i < N.header.nodes) × ((node_of N i).kind ≡ 0 → ⊥)
    go true l q = (ltb-true i N.header.nodes l, eqb-false (node_of N i).kind 0 q)
    go false l q = absurd (let z : ◌≡◌ {A = ℕ} 0 1 = cc in omega arith)

-- its operands are nodes
pub asked_operands : (N : Night) → Promised N → (i : ℕ) → no_step N i ≡ false → {u : Node} → u ≡ node_of N i
    → (u.left < N.header.nodes) × (uses_right u.kind ≡ true → u.right < N.header.nodes)
asked_operands N sound i asked node =
    let there = asked_step N i asked in (
      omega (arith, there.0, lower_left N sound i there.0 node (λ e. there.1 (rw node at e))),
      λ b. omega (arith, there.0, lower_right N sound i there.0 node b),
    )

-- the test of 16
abbrev pub unasked : Night → ℕ → ℕ → Bool
unasked N i p = any_of (no_step N i ∷ not (ltb p N.header.subjects) ∷ [])

-- where it passes, step and subject are there
pub asked_both : (N : Night) (i p : ℕ) → unasked N i p ≡ false → (no_step N i ≡ false) × (p < N.header.subjects)
asked_both N i p e = go (ltb p N.header.subjects) refl (none-of _ e)
  where
    go : (b : Bool) → ltb p N.header.subjects ≡ b → (no_step N i ≡ false) × ((not b ≡ false) × Unit {0})
        → (no_step N i ≡ false) × (p < N.header.subjects)
    go true l w = (w.0, ltb-true p N.header.subjects l)
    go false l w = absurd (let f = w.1.0 in let z : ◌≡◌ {A = ℕ} 0 1 = cc in omega arith)

module _ (s : List ℕ) (i p : ℕ) where
  -- how the subject stands by what it sees
  abbrev told : Night → Standing
  told N = standing N i (clear_of N p) (sealed_of N p)

  -- what is said of the question
  abbrev said : Says Standing
  said = verdict (why_trials s i p) (told (night_of s))

  -- reading refuses
  pub why_unread : (n q : ℕ) → check_of s ≡ refuses n q → said ≡ refuses n q
  unfolding check_of why_trials
  why_unread n q e = refused_then (trials s) (asked_trials (night_of s) i p) (header_of s) (told (night_of s)) n q e

  -- an accepted file leaves the trial of 16
  why_rest : (h : Header) → check_of s ≡ answers h → said ≡ verdict (asked_trials (night_in s h) i p) (told (night_in s h))
  unfolding check_of why_trials
  why_rest h e =
      rw (← accepted_header s h e)
      (passed_then (trials s) (asked_trials (night_of s) i p) (header_of s) (told (night_of s)) (accepted_alike (trials s) (header_of s) h (header_of s) e))

  -- which refuses
  pub why_unasked : (h : Header) → check_of s ≡ answers h → unasked (night_in s h) i p ≡ true → said ≡ refuses 16 i
  unfolding asked_trials verdict
  why_unasked h e bad = why_rest h e ∙ rw bad refl

  -- or passes
  pub why_answered : (h : Header) → check_of s ≡ answers h → unasked (night_in s h) i p ≡ false → said ≡ answers (told (night_in s h))
  unfolding asked_trials verdict
  why_answered h e fine = why_rest h e ∙ rw fine refl

-- columns and tied sets that the walk left at a node are its table
table_whole : (N : Night) (c : ℕ) {w : Walked} {tied : List ℕ} → w ≡ walked_of N c → tied ≡ (table_of N c).tied → with_tied w.columns tied ≡ table_of N c
table_whole N c e f = rw (e, f) refl

-- so the subject is asked by the least view of that
pub by_view : (N : Night) (c k needed P E : ℕ) {w : Walked} {least : Columns} {tied : List ℕ} {a : Standing}
    → w ≡ walked_of N c → tied ≡ (table_of N c).tied → ((t : List ℕ) → with_tied least t ≡ least_view needed (with_tied w.columns t))
    → a ≡ standing_by k (with_tied least tied) P E → a ≡ standing_by k (least_view needed (table_of N c)) P E
by_view N c k needed P E {w} {least} {tied} walked its-ties view e =
    e ∙ ap (λ (t : Table). standing_by k t P E) (view tied ∙ ap (least_view needed) (table_whole N c walked its-ties))

module _ (N : Night) (i P E : ℕ) {u : Node} (node : u ≡ node_of N i) where
  -- the tables that are looked at, with the node as it was read
  abbrev by_left : Standing
  by_left = standing_by of_left (least_view u.needed (table_of N u.left)) P E

  abbrev by_right : Standing
  by_right = if uses_right u.kind then standing_by of_right (least_view u.needed (table_of N u.right)) P E else None

  abbrev by_made : Standing
  by_made = standing_by of_result (table_of N i) P E

  -- the standing is that by the left operand's least view, or else by the right one's, or else by the result
  in-order : standing N i P E ≡ or_else by_left (or_else by_right by_made)
  unfolding looked_at
  in-order = rw node (table_by_table N i P E)

  -- the left one puts the subject out
  pub out_left : {a : Standing} (o : Out) → a ≡ by_left → a ≡ Some o → a ≡ standing N i P E
  out_left o e out = out ∙ sym (in-order ∙ ap (λ (x : Standing). or_else x (or_else by_right by_made)) (sym e ∙ out))

  -- it lets the subject pass
  in_left : by_left ≡ None → standing N i P E ≡ or_else by_right by_made
  in_left fine = in-order ∙ ap (λ (x : Standing). or_else x (or_else by_right by_made)) fine

  -- the right one puts it out
  pub out_right : {b : Standing} (o : Out) → by_left ≡ None → b ≡ by_right → b ≡ Some o → b ≡ standing N i P E
  out_right o fine e out = out ∙ sym (in_left fine ∙ ap (λ (x : Standing). or_else x by_made) (sym e ∙ out))

  -- both let it pass, and the result that the walk left is asked
  pub by_result : {b c : Standing} {made : Walked} {tied : List ℕ} → by_left ≡ None → b ≡ by_right → b ≡ None
      → made ≡ walked_of N i → tied ≡ (table_of N i).tied → c ≡ standing_by of_result (with_tied made.columns tied) P E → c ≡ standing N i P E
  by_result fine e fine-too walked its-ties f =
      f
      ∙ ap (λ (t : Table). standing_by of_result t P E) (table_whole N i walked its-ties)
      ∙ sym (in_left fine ∙ ap (λ (x : Standing). or_else x by_made) (sym e ∙ fine-too))
