-- What follows from 17: the user may have every leaf's table, and so 12 never comes up.
use Prim.Native.Nat.{ℕ, ◌<◌}
use mathlib.Core.Path.{◌≡◌, refl, sym, ap, ◌∙◌}
use mathlib.Core.Bool.{Bool, true, false}
use mathlib.Core.List.{List, ◌++◌, append_assoc}
use native.Mathlib.Omega.{arith}
use lib.Dec.{eqb}
use borrow.Author.Tests.{eqb-false, eqb-true, eq-eqb, ne_eqb, not-false}
use Rattle.std.specs.Prelude.{if◌then◌else◌}
use Rattle.laws.specs.Trials.{Trial, Says, answers, refuses, verdict}
use Rattle.laws.proofs.Trials.{passed, passed_then, refused_then, passes_append, passes_row, passes_accepts, accepted_alike, all_refused, all_rows, rows_pass, AllTrials}
use Rattle.sets.proofs.Members.{in_none}
use Rattle.night.specs.declared.Header.{Header}
use Rattle.night.specs.Versions.{delivers}
use Rattle.night.specs.Night.{Night, node_of}
use Rattle.night.specs.Promised.{Promised}
use Rattle.format.specs.Layout.{header_of, night_in, night_of}
use Rattle.model.specs.Candidates.{candidate_set}
use Rattle.model.specs.User.{UserMay}
use Rattle.model.proofs.May.{may_exactly}
use Rattle.model.proofs.User.{user_candidate}
use Rattle.trials.specs.Trials.{trials, check_of}
use Rattle.trials.proofs.Promises.{accepted_promises}
use Rattle.verdicts.specs.Refusals.{kept_from_user, user_trials, without_candidate, candidate_trials, steps_trials, choice_room_trials, plan_room_trials, keys_room_trials, Rooms, choice_trials, choosing_of, cheapest_trials, cheapest_plan_trials}
use Rattle.verdicts.specs.User.{PassesMay, MayPasses, NobodyAsked, NeverWithout}
use Rattle.verdicts.proofs.Fit.{after_trials}

-- a file that passes 17 passes 1 to 11
pub choosing_accepted : (s : List ℕ) (h : Header) → choosing_of s ≡ answers h → check_of s ≡ answers h
unfolding choosing_of choice_trials check_of
choosing_accepted s h e =
    let q = passed (trials s ++ user_trials (night_of s)) (header_of s) h e in
    passes_accepts (trials s) (header_of s) (passes_append (trials s) (user_trials (night_of s)) q.0).0 ∙ ap answers q.1

pub passes_may : PassesMay
unfolding choosing_of choice_trials user_trials kept_from_user
passes_may s h e d i l z =
    let N = night_of s in
    let q = (passes_append (trials s) _ (passed (choice_trials s) (header_of s) h e).0).1 in
    let t = (passes_row _ N.header.nodes i l q).0 in
    (may_exactly _ _ _).0 (not-false _ (rw (d, eq-eqb (node_of N i).kind 0 z) at t))

pub may_passes : MayPasses
unfolding choosing_of choice_trials check_of user_trials kept_from_user night_in
may_passes s h q may =
    passed_then (trials s) _ (tt {0}) (header_of s) (accepted_alike (trials s) (header_of s) h (tt {0}) q)
    ∙ accepted_alike (user_trials (night_of s)) (tt {0}) (tt {0}) (header_of s) none
    ∙ sym (accepted_alike (trials s) (header_of s) h (header_of s) q) ∙ q
  where
    kept : (i : ℕ) → i < (night_of s).header.nodes → (d b : Bool) → delivers (night_of s).header.version ≡ d → eqb (node_of (night_of s) i).kind 0 ≡ b → kept_from_user (night_of s) i ≡ false
    kept i l false b e f = rw e refl
    kept i l true false e f = rw (e, f) refl
    kept i l true true e f = rw (e, f, (may_exactly _ _ _).1 (may e i l (eqb-true _ _ f))) refl

    none : verdict (user_trials (night_of s)) (tt {0}) ≡ answers tt
    none = rows_pass (kept_from_user (night_of s)) 17 (night_of s).header.nodes (λ i l. kept i l _ _ refl refl)

pub nobody_asked : NobodyAsked
unfolding choosing_of choice_trials check_of user_trials kept_from_user night_in
nobody_asked s d = go (verdict (trials s) (header_of s)) refl
  where
    none : verdict (user_trials (night_of s)) (tt {0}) ≡ answers tt
    none = rows_pass (kept_from_user (night_of s)) 17 (night_of s).header.nodes (λ i l. rw d refl)

    go : (v : Says Header) → verdict (trials s) (header_of s) ≡ v → choosing_of s ≡ check_of s
    go (refuses n p) q = refused_then (trials s) _ (header_of s) (header_of s) n p q ∙ sym q
    go (answers h) q =
        passed_then (trials s) _ (tt {0}) (header_of s) (accepted_alike (trials s) (header_of s) h (tt {0}) q)
        ∙ accepted_alike (user_trials (night_of s)) (tt {0}) (tt {0}) (header_of s) none
        ∙ sym (accepted_alike (trials s) (header_of s) h (header_of s) q)

-- another number than 12
abbrev Other : ℕ → ℕ → Type 0
Other n p = n ≡ 12 → ⊥

-- no step of such a file is without candidate
has_candidate : (N : Night) → Promised N → UserMay N → delivers N.header.version ≡ true → (i : ℕ) → i < N.header.nodes → without_candidate N i ≡ false
unfolding without_candidate
has_candidate N sound may d i l = go (eqb (node_of N i).kind 0) refl
  where
    go : (b : Bool) → eqb (node_of N i).kind 0 ≡ b → (if b then false else eqb (candidate_set N i) 0) ≡ false
    go true e = refl
    go false e = ne_eqb (candidate_set N i) 0 (λ z. in_none N.header.user (rw z at (user_candidate N sound may d i l (eqb-false _ 0 e))))

module _ (s : List ℕ) (rooms : Rooms) (d : delivers (header_of s).version ≡ true) where
  abbrev N : Night
  N = night_of s

  -- what is asked after 12, and 17: other numbers
  abbrev after : List Trial
  after = steps_trials N ++ (choice_room_trials N rooms.choice ++ (plan_room_trials N rooms.plan ++ keys_room_trials N rooms.keys))

  others_after : AllTrials Other after
  unfolding steps_trials choice_room_trials plan_room_trials keys_room_trials
  others_after = (λ e. omega arith, (λ e. omega arith, (λ e. omega arith, (λ e. omega arith, tt))))

  others_user : AllTrials Other (user_trials N)
  unfolding user_trials
  others_user = all_rows Other _ N.header.nodes (λ i l. (λ e. omega arith, tt))

  -- the cheapest choice's trials in this order
  in-order : cheapest_plan_trials s rooms ≡ choice_trials s ++ (candidate_trials N ++ after)
  unfolding cheapest_plan_trials cheapest_trials
  in-order = append_assoc (choice_trials s) (candidate_trials N ++ steps_trials N) _ ∙ ap (λ (ts : List Trial). choice_trials s ++ ts) (append_assoc (candidate_trials N) (steps_trials N) _)

  -- where 1 to 11 and 17 pass, 12 passes too
  candidates_pass : verdict (choice_trials s) (tt {0}) ≡ answers tt → verdict (candidate_trials N) (tt {0}) ≡ answers tt
  unfolding candidate_trials choosing_of night_in
  candidates_pass q =
      let chosen : choosing_of s ≡ answers (header_of s) = accepted_alike (choice_trials s) (tt {0}) (tt {0}) (header_of s) q in
      rows_pass (without_candidate N) 12 N.header.nodes (has_candidate N (accepted_promises s (header_of s) (choosing_accepted s (header_of s) chosen)) (passes_may s (header_of s) chosen) d)

  never : (place : ℕ) → verdict (choice_trials s ++ (candidate_trials N ++ after)) (tt {0}) ≡ refuses 12 place → ⊥
  unfolding choice_trials
  never place e = go (verdict (choice_trials s) (tt {0})) refl
    where
      go : (v : Says (Unit {0})) → verdict (choice_trials s) (tt {0}) ≡ v → ⊥
      go (refuses m k) q =
          let same : refuses m k ≡ refuses 12 place = sym (refused_then (choice_trials s) (candidate_trials N ++ after) (tt {0}) (tt {0}) m k q) ∙ e in
          after_trials Other (λ n p r z. omega (arith, r.1)) s (user_trials N) 12 place (λ few. others_user) (q ∙ same) refl
      go (answers u) q =
          let left = sym (passed_then (candidate_trials N) after (tt {0}) (tt {0}) (candidates_pass q)) ∙ sym (passed_then (choice_trials s) (candidate_trials N ++ after) (tt {0}) (tt {0}) q) ∙ e in
          all_refused Other after (tt {0}) 12 place others_after left refl

pub never_without : NeverWithout
never_without s rooms place d e = never s rooms d place (rw (in-order s rooms d) at e)
