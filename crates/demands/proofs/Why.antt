-- Why a subject is out, over bytes: from the theorems over a night, since an answered question is about an accepted file, a step and a subject of it.
use Prim.Native.Nat.{ℕ, ◌<◌}
use mathlib.Core.Path.{◌≡◌, refl, sym, ap, ◌∙◌}
use mathlib.Core.Bool.{Bool, true, false}
use mathlib.Core.List.{List}
use mathlib.Core.Logic.{◌↔◌}
use lib.Dec.{ltb}
use borrow.Author.Tests.{ne_eqb, lt-ltb, ltb-true, ltb-false}
use Rattle.std.specs.Prelude.{None}
use Rattle.laws.specs.Choose.{any_of}
use Rattle.laws.specs.Trials.{answers, refuses}
use Rattle.laws.proofs.Trials.{never, passed, passes_accepts, passes_append, refused_then, accepted_alike}
use Rattle.sets.specs.Sets.{In}
use Rattle.night.specs.declared.Header.{Header}
use Rattle.night.specs.Night.{Night, node_of}
use Rattle.night.specs.Views.{clear_of, sealed_of}
use Rattle.format.specs.Layout.{header_of, night_in, night_of}
use Rattle.format.proofs.Sections.{node_past}
use Rattle.model.specs.Candidates.{candidate_set}
use Rattle.model.specs.Reasons.{of_result, Standing, out, looked_at, standing, FirstOut, Named}
use Rattle.model.proofs.Reasons.{candidate_standing}
use Rattle.model.proofs.Offending.{out_exactly}
use Rattle.model.proofs.ResultTied.{result_tied}
use Rattle.trials.specs.Trials.{trials, check_of}
use Rattle.trials.proofs.Promises.{accepted_promises}
use Rattle.verdicts.specs.Refusals.{no_step, asked_trials, why_trials}
use Rattle.eligible.proofs.Questions.{unasked, asked_step, asked_both, why_unasked, why_answered}
use Rattle.planning.specs.Answers.{candidates_of, why_of}
use Rattle.planning.proofs.Answered.{candidates_exactly}
use Rattle.planning.proofs.Questions.{why_once}
use Rattle.demands.specs.Why.{Asked, OutBy, WhyOut}

module _ (s : List ℕ) where
  abbrev N : Night
  N = night_of s

  -- how a subject stands by its view
  abbrev stands : ℕ → ℕ → Standing
  stands i p = standing N i (clear_of N p) (sealed_of N p)

  -- the test of 16, and what it stands for
  asked_of : (h : Header) → check_of s ≡ answers h → (i p : ℕ) → unasked N i p ≡ false → Asked s i p
  asked_of h read i p e =
      let w = asked_both N i p e in
      let u = asked_step N i w.0 in
      record { accepted = (h, read); node = u.0; step = u.1; subject = w.1 }

  of_asked : (i p : ℕ) → Asked s i p → unasked N i p ≡ false
  unfolding no_step any_of
  of_asked i p a = rw (lt-ltb i N.header.nodes a.node, ne_eqb (node_of N i).kind 0 a.step, lt-ltb p N.header.subjects a.subject) refl

  -- what is answered was asked so, and says how the subject stands
  answered : (i p : ℕ) (x : Standing) → why_of s i p ≡ answers x → Asked s i p × (stands i p ≡ x)
  unfolding why_of why_trials check_of asked_trials
  answered i p x e =
      let w = passed (why_trials s i p) (stands i p) x e in
      let u = passes_append (trials s) (asked_trials N i p) w.0 in
      (asked_of (header_of s) (passes_accepts (trials s) (header_of s) u.0) i p u.1.0, w.1)

  accepted : (i set : ℕ) → candidates_of s i ≡ answers set → check_of s ≡ answers (header_of s)
  unfolding candidates_of check_of
  accepted i set e = accepted_alike (trials s) (candidate_set N i) set (header_of s) e

  own : (h : Header) → check_of s ≡ answers h → check_of s ≡ answers (header_of s)
  unfolding check_of
  own h read = accepted_alike (trials s) (header_of s) h (header_of s) read

  told : (i p : ℕ) → Asked s i p → why_of s i p ≡ answers (stands i p)
  unfolding night_in why_of
  told i p a = why_answered s i p (header_of s) (own a.accepted.0 a.accepted.1) (of_asked i p a)

  not_told : (h : Header) → check_of s ≡ answers h → (i p : ℕ) → (Asked s i p → ⊥) → why_of s i p ≡ refuses 16 i
  unfolding night_in why_of
  not_told h read i p unfit = go (unasked N i p) refl
    where
      go : (b : Bool) → unasked N i p ≡ b → why_of s i p ≡ refuses 16 i
      go true e = why_unasked s i p (header_of s) (own h read) e
      go false e = absurd (unfit (asked_of h read i p e))

  -- the theorem over a night, for what is asked so
  exactly : (i p : ℕ) → Asked s i p → (k c set : ℕ)
      → (stands i p ≡ out k c set) ↔ (FirstOut N i (clear_of N p) (sealed_of N p) k c × Named (looked_at N i k) (clear_of N p) (sealed_of N p) c set)
  exactly i p a = out_exactly N (accepted_promises s a.accepted.0 a.accepted.1) i a.node a.step (clear_of N p) (sealed_of N p)

  out_told : (i p k c set : ℕ) → OutBy s i p k c set → why_of s i p ≡ answers (out k c set)
  out_told i p k c set w = told i p w.asked ∙ ap answers ((exactly i p w.asked k c set).1 (w.first, w.named))

  out-by : (i p k c set : ℕ) → why_of s i p ≡ answers (out k c set) → OutBy s i p k c set
  out-by i p k c set e =
      let w = answered i p (out k c set) e in
      let u = (exactly i p w.0 k c set).0 w.1 in
      record { asked = w.0; first = u.0; named = u.1 }

  -- a member of the set that is answered is asked about a step
  member_asked : (i p set : ℕ) → candidates_of s i ≡ answers set → In p set → Asked s i p
  unfolding night_in
  member_asked i p set e h =
      let w = (candidates_exactly s i set e p).0 h in
      record { accepted = (header_of s, accepted i set e); node = below (ltb i N.header.nodes) refl w.1.step; step = w.1.step; subject = w.0 }
    where
      below : (b : Bool) → ltb i N.header.nodes ≡ b → ((node_of N i).kind ≡ 0 → ⊥) → i < N.header.nodes
      below true l step = ltb-true i N.header.nodes l
      below false l step = absurd (step (rw (node_past s (header_of s) i (ltb-false i N.header.nodes l)) refl))

pub why_out : WhyOut
unfolding candidates_of why_of why_trials
why_out =
    record {
      answered = λ s i p. (λ w. (answered s i p w.0 w.1).0, λ a. (stands s i p, told s i p a));
      out = λ s i p k c set. (out-by s i p k c set, out_told s i p k c set);
      candidate = λ s i p set e. (
        λ q.
            let w = answered s i p None q in
            (candidates_exactly s i set e p).1 (w.0.subject, (candidate_standing (night_of s) i _ _ w.0.step).0 w.1),
        λ h.
            let a = member_asked s i p set e h in
            told s i p a ∙ ap answers ((candidate_standing (night_of s) i _ _ a.step).1 ((candidates_exactly s i set e p).0 h).1),
      );
      refused = λ s i p n q e. refused_then (trials s) (asked_trials (night_of s) i p) (candidate_set (night_of s) i) (stands s i p) n q e;
      not_asked = λ s h read i p. (
        λ e a. never (stands s i p) 16 i (sym e ∙ told s i p a),
        not_told s h read i p,
      );
      result_tied = λ s i p c set e.
          let w = out-by s i p of_result c set e in
          let a = w.asked in
          result_tied (night_of s) (accepted_promises s a.accepted.0 a.accepted.1) i a.node a.step _ _ c w.first;
      once = λ s i p a b e f. why_once a b (e ∙ sym f);
    }
