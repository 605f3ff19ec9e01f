-- Where every grant is in force on every day, neither the day nor whether the version has days changes any answer.
use Prim.Native.Nat.{ℕ, ◌+◌, ◌-◌, ◌*◌}
use mathlib.Core.Path.{◌≡◌, refl, sym, subst, ◌∙◌}
use mathlib.Core.List.{[], ◌++◌}
use mathlib.Core.Logic.{◌↔◌}
use lib.Dec.{eqb}
use lib.ListN.{get_or}
use Rattle.std.specs.Prelude.{if◌then◌else◌}
use Rattle.laws.specs.Sums.{sum}
use Rattle.laws.specs.Trials.{verdict}
use Rattle.sets.specs.Sets.{In, size}
use Rattle.night.specs.declared.Node.{Node}
use Rattle.night.specs.Night.{Night, relation_of, node_of, pair_of, step_price, link_price}
use Rattle.night.specs.Kinds.{uses_left, uses_right, reads, read_together, pairs_read, its_pair, visibles, visible_step}
use Rattle.night.specs.Views.{clear_of, sealed_of}
use Rattle.night.specs.Days.{in_version, ButDays}
use Rattle.night.proofs.Days.{clear_same, sealed_same}
use Rattle.run.specs.Keys.{Plan, key_name, key_holders}
use Rattle.model.specs.Tables.{least_view}
use Rattle.model.specs.Choice.{Choice, Admissible, Least, handed, cost_at, total, weight, steps_at, steps}
use Rattle.model.specs.Plan.{leaves_sealed, arrives_sealed, opens_at, sealed_step, sealed_results, openings, seals_step, sealings, built, root_tied, name_in, holders_in, in_turn, plan_room, keys_room}
use Rattle.model.specs.Reasons.{of_left, of_right, of_result, looked_at, conditions, reasons, named, standing}
use Rattle.model.specs.OnePair.{SameAs}
use Rattle.model.specs.Days.{AnsweredAlike, AlwaysAnswered}
use Rattle.model.proofs.NightsAlike.{AlikeNodes, AlikeNights, events_same, all_events_same, alike_same}

module _ (N : Night) (version day : ℕ) (but : ButDays N version day) where
  abbrev M : Night
  M = in_version N version day

  stays : (v : Node) → AlikeNodes N M v v
  unfolding in_version reads pairs_read read_together its_pair pair_of
  stays v =
      record { leaf = refl; uses-right = refl; left = refl; right = refl; set = refl; needed = refl; shows = λ l r. refl; read = refl; tested = refl; tied = refl }

  alike : AlikeNights N M
  unfolding in_version node_of
  alike =
      record {
        header = record { subjects = refl; attributes = refl; nodes = refl; user = refl; delivering = but.delivering };
        clears = clear_same N version day but;
        sealeds = sealed_same N version day but;
        node = λ i. stays (node_of N i);
      }

  same : SameAs N M
  same = alike_same N M alike

  -- the same reasons
  looked_same : (i k : ℕ) → looked_at N i k ≡ looked_at M i k
  unfolding looked_at in_version node_of
  looked_same i k =
      λ d. if eqb k of_left then least_view (node_of N i).needed (same.table (node_of N i).left d) else
      if eqb k of_right then least_view (node_of N i).needed (same.table (node_of N i).right d) else
      same.table i d

  stands_same : (i p : ℕ) → standing N i (clear_of N p) (sealed_of N p) ≡ standing M i (clear_of M p) (sealed_of M p)
  unfolding standing reasons in_version node_of
  stands_same i p =
      λ d.
      named (λ k. looked_same i k d) (clear_same N version day but p d) (sealed_same N version day but p d)
      (verdict
      (conditions of_left (looked_same i of_left d) (clear_same N version day but p d) (sealed_same N version day but p d)
      ++ ((if uses_right (node_of N i).kind then conditions of_right (looked_same i of_right d) (clear_same N version day but p d) (sealed_same N version day but p d) else [])
      ++ conditions of_result (looked_same i of_result d) (clear_same N version day but p d) (sealed_same N version day but p d)))
      tt)

  -- the same choices, at the same costs
  costs_same : (c : Choice) → total N c ≡ total M c
  unfolding total cost_at handed step_price link_price node_of in_version
  costs_same c = refl

  allowed : (c : Choice) → Admissible N c → Admissible M c
  unfolding in_version node_of relation_of
  allowed c a = record { leaf = a.leaf; step = λ i l k. subst (λ (S : ℕ). In (c i) S) (same.candidates i) (a.step i l k) }

  allowed_back : (c : Choice) → Admissible M c → Admissible N c
  unfolding in_version node_of relation_of
  allowed_back c a = record { leaf = a.leaf; step = λ i l k. subst (λ (S : ℕ). In (c i) S) (sym (same.candidates i)) (a.step i l k) }

  least_same : (c : Choice) → Least N c ↔ Least M c
  unfolding in_version
  least_same c = (
    λ l.
        record {
          admissible = allowed c l.admissible;
          cheapest = λ d a. rw (← costs_same c, ← costs_same d) (l.cheapest d (allowed_back d a));
          earliest = λ d a e. l.earliest d (allowed_back d a) (rw (costs_same c, costs_same d) e);
        },
    λ l.
        record {
          admissible = allowed_back c l.admissible;
          cheapest = λ d a. rw (costs_same c, costs_same d) (l.cheapest d (allowed d a));
          earliest = λ d a e. l.earliest d (allowed d a) (rw (← costs_same c, ← costs_same d) e);
        },
  )

  -- in as many steps
  weight_same : (i : ℕ) → weight N i ≡ weight M i
  unfolding weight in_version node_of
  weight_same i = λ d. if eqb (node_of N i).kind 0 then 1 else size (same.candidates i d)

  steps_same : steps N ≡ steps M
  unfolding steps steps_at in_version node_of
  steps_same =
      λ d.
      sum (λ i.
      (if uses_left (node_of N i).kind then weight_same i d * weight_same (node_of N i).left d else 0)
      + (if uses_right (node_of N i).kind then weight_same i d * weight_same (node_of N i).right d else 0))
      N.header.nodes

  -- the same plan, under the same keys
  built_same : (c : Choice) → built N c ≡ built M c
  unfolding openings opens_at arrives_sealed leaves_sealed sealed_results sealed_step sealings seals_step visibles visible_step node_of in_version
  built_same c = refl

  tied_same : (k : ℕ) → root_tied N k ≡ root_tied M k
  unfolding root_tied in_version
  tied_same k = λ d. get_or (same.table (N.header.nodes - 1) d).tied k 0

  keys_same : (p : Plan) → keys_room N p ≡ keys_room M p
  unfolding keys_room name_in holders_in in_version
  keys_same p =
      λ d.
      in_turn (λ k. key_name (λ j. tied_same j d) (events_same N M alike p d) k) (λ k. key_holders (λ j. tied_same j d) (all_events_same N M alike p d) k)
      N.header.attributes

  pub answered : AnsweredAlike N M
  unfolding plan_room in_version
  answered =
      record {
        same = same;
        stands = stands_same;
        least = least_same;
        costs = costs_same;
        counted = steps_same;
        plan = λ c. λ d. in_turn (built_same c d).opens (built_same c d).seals N.header.nodes;
        keys = λ c. keys_same (built N c) ∙ (λ d. keys_room M (built_same c d));
      }

pub always_answered : AlwaysAnswered
always_answered = answered
