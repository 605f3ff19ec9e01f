-- The runs on small nights, by computation.
use Prim.Native.Nat.{ℕ}
use mathlib.Core.Path.{◌≡◌, refl, sym, ◌∙◌}
use native.Mathlib.Omega.{arith}
use lib.Count.{count_trailing_zeros}
use mathlib.Core.Logic.{inl, inr}
use Rattle.laws.specs.Choose.{any_of}
use Rattle.laws.specs.First.{first}
use Rattle.laws.specs.Upwards.{upwards}
use Rattle.sets.specs.Sets.{bit, member, union, meet, minus, apart, single, unions, lowest}
use Rattle.night.specs.Night.{grant_of, node_of, pair_of}
use Rattle.night.specs.Versions.{delivers}
use Rattle.night.specs.Kinds.{uses_left, uses_right, its_pair, both_of, pairs_read, reads, read_together, visible_after, visible_step, visibles}
use Rattle.night.specs.Views.{is_for, shares_day, is_for_on, grant_on, view_on, clear_on, sealed_on}
use Rattle.run.specs.Linked.{one, step}
use Rattle.run.specs.Keys.{events, ever_sealed, group_of, key_name, holders_of, key_holders}
use Rattle.run.specs.Run.{clear, sealed, tested_by, tied_by, Tested, Tied, spread_over, spread, spread_times, reached, key_of, holders, leaving, opened_by, together, leaf_held, result_over, arriving, held_step, helds, result_of, left_arrives, right_arrives, left_opened, right_opened, arrived, opened, delivered, received, sealed_in, deliveries, all_events, seals_unclear, opens_unsealed, opens_unheld, needs_unclear, mixes, clear_column, clear_test, sealed_column, sealed_test, tied_apart, left-arrives, right-arrives, left-opened, right-opened, result_made, user_takes, user_opens, user_unheld}
use Rattle.run.proofs.Forms.{absent_clear, absent_sealed, sealed_clear, same_sealed}
use Rattle.run.specs.Runs.{seen_in, seen_on, seen_to, plan, Runs}

no : ◌≡◌ {A = ℕ} 0 1 → ⊥
no e = omega arith

join_made : ◌≡◌ {A = ℕ} 5 0 → ⊥
join_made e = omega arith

pairs_made : ◌≡◌ {A = ℕ} 9 0 → ⊥
pairs_made e = omega arith

clear_sealed : (key : ℕ) → clear ≡ sealed key → ⊥
clear_sealed key e = sealed_clear (sym e)

one_key : {k : ℕ} → sealed 0 ≡ sealed k → sealed 64 ≡ sealed k → ⊥
one_key e f = let z : ◌≡◌ {A = ℕ} 0 64 = same_sealed (e ∙ sym f) in omega arith

pub runs : Runs
unfolding any_of first upwards bit member union meet minus apart single unions lowest grant_of node_of pair_of uses_left uses_right its_pair both_of pairs_read reads read_together visible_after visible_step visibles is_for shares_day is_for_on grant_on view_on clear_on sealed_on events ever_sealed group_of key_name holders_of key_holders tested_by tied_by Tested Tied spread_over spread spread_times reached key_of holders leaving opened_by together leaf_held result_over arriving held_step helds result_of left_arrives right_arrives left_opened right_opened arrived opened delivers delivered received sealed_in deliveries all_events seen_in seen_on seen_to plan count_trailing_zeros
runs =
    record {
      seals_twice = λ c. c.free 1 (omega arith) (seals_unclear 0 refl sealed_clear);
      leaf_seals_absent = λ c. c.free 0 (omega arith) (seals_unclear 1 refl absent_clear);
      step_seals_absent = λ c. c.free 1 (omega arith) (seals_unclear 0 refl absent_clear);
      opens_clear = λ c. c.free 1 (omega arith) (opens_unsealed 0 refl clear_sealed);
      opens_absent = λ c. c.free 1 (omega arith) (opens_unsealed 1 refl (λ key. absent_sealed));
      leaf_opens = λ c. c.free 0 (omega arith) (opens_unsealed 0 refl (λ key. absent_sealed));
      opens_unheld = λ c. c.free 1 (omega arith) (opens_unheld 0 0 refl refl no);
      needs_sealed = λ c. c.free 1 (omega arith) (needs_unclear 0 refl sealed_clear);
      compare_mixed = λ c. c.free 1 (omega arith) (mixes 3 (inl refl) (λ all. sealed_clear (all 0 refl)) (λ key all. clear_sealed key (all 1 refl)));
      join_mixed = λ c. c.free 2 (omega arith) (mixes 5 (inl refl) (λ all. sealed_clear (all 0 refl)) (λ key all. clear_sealed key (all 2 refl)));
      function_mixed = λ c. c.free 1 (omega arith) (mixes 3 (inl refl) (λ all. sealed_clear (all 1 refl)) (λ key all. clear_sealed key (all 0 refl)));
      opened_half = λ c. c.free 1 (omega arith) (mixes 3 (inl refl) (λ all. sealed_clear (all 1 refl)) (λ key all. clear_sealed key (all 0 refl)));
      two_keys = λ c. c.free 1 (omega arith) (mixes 18446744073709551617 (inl refl) (λ all. sealed_clear (all 0 refl)) (λ key all. one_key (all 0 refl) (all 64 refl)));
      clear_left = λ c. c.allowed 1 (omega arith) (left-arrives refl (clear_column 0 refl no));
      sealed_left = λ c. c.allowed 1 (omega arith) (left-arrives refl (sealed_column 0 0 refl no no));
      clear_right = λ c. c.allowed 2 (omega arith) (right-arrives refl (clear_column 0 refl no));
      sealed_right = λ c. c.allowed 2 (omega arith) (right-arrives refl (sealed_column 0 0 refl no no));
      day_over = λ c. c.allowed 1 (omega arith) (left-arrives refl (clear_column 0 refl no));
      opened_left = λ c. c.allowed 1 (omega arith) (left-opened refl (clear_column 0 refl no));
      opened_right = λ c. c.allowed 2 (omega arith) (right-opened refl (clear_column 0 refl no));
      select_clear = λ c. c.allowed 3 (omega arith) (left-arrives refl (clear_test 0 (inl (refl, refl)) no));
      group_clear = λ c. c.allowed 3 (omega arith) (left-arrives refl (clear_test 0 (inl (refl, refl)) no));
      count_clear = λ c. c.allowed 3 (omega arith) (left-arrives refl (clear_test 0 (inl (refl, refl)) no));
      select_sealed = λ c. c.allowed 3 (omega arith) (left-arrives refl (sealed_test 0 0 (inl (refl, refl)) no no));
      group_sealed = λ c. c.allowed 3 (omega arith) (left-arrives refl (sealed_test 0 0 (inl (refl, refl)) no no));
      count_sealed = λ c. c.allowed 3 (omega arith) (left-arrives refl (sealed_test 0 0 (inl (refl, refl)) no no));
      compare_tied = λ c. c.allowed 3 (omega arith) (left-arrives refl (tied_apart 0 0 1 (one {m = 3} (inl (inl refl)) refl refl) (one {m = 3} (inl (inl refl)) refl refl) no no));
      function_tied = λ c. c.allowed 3 (omega arith) (left-arrives refl (tied_apart 0 0 1 (one {m = 3} (inl (inl refl)) refl refl) (one {m = 3} (inl (inl refl)) refl refl) no no));
      tied_alone = λ c. c.allowed 3 (omega arith) (left-arrives refl (tied_apart 0 0 0 (one {m = 1} (inl (inl refl)) refl refl) (one {m = 1} (inl (inl refl)) refl refl) no no));
      tied_result = λ c. c.allowed 2 (omega arith) (result_made join_made (tied_apart 0 2 0 (one {m = 5} (inl (inl refl)) refl refl) (one {m = 5} (inl (inl refl)) refl refl) no no));
      chain = λ c. c.allowed 6 (omega arith) (left-arrives refl (tied_apart 1 3 0 (step {j = 2} (one {m = 6} (inr (inl (inl refl))) refl refl) (inr (inr (inl (inl refl)))) refl refl) (one {m = 3} (inl (inl refl)) refl refl) no no));
      stuck_leaf = opens_unsealed 0 refl (λ key. absent_sealed);
      stuck_step = seals_unclear 0 refl sealed_clear;
      forbidden_step = result_made join_made (tied_apart 0 2 0 (one {m = 5} (inl (inl refl)) refl refl) (one {m = 5} (inl (inl refl)) refl refl) no no);
      user_clear = λ c. c.delivery refl (user_opens (clear_column 0 refl no));
      user_test = λ c. c.delivery refl (user_opens (clear_test 0 (inl (refl, refl)) no));
      user_tied = λ c. c.delivery refl (user_opens (tied_apart 0 0 1 (one {m = 3} (inl (inl refl)) refl refl) (one {m = 3} (inl (inl refl)) refl refl) no no));
      user_opens = λ c. c.delivery refl (user_opens (clear_column 0 refl no));
      user_opens_early = λ c. c.delivery refl (user_opens (clear_column 0 refl no));
      user_unheld = λ c. c.delivery refl (user_unheld 0 0 refl no);
      user_opens_own = λ c. c.delivery refl (user_opens (clear_column 0 refl no));
      user_leaf_clear = λ c. c.delivery refl (user_opens (clear_column 0 refl no));
      user_takes = user_takes (sealed_column 0 0 refl no no);
      user_day_over = user_takes (clear_column 0 refl no);
      user_holds = refl;
      user_holds_last = refl;
      user_holds_own = refl;
      user_holds_pairs = refl;
      user_clear_pairs = λ c. c.delivery refl (user_opens (clear_column 0 refl no));
      user_clear_holds = refl;
      user_leaf_holds = refl;
      nobody_holds = refl;
      user_gone_holds = refl;
      user_tied_holds = refl;
      user_last_holds = refl;
      chain_key = refl;
      chain_key_unsealed = refl;
      no_key = refl;
      own_key = refl;
      chain_holders = refl;
      unsealed_holders = refl;
      own_holders = refl;
      shared_key = refl;
      shared_key_first = refl;
      shared_key_last = refl;
      apart_key_first = refl;
      apart_key_last = refl;
      third_key = refl;
      past_key = refl;
      before_key = refl;
      pair_mixed = λ c. c.free 2 (omega arith) (mixes 5 (inl refl) (λ all. sealed_clear (all 0 refl)) (λ key all. clear_sealed key (all 2 refl)));
      last_pair_mixed = λ c. c.free 2 (omega arith) (mixes 10 (inr (inl refl)) (λ all. sealed_clear (all 1 refl)) (λ key all. clear_sealed key (all 3 refl)));
      third_pair_mixed = λ c. c.free 2 (omega arith) (mixes 10 (inr (inr (inl refl))) (λ all. sealed_clear (all 1 refl)) (λ key all. clear_sealed key (all 3 refl)));
      pair_mixed_beside = λ c. c.free 2 (omega arith) (mixes 5 (inl refl) (λ all. sealed_clear (all 2 refl)) (λ key all. clear_sealed key (all 0 refl)));
      needs_pair = λ c. c.free 2 (omega arith) (needs_unclear 1 refl sealed_clear);
      pair_half_seen = λ c. c.allowed 2 (omega arith) (result_made pairs_made (tied_apart 0 2 0 (one {m = 5} (inl (inl refl)) refl refl) (one {m = 5} (inl (inl refl)) refl refl) no no));
      last_pair_half_seen = λ c. c.allowed 2 (omega arith) (result_made pairs_made (tied_apart 1 3 1 (one {m = 10} (inl (inr (inl refl))) refl refl) (one {m = 10} (inl (inr (inl refl))) refl refl) no no));
      shared_half_seen = λ c. c.allowed 2 (omega arith) (result_made pairs_made (tied_apart 0 3 2 (one {m = 9} (inl (inr (inl refl))) refl refl) (one {m = 5} (inl (inl refl)) refl refl) no no));
    }
