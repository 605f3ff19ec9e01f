-- What must not be refused, by computation.
use Prim.Native.Nat.{ℕ, zero, suc, ◌<◌}
use mathlib.Core.Bool.{Bool, true, false}
use mathlib.Core.List.{List, [], ◌∷◌}
use mathlib.Core.Path.{◌≡◌, refl, sym, ◌∙◌}
use native.Mathlib.Omega.{arith}
use lib.Count.{count_trailing_zeros}
use lib.ListN.{get_or}
use mathlib.Core.Logic.{inl, inr, ⊎_elim}
use Rattle.std.specs.Prelude.{if◌then◌else◌}
use Rattle.laws.specs.Choose.{any_of}
use Rattle.laws.specs.First.{first}
use Rattle.laws.specs.Upwards.{upwards}
use Rattle.sets.specs.Sets.{In, bit, member, union, meet, minus, apart, single, unions, lowest}
use Rattle.sets.proofs.Members.{bit_beyond, out_member, in_none}
use Rattle.night.specs.Night.{Night, grant_of, node_of}
use Rattle.night.specs.Versions.{delivers}
use Rattle.night.specs.Kinds.{uses_left, uses_right, reads, read_together, visible_after, visible_step, visibles}
use Rattle.night.specs.Views.{is_for, shares_day, is_for_on, grant_on, view_on, clear_on, sealed_on}
use Rattle.run.specs.Linked.{Chain, one, step}
use Rattle.run.specs.Keys.{Plan, events, ever_sealed, group_of, key_name, holders_of, key_holders}
use Rattle.run.specs.Run.{Form, absent, clear, sealed, Held, sealed_under, unsealed, tested_by, tied_by, Tested, Tied, spread_over, spread, spread_times, reached, key_of, holders, leaving, opened_by, together, leaf_held, result_over, arriving, held_step, helds, result_of, left_arrives, right_arrives, left_opened, right_opened, arrived, opened, delivered, received, sealed_in, deliveries, all_events, Stuck, seals_unclear, opens_unsealed, opens_unheld, needs_unclear, mixes, Forbidden, clear_column, clear_test, sealed_column, sealed_test, tied_apart, ForbiddenAt, left-arrives, right-arrives, left-opened, right-opened, result_made, ForbidsUser, DeliveryFails, user_takes, user_opens, user_unheld, Clean}
use Rattle.run.proofs.Forms.{absent_clear, absent_sealed, sealed_clear, same_sealed}
use Rattle.run.proofs.Pairs.{pairs_clean, needs_one_pair, pair_past, pair_before}
use Rattle.run.specs.Runs.{leaf, compare, select, two, hands_on, seen_in, seen, user_sees, plan, CleanRuns}

no : ◌≡◌ {A = ℕ} 0 1 → ⊥
no e = omega arith

clear_sealed : (key : ℕ) → clear ≡ sealed key → ⊥
clear_sealed key e = sealed_clear (sym e)

-- a set of attributes below 2 has no others
low : (S a : ℕ) → S < 4 → In (suc (suc a)) S → ⊥
low S a l h = omega (arith, bit_beyond 2 S (suc (suc a)) l (omega arith))

false_true : false ≡ true → ⊥
false_true e = let z : ◌≡◌ {A = ℕ} 0 1 = cc in no z

-- leaf and project over {0, 1}, in any version, for any user, openings and sealings: no other columns
module _ (version user : ℕ) (opens seals : List ℕ) where
  abbrev N : Night
  N = seen_in version user 1 3 0 two

  abbrev p : Plan
  p = plan (0 ∷ 1 ∷ []) opens seals

  closed : (b : Bool) (key : ℕ) → (if b then sealed_under key absent else absent) ≡ absent
  closed true key = refl
  closed false key = refl

  stays : (b : Bool) → (if b then unsealed absent else absent) ≡ absent
  stays true = refl
  stays false = refl

  arrives_none : (a : ℕ) → (left_arrives N p 1).column (suc (suc a)) ≡ absent
  unfolding any_of first upwards union meet minus apart single unions lowest grant_of node_of uses_left uses_right reads read_together visible_after visible_step visibles is_for shares_day is_for_on grant_on view_on clear_on sealed_on events ever_sealed group_of key_name holders_of key_holders tested_by tied_by Tested Tied spread_over spread spread_times reached key_of holders leaving opened_by together leaf_held result_over arriving held_step helds result_of left_arrives right_arrives left_opened right_opened arrived opened delivers delivered received sealed_in deliveries all_events seen_in plan count_trailing_zeros
  arrives_none a = rw (out_member 3 (suc (suc a)) (low 3 a (omega arith))) (closed (member (get_or seals 0 0) (suc (suc a))) (key_of N p (suc (suc a))))

  opened_none : (a : ℕ) → (left_opened N p 1).column (suc (suc a)) ≡ absent
  unfolding left_opened opened_by
  opened_none a = rw (arrives_none a) (stays (member (p.opens 1) (suc (suc a))))

  result_none : (a : ℕ) → (result_of N p 1).column (suc (suc a)) ≡ absent
  unfolding any_of first upwards union meet minus apart single unions lowest grant_of node_of uses_left uses_right reads read_together visible_after visible_step visibles is_for shares_day is_for_on grant_on view_on clear_on sealed_on events ever_sealed group_of key_name holders_of key_holders tested_by tied_by Tested Tied spread_over spread spread_times reached key_of holders leaving opened_by together leaf_held result_over arriving held_step helds result_of left_arrives right_arrives left_opened right_opened arrived opened delivers delivered received sealed_in deliveries all_events seen_in plan count_trailing_zeros
  result_none a = rw (out_member 3 (suc (suc a)) (low 3 a (omega arith))) refl

  -- nothing is tested or tied, so none is forbidden to a subject that sees both in clear
  allowed : (t : Held) → ((a : ℕ) → t.column (suc (suc a)) ≡ absent) → ((a : ℕ) (form : Form) → Tested N t.past a form → ⊥)
      → ((m : ℕ) → Tied N t.past m → ⊥) → Forbidden N t 3 0 → ⊥
  unfolding any_of first upwards bit member union meet minus apart single unions lowest grant_of node_of uses_left uses_right reads read_together visible_after visible_step visibles is_for shares_day is_for_on grant_on view_on clear_on sealed_on events ever_sealed group_of key_name holders_of key_holders tested_by tied_by Tested Tied spread_over spread spread_times reached key_of holders leaving opened_by together leaf_held result_over arriving held_step helds result_of left_arrives right_arrives left_opened right_opened arrived opened delivers delivered received sealed_in deliveries all_events seen_in plan count_trailing_zeros
  allowed t none untested untied (clear_column zero e out) = out refl
  allowed t none untested untied (clear_column (suc zero) e out) = out refl
  allowed t none untested untied (clear_column (suc (suc a)) e out) = absent_clear (sym (none a) ∙ e)
  allowed t none untested untied (clear_test a e out) = untested a clear e
  allowed t none untested untied (sealed_column zero key e out off) = out refl
  allowed t none untested untied (sealed_column (suc zero) key e out off) = out refl
  allowed t none untested untied (sealed_column (suc (suc a)) key e out off) = absent_sealed (sym (none a) ∙ e)
  allowed t none untested untied (sealed_test a key e out off) = untested a (sealed key) e
  allowed t none untested untied (tied_apart a b c x y out off) = unlinked x
    where
      unlinked : {j k : ℕ} → Chain (Tied N t.past) j k → ⊥
      unlinked (one r h l) = untied _ r
      unlinked (step c r h l) = untied _ r

  two_allowed : (i : ℕ) → i < 2 → ForbiddenAt N p i → ⊥
  unfolding any_of first upwards bit member union meet minus apart single unions lowest grant_of node_of uses_left uses_right reads read_together visible_after visible_step visibles is_for shares_day is_for_on grant_on view_on clear_on sealed_on events ever_sealed group_of key_name holders_of key_holders tested_by tied_by Tested Tied spread_over spread spread_times reached key_of holders leaving opened_by together leaf_held result_over arriving held_step helds result_of left_arrives right_arrives left_opened right_opened arrived opened delivers delivered received sealed_in deliveries all_events seen_in plan count_trailing_zeros
  two_allowed zero l (left-arrives u f) = false_true u
  two_allowed zero l (right-arrives u f) = false_true u
  two_allowed zero l (left-opened u f) = false_true u
  two_allowed zero l (right-opened u f) = false_true u
  two_allowed zero l (result_made s f) = s refl
  two_allowed (suc zero) l (left-arrives u f) = allowed (left_arrives N p 1) arrives_none (λ a form t. t) (λ m t. t) f
  two_allowed (suc zero) l (right-arrives u f) = false_true u
  two_allowed (suc zero) l (left-opened u f) = allowed (left_opened N p 1) opened_none (λ a form t. t) (λ m t. t) f
  two_allowed (suc zero) l (right-opened u f) = false_true u
  two_allowed (suc zero) l (result_made s f) =
      allowed (result_of N p 1) result_none (λ a form t. ⊎_elim (λ h. in_none a h.0) (λ x. x) t) (λ m t. ⊎_elim (λ h. h) (λ x. x) t) f
  two_allowed (suc (suc i)) l f = absurd (omega arith)

  -- such a plan is clean where leaf and project are not stuck, and the delivery, where there is one, does not fail
  two_clean : (Stuck N p 0 → ⊥) → (Stuck N p 1 → ⊥) → (delivers version ≡ true → DeliveryFails N p → ⊥) → Clean N p
  unfolding seen_in
  two_clean first second taken = record { free = free; allowed = two_allowed; delivery = taken }
    where
      free : (i : ℕ) → i < 2 → Stuck N p i → ⊥
      free zero l = first
      free (suc zero) l = second
      free (suc (suc i)) l = absurd (omega arith)

-- what nothing is sealed or opened by is not stuck: the leaf, and the project
idle_leaf : (version user : ℕ) (seals : List ℕ) → get_or seals 0 0 ≡ 0 → Stuck (seen_in version user 1 3 0 two) (plan (0 ∷ 1 ∷ []) [] seals) 0 → ⊥
unfolding any_of first upwards bit member union meet minus apart single unions lowest grant_of node_of uses_left uses_right reads read_together visible_after visible_step visibles is_for shares_day is_for_on grant_on view_on clear_on sealed_on events ever_sealed group_of key_name holders_of key_holders tested_by tied_by Tested Tied spread_over spread spread_times reached key_of holders leaving opened_by together leaf_held result_over arriving held_step helds result_of left_arrives right_arrives left_opened right_opened arrived opened delivers delivered received sealed_in deliveries all_events seen_in plan count_trailing_zeros
idle_leaf version user seals e (seals_unclear a h u) = in_none a (rw e at h)
idle_leaf version user seals e (opens_unsealed a h u) = in_none a h
idle_leaf version user seals e (opens_unheld a key h q u) = in_none a h
idle_leaf version user seals e (needs_unclear a h u) = in_none a h
idle_leaf version user seals e (mixes m q u v) = absurd q

idle : (version user : ℕ) → Stuck (seen_in version user 1 3 0 two) (plan (0 ∷ 1 ∷ []) [] []) 1 → ⊥
unfolding any_of first upwards bit member union meet minus apart single unions lowest grant_of node_of uses_left uses_right reads read_together visible_after visible_step visibles is_for shares_day is_for_on grant_on view_on clear_on sealed_on events ever_sealed group_of key_name holders_of key_holders tested_by tied_by Tested Tied spread_over spread spread_times reached key_of holders leaving opened_by together leaf_held result_over arriving held_step helds result_of left_arrives right_arrives left_opened right_opened arrived opened delivers delivered received sealed_in deliveries all_events seen_in plan count_trailing_zeros
idle version user (seals_unclear a h u) = in_none a h
idle version user (opens_unsealed a h u) = in_none a h
idle version user (opens_unheld a key h e u) = in_none a h
idle version user (needs_unclear a h u) = in_none a h
idle version user (mixes m q u v) = absurd q

-- the root seals both
seals_both : (version user : ℕ) → Stuck (seen_in version user 1 3 0 two) (plan (0 ∷ 1 ∷ []) [] (0 ∷ 3 ∷ [])) 1 → ⊥
unfolding any_of first upwards bit member union meet minus apart single unions lowest grant_of node_of uses_left uses_right reads read_together visible_after visible_step visibles is_for shares_day is_for_on grant_on view_on clear_on sealed_on events ever_sealed group_of key_name holders_of key_holders tested_by tied_by Tested Tied spread_over spread spread_times reached key_of holders leaving opened_by together leaf_held result_over arriving held_step helds result_of left_arrives right_arrives left_opened right_opened arrived opened delivers delivered received sealed_in deliveries all_events seen_in plan count_trailing_zeros
seals_both version user (seals_unclear zero h u) = u refl
seals_both version user (seals_unclear (suc zero) h u) = u refl
seals_both version user (seals_unclear (suc (suc a)) h u) = low 3 a (omega arith) h
seals_both version user (opens_unsealed a h u) = in_none a h
seals_both version user (opens_unheld a key h e u) = in_none a h
seals_both version user (needs_unclear a h u) = in_none a h
seals_both version user (mixes m q u v) = absurd q

-- the leaf seals both, and the project opens them
leaf_seals : Stuck (seen 3 0 two) (plan (0 ∷ 1 ∷ []) (0 ∷ 3 ∷ []) (3 ∷ [])) 0 → ⊥
unfolding any_of first upwards bit member union meet minus apart single unions lowest grant_of node_of uses_left uses_right reads read_together visible_after visible_step visibles is_for shares_day is_for_on grant_on view_on clear_on sealed_on events ever_sealed group_of key_name holders_of key_holders tested_by tied_by Tested Tied spread_over spread spread_times reached key_of holders leaving opened_by together leaf_held result_over arriving held_step helds result_of left_arrives right_arrives left_opened right_opened arrived opened delivers delivered received sealed_in deliveries all_events seen_in plan count_trailing_zeros
leaf_seals (seals_unclear zero h u) = u refl
leaf_seals (seals_unclear (suc zero) h u) = u refl
leaf_seals (seals_unclear (suc (suc a)) h u) = low 3 a (omega arith) h
leaf_seals (opens_unsealed a h u) = in_none a h
leaf_seals (opens_unheld a key h e u) = in_none a h
leaf_seals (needs_unclear a h u) = in_none a h
leaf_seals (mixes m q u v) = absurd q

opens_both : Stuck (seen 3 0 two) (plan (0 ∷ 1 ∷ []) (0 ∷ 3 ∷ []) (3 ∷ [])) 1 → ⊥
unfolding any_of first upwards bit member union meet minus apart single unions lowest grant_of node_of uses_left uses_right reads read_together visible_after visible_step visibles is_for shares_day is_for_on grant_on view_on clear_on sealed_on events ever_sealed group_of key_name holders_of key_holders tested_by tied_by Tested Tied spread_over spread spread_times reached key_of holders leaving opened_by together leaf_held result_over arriving held_step helds result_of left_arrives right_arrives left_opened right_opened arrived opened delivers delivered received sealed_in deliveries all_events seen_in plan count_trailing_zeros
opens_both (seals_unclear a h u) = in_none a h
opens_both (opens_unsealed zero h u) = u 0 refl
opens_both (opens_unsealed (suc zero) h u) = u 1 refl
opens_both (opens_unsealed (suc (suc a)) h u) = low 3 a (omega arith) h
opens_both (opens_unheld zero key h e u) = u (rw (← same_sealed e) refl)
opens_both (opens_unheld (suc zero) key h e u) = u (rw (← same_sealed e) refl)
opens_both (opens_unheld (suc (suc a)) key h e u) = low 3 a (omega arith) h
opens_both (needs_unclear a h u) = in_none a h
opens_both (mixes m q u v) = absurd q

-- a step needs attribute 0, which arrives clear
needs_clear : Stuck (seen 3 0 (leaf 0 3 ∷ select 0 0 1 ∷ [])) (plan (0 ∷ 1 ∷ []) [] []) 1 → ⊥
unfolding any_of first upwards bit member union meet minus apart single unions lowest grant_of node_of uses_left uses_right reads read_together visible_after visible_step visibles is_for shares_day is_for_on grant_on view_on clear_on sealed_on events ever_sealed group_of key_name holders_of key_holders tested_by tied_by Tested Tied spread_over spread spread_times reached key_of holders leaving opened_by together leaf_held result_over arriving held_step helds result_of left_arrives right_arrives left_opened right_opened arrived opened delivers delivered received sealed_in deliveries all_events seen_in plan count_trailing_zeros
needs_clear (seals_unclear a h u) = in_none a h
needs_clear (opens_unsealed a h u) = in_none a h
needs_clear (opens_unheld a key h e u) = in_none a h
needs_clear (needs_unclear zero h u) = u refl
needs_clear (needs_unclear (suc zero) h u) = no h
needs_clear (needs_unclear (suc (suc a)) h u) = low 1 a (omega arith) h
needs_clear (mixes m q u v) = absurd q

-- it opens attribute 0, so that both of what it reads together are clear
opened_together : Stuck (seen 3 0 (leaf 0 3 ∷ compare 0 0 1 ∷ [])) (plan (0 ∷ 1 ∷ []) (0 ∷ 1 ∷ []) (1 ∷ [])) 1 → ⊥
unfolding any_of first upwards bit member union meet minus apart single unions lowest grant_of node_of uses_left uses_right reads read_together visible_after visible_step visibles is_for shares_day is_for_on grant_on view_on clear_on sealed_on events ever_sealed group_of key_name holders_of key_holders tested_by tied_by Tested Tied spread_over spread spread_times reached key_of holders leaving opened_by together leaf_held result_over arriving held_step helds result_of left_arrives right_arrives left_opened right_opened arrived opened delivers delivered received sealed_in deliveries all_events seen_in plan count_trailing_zeros
opened_together (seals_unclear a h u) = in_none a h
opened_together (opens_unsealed zero h u) = u 0 refl
opened_together (opens_unsealed (suc zero) h u) = no h
opened_together (opens_unsealed (suc (suc a)) h u) = low 1 a (omega arith) h
opened_together (opens_unheld zero key h e u) = u (rw (← same_sealed e) refl)
opened_together (opens_unheld (suc zero) key h e u) = no h
opened_together (opens_unheld (suc (suc a)) key h e u) = low 1 a (omega arith) h
opened_together (needs_unclear a h u) = in_none a h
opened_together (mixes m (inl q) u v) = u (λ a h. both a (rw q at h))
  where
    both : (a : ℕ) → In a 3 → (opened (seen 3 0 (leaf 0 3 ∷ compare 0 0 1 ∷ [])) (plan (0 ∷ 1 ∷ []) (0 ∷ 1 ∷ []) (1 ∷ [])) 1).column a ≡ clear
    both zero h = refl
    both (suc zero) h = refl
    both (suc (suc a)) h = absurd (low 3 a (omega arith) h)
opened_together (mixes m (inr q) u v) = q

leaf_unasked : ForbiddenAt (seen 0 0 two) (plan (1 ∷ 0 ∷ []) [] []) 0 → ⊥
unfolding any_of first upwards bit member union meet minus apart single unions lowest grant_of node_of uses_left uses_right reads read_together visible_after visible_step visibles is_for shares_day is_for_on grant_on view_on clear_on sealed_on events ever_sealed group_of key_name holders_of key_holders tested_by tied_by Tested Tied spread_over spread spread_times reached key_of holders leaving opened_by together leaf_held result_over arriving held_step helds result_of left_arrives right_arrives left_opened right_opened arrived opened delivers delivered received sealed_in deliveries all_events seen_in plan count_trailing_zeros
leaf_unasked (left-arrives u f) = false_true u
leaf_unasked (right-arrives u f) = false_true u
leaf_unasked (left-opened u f) = false_true u
leaf_unasked (right-opened u f) = false_true u
leaf_unasked (result_made s f) = s refl

-- what subject 1 is handed of a select on attribute 0 while it was sealed: attribute 1 in clear
abbrev tested : Plan
tested = plan (0 ∷ 0 ∷ 0 ∷ 1 ∷ []) [] (1 ∷ [])

abbrev handed : Held
handed = left_arrives (seen 2 1 (hands_on (select 0 0 0))) tested 3

others : (a : ℕ) → handed.column (suc (suc a)) ≡ absent
unfolding any_of first upwards union meet minus apart single unions lowest grant_of node_of uses_left uses_right reads read_together visible_after visible_step visibles is_for shares_day is_for_on grant_on view_on clear_on sealed_on events ever_sealed group_of key_name holders_of key_holders tested_by tied_by Tested Tied spread_over spread spread_times reached key_of holders leaving opened_by together leaf_held result_over arriving held_step helds result_of left_arrives right_arrives left_opened right_opened arrived opened delivers delivered received sealed_in deliveries all_events seen_in plan count_trailing_zeros
others a = rw (out_member 0 (suc (suc a)) (in_none (suc (suc a))), out_member 2 (suc (suc a)) (low 2 a (omega arith))) refl

untied : (a b : ℕ) → Chain (Tied (seen 2 1 (hands_on (select 0 0 0))) handed.past) a b → ⊥
unfolding any_of first upwards bit member union meet minus apart single unions lowest grant_of node_of uses_left uses_right reads read_together visible_after visible_step visibles is_for shares_day is_for_on grant_on view_on clear_on sealed_on events ever_sealed group_of key_name holders_of key_holders tested_by tied_by Tested Tied spread_over spread spread_times reached key_of holders leaving opened_by together leaf_held result_over arriving held_step helds result_of left_arrives right_arrives left_opened right_opened arrived opened delivers delivered received sealed_in deliveries all_events seen_in plan count_trailing_zeros
untied a b (one (inl t) h k) = t
untied a b (one (inr (inl t)) h k) = t
untied a b (one (inr (inr t)) h k) = t
untied a b (step c t h k) = untied a _ c

seen_sealed : Forbidden (seen 2 1 (hands_on (select 0 0 0))) handed 2 1 → ⊥
unfolding any_of first upwards bit member union meet minus apart single unions lowest grant_of node_of uses_left uses_right reads read_together visible_after visible_step visibles is_for shares_day is_for_on grant_on view_on clear_on sealed_on events ever_sealed group_of key_name holders_of key_holders tested_by tied_by Tested Tied spread_over spread spread_times reached key_of holders leaving opened_by together leaf_held result_over arriving held_step helds result_of left_arrives right_arrives left_opened right_opened arrived opened delivers delivered received sealed_in deliveries all_events seen_in plan count_trailing_zeros
seen_sealed (clear_column zero e out) = absent_clear e
seen_sealed (clear_column (suc zero) e out) = out refl
seen_sealed (clear_column (suc (suc a)) e out) = absent_clear (sym (others a) ∙ e)
seen_sealed (clear_test zero (inl (h, e)) out) = sealed_clear e
seen_sealed (clear_test (suc zero) (inl (h, e)) out) = no h
seen_sealed (clear_test (suc (suc a)) (inl (h, e)) out) = low 1 a (omega arith) h
seen_sealed (clear_test a (inr (inl (h, e))) out) = in_none a h
seen_sealed (clear_test a (inr (inr x)) out) = x
seen_sealed (sealed_column zero key e out off) = absent_sealed e
seen_sealed (sealed_column (suc zero) key e out off) = clear_sealed key e
seen_sealed (sealed_column (suc (suc a)) key e out off) = absent_sealed (sym (others a) ∙ e)
seen_sealed (sealed_test zero key (inl x) out off) = off refl
seen_sealed (sealed_test (suc zero) key (inl (h, e)) out off) = no h
seen_sealed (sealed_test (suc (suc a)) key (inl (h, e)) out off) = low 1 a (omega arith) h
seen_sealed (sealed_test a key (inr (inl (h, e))) out off) = in_none a h
seen_sealed (sealed_test a key (inr (inr x)) out off) = x
seen_sealed (tied_apart a b c x y out off) = untied a b x

-- nobody takes the root's table in version 1
unasked : (user : ℕ) (opens seals : List ℕ) → delivers 1 ≡ true → DeliveryFails (seen_in 1 user 1 3 0 two) (plan (0 ∷ 1 ∷ []) opens seals) → ⊥
unfolding delivers
unasked user opens seals d f = false_true d

-- the root seals both, and the user, who sees both in clear, opens them
abbrev handed_over : Plan
handed_over = plan (0 ∷ 1 ∷ []) [] (0 ∷ 3 ∷ [])

delivered_none : (a : ℕ) → (delivered (user_sees 3 0 two) handed_over).column (suc (suc a)) ≡ absent
unfolding delivered leaving member bit plan seen_in
delivered_none a = rw (result_none 2 1 [] (0 ∷ 3 ∷ []) a) (closed 2 1 [] (0 ∷ 3 ∷ []) (member (handed_over.seals 1) (suc (suc a))) (key_of (user_sees 3 0 two) handed_over (suc (suc a))))

received_none : (a : ℕ) → (received (user_sees 3 0 two) handed_over).column (suc (suc a)) ≡ absent
unfolding received
received_none a = rw (delivered_none a) refl

user_fine : DeliveryFails (user_sees 3 0 two) handed_over → ⊥
unfolding any_of first upwards bit member union meet minus apart single unions lowest grant_of node_of uses_left uses_right reads read_together visible_after visible_step visibles is_for shares_day is_for_on grant_on view_on clear_on sealed_on events ever_sealed group_of key_name holders_of key_holders tested_by tied_by Tested Tied spread_over spread spread_times reached key_of holders leaving opened_by together leaf_held result_over arriving held_step helds result_of left_arrives right_arrives left_opened right_opened arrived opened delivers delivered received sealed_in deliveries all_events seen_in plan count_trailing_zeros
user_fine (user_takes f) = allowed 2 1 [] (0 ∷ 3 ∷ []) (delivered (user_sees 3 0 two) handed_over) delivered_none (λ a form t. ⊎_elim (λ h. in_none a h.0) (λ x. x) t) (λ m t. ⊎_elim (λ h. h) (λ x. x) t) f
user_fine (user_opens f) = allowed 2 1 [] (0 ∷ 3 ∷ []) (received (user_sees 3 0 two) handed_over) received_none (λ a form t. ⊎_elim (λ h. in_none a h.0) (λ x. x) t) (λ m t. ⊎_elim (λ h. h) (λ x. x) t) f
user_fine (user_unheld zero key e u) = u (rw (← same_sealed e) refl)
user_fine (user_unheld (suc zero) key e u) = u (rw (← same_sealed e) refl)
user_fine (user_unheld (suc (suc a)) key e u) = absent_sealed (sym (delivered_none a) ∙ e)

-- what the user takes of a leaf that sealed attribute 0: it sees 0 sealed and 1 in clear
abbrev handed_sealed : Held
handed_sealed = delivered (user_sees 2 1 two) (plan [] [] (1 ∷ []))

others_handed : (a : ℕ) → handed_sealed.column (suc (suc a)) ≡ absent
unfolding any_of first upwards union meet minus apart single unions lowest grant_of node_of uses_left uses_right reads read_together visible_after visible_step visibles is_for shares_day is_for_on grant_on view_on clear_on sealed_on events ever_sealed group_of key_name holders_of key_holders tested_by tied_by Tested Tied spread_over spread spread_times reached key_of holders leaving opened_by together leaf_held result_over arriving held_step helds result_of left_arrives right_arrives left_opened right_opened arrived opened delivers delivered received sealed_in deliveries all_events seen_in plan count_trailing_zeros
others_handed a = rw (out_member 0 (suc (suc a)) (in_none (suc (suc a))), out_member 3 (suc (suc a)) (low 3 a (omega arith))) refl

untied_handed : (a b : ℕ) → Chain (Tied (user_sees 2 1 two) handed_sealed.past) a b → ⊥
unfolding any_of first upwards bit member union meet minus apart single unions lowest grant_of node_of uses_left uses_right reads read_together visible_after visible_step visibles is_for shares_day is_for_on grant_on view_on clear_on sealed_on events ever_sealed group_of key_name holders_of key_holders tested_by tied_by Tested Tied spread_over spread spread_times reached key_of holders leaving opened_by together leaf_held result_over arriving held_step helds result_of left_arrives right_arrives left_opened right_opened arrived opened delivers delivered received sealed_in deliveries all_events seen_in plan count_trailing_zeros
untied_handed a b (one (inl t) h k) = t
untied_handed a b (one (inr t) h k) = t
untied_handed a b (step c t h k) = untied_handed a _ c

user_sees_sealed : ForbidsUser (user_sees 2 1 two) handed_sealed → ⊥
unfolding any_of first upwards bit member union meet minus apart single unions lowest grant_of node_of uses_left uses_right reads read_together visible_after visible_step visibles is_for shares_day is_for_on grant_on view_on clear_on sealed_on events ever_sealed group_of key_name holders_of key_holders tested_by tied_by Tested Tied spread_over spread spread_times reached key_of holders leaving opened_by together leaf_held result_over arriving held_step helds result_of left_arrives right_arrives left_opened right_opened arrived opened delivers delivered received sealed_in deliveries all_events seen_in plan count_trailing_zeros
user_sees_sealed (clear_column zero e out) = sealed_clear e
user_sees_sealed (clear_column (suc zero) e out) = out refl
user_sees_sealed (clear_column (suc (suc a)) e out) = absent_clear (sym (others_handed a) ∙ e)
user_sees_sealed (clear_test a (inl (h, e)) out) = in_none a h
user_sees_sealed (clear_test a (inr x) out) = x
user_sees_sealed (sealed_column zero key e out off) = off refl
user_sees_sealed (sealed_column (suc zero) key e out off) = clear_sealed key e
user_sees_sealed (sealed_column (suc (suc a)) key e out off) = absent_sealed (sym (others_handed a) ∙ e)
user_sees_sealed (sealed_test a key (inl (h, e)) out off) = in_none a h
user_sees_sealed (sealed_test a key (inr x) out off) = x
user_sees_sealed (tied_apart a b c x y out off) = untied_handed a b x

pub clean_runs : CleanRuns
clean_runs =
    record {
      unsealed_clean = two_clean 1 0 [] [] (idle_leaf 1 0 [] refl) (idle 1 0) (unasked 0 [] []);
      root_seals = two_clean 1 0 [] (0 ∷ 3 ∷ []) (idle_leaf 1 0 (0 ∷ 3 ∷ []) refl) (seals_both 1 0) (unasked 0 [] (0 ∷ 3 ∷ []));
      opens_more = two_clean 1 0 (0 ∷ 3 ∷ []) (3 ∷ []) leaf_seals opens_both (unasked 0 (0 ∷ 3 ∷ []) (3 ∷ []));
      user_clean = two_clean 2 1 [] (0 ∷ 3 ∷ []) (idle_leaf 2 1 (0 ∷ 3 ∷ []) refl) (seals_both 2 1) (λ d. user_fine);
      nobody_takes = two_clean 1 2 [] [] (idle_leaf 1 2 [] refl) (idle 1 2) (unasked 2 [] []);
      needs_clear = needs_clear;
      opened_together = opened_together;
      leaf_unasked = leaf_unasked;
      seen_sealed = seen_sealed;
      user_sees_sealed = user_sees_sealed;
      pairs_clean = pairs_clean;
      needs_one_pair = needs_one_pair;
      pair_past = pair_past;
      pair_before = pair_before;
    }
