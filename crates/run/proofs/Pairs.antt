-- Joins on pairs that must not be refused, by computation.
use Prim.Native.Nat.{ℕ, zero, suc, ◌<◌}
use mathlib.Core.Bool.{true, false}
use mathlib.Core.List.{[], ◌∷◌}
use mathlib.Core.Path.{◌≡◌, refl, sym, ◌∙◌}
use native.Mathlib.Omega.{arith}
use lib.Count.{count_trailing_zeros}
use mathlib.Core.Logic.{◌⊎◌, inl, inr, ⊎_elim}
use Rattle.laws.specs.Choose.{any_of}
use Rattle.laws.specs.First.{first}
use Rattle.laws.specs.Upwards.{upwards}
use Rattle.sets.specs.Sets.{In, Within, bit, member, union, meet, minus, apart, single, unions, lowest}
use Rattle.sets.proofs.Members.{bit_beyond, out_member, in_none}
use Rattle.night.specs.Night.{Night, grant_of, node_of, pair_of}
use Rattle.night.specs.Versions.{delivers}
use Rattle.night.specs.Kinds.{uses_left, uses_right, its_pair, both_of, pairs_read, reads, read_together, visible_after, visible_step, visibles}
use Rattle.night.specs.Views.{is_for, shares_day, is_for_on, grant_on, view_on, clear_on, sealed_on}
use Rattle.run.specs.Linked.{Chain, one, step}
use Rattle.run.specs.Keys.{Plan, events, ever_sealed, group_of, key_name, holders_of, key_holders}
use Rattle.run.specs.Run.{Form, absent, clear, sealed, Held, tested_by, tied_by, Tested, Tied, spread_over, spread, spread_times, reached, key_of, holders, leaving, opened_by, together, leaf_held, result_over, arriving, held_step, helds, result_of, left_arrives, right_arrives, left_opened, right_opened, arrived, opened, delivered, received, sealed_in, deliveries, all_events, Stuck, seals_unclear, opens_unsealed, opens_unheld, needs_unclear, mixes, Forbidden, clear_column, clear_test, sealed_column, sealed_test, tied_apart, ForbiddenAt, left-arrives, right-arrives, left-opened, right-opened, result_made, DeliveryFails, user_takes, user_opens, user_unheld, Clean}
use Rattle.run.proofs.Forms.{absent_sealed, sealed_clear, same_sealed}
use Rattle.run.specs.Runs.{seen_in, seen_on, apart_pairs, pairs_joined, plan}

no : ◌≡◌ {A = ℕ} 0 1 → ⊥
no e = omega arith

clear_sealed : {key : ℕ} → clear ≡ sealed key → ⊥
clear_sealed e = sealed_clear (sym e)

false_true : false ≡ true → ⊥
false_true e = let z : ◌≡◌ {A = ℕ} 0 1 = cc in no z

-- a set of attributes below 4 has no others
low : (S a : ℕ) → S < 16 → In (suc (suc (suc (suc a)))) S → ⊥
low S a l h = omega (arith, bit_beyond 4 S (suc (suc (suc (suc a)))) l (omega arith))

-- {0, 2} and {1, 3}: no attribute is in both
two_sets : (a : ℕ) → In a 5 → In a 10 → ⊥
unfolding bit
two_sets zero h k = no k
two_sets (suc zero) h k = no h
two_sets (suc (suc zero)) h k = no k
two_sets (suc (suc (suc zero))) h k = no h
two_sets (suc (suc (suc (suc a)))) h k = low 5 a (omega arith) h

-- so where only these are tied, what is linked lies in one of them
linked : {T : ℕ → Type 0} → ((m : ℕ) → T m → (m ≡ 5) ⊎ (m ≡ 10)) → {a b : ℕ} → Chain T a b → (In a 5 × In b 5) ⊎ (In a 10 × In b 10)
linked f (one t h k) = ⊎_elim (λ e. inl (rw e at h, rw e at k)) (λ e. inr (rw e at h, rw e at k)) (f _ t)
linked f (step c t h k) =
    ⊎_elim (λ w. ⊎_elim (λ e. inl (w.0, rw e at k)) (λ e. absurd (two_sets _ w.1 (rw e at h))) (f _ t))
    (λ w. ⊎_elim (λ e. absurd (two_sets _ (rw e at h) w.1)) (λ e. inr (w.0, rw e at k)) (f _ t))
    (linked f c)

-- a column that a subject may have
abbrev Fine : ℕ → ℕ → ℕ → Form → Type 0
Fine P E a absent = Unit {0}
Fine P E a clear = In a P
Fine P E a (sealed key) = In a P ⊎ In a E

-- a table of such columns, in which nothing is tested and only those two sets are tied, each seen in clear or seen sealed
allowed : (N : Night) (t : Held) (P E : ℕ) → ((a : ℕ) → Fine P E a (t.column a)) → ((a : ℕ) (form : Form) → Tested N t.past a form → ⊥)
    → ((m : ℕ) → Tied N t.past m → (m ≡ 5) ⊎ (m ≡ 10)) → Within 5 P ⊎ Within 5 E → Within 10 P ⊎ Within 10 E → Forbidden N t P E → ⊥
allowed N t P E fine untested ties five ten (clear_column a e out) = out (rw e at (fine a))
allowed N t P E fine untested ties five ten (clear_test a e out) = untested a clear e
allowed N t P E fine untested ties five ten (sealed_column a key e out off) = ⊎_elim out off (rw e at (fine a))
allowed N t P E fine untested ties five ten (sealed_test a key e out off) = untested a (sealed key) e
allowed N t P E fine untested ties five ten (tied_apart a b c x y out off) =
    ⊎_elim
    (λ w. ⊎_elim (λ q. out (q b w.1)) (λ q. ⊎_elim (λ z. off (q c z.1)) (λ z. two_sets a w.0 z.0) (linked ties y)) five)
    (λ w. ⊎_elim (λ q. out (q b w.1)) (λ q. ⊎_elim (λ z. two_sets a z.0 w.0) (λ z. off (q c z.1)) (linked ties y)) ten)
    (linked ties x)

-- one pair clear and one sealed, of which subject 1 sees the one in clear and the other sealed
abbrev N : Night
N = seen_on 5 10 apart_pairs (pairs_joined 0 2 0)

abbrev p : Plan
p = plan (0 ∷ 0 ∷ 1 ∷ []) [] (2 ∷ 8 ∷ [])

-- no table has other columns
others_left : (a : ℕ) → (left_arrives N p 2).column (suc (suc (suc (suc a)))) ≡ absent
unfolding any_of first upwards union meet minus apart single unions lowest grant_of node_of pair_of uses_left uses_right its_pair both_of pairs_read reads read_together visible_after visible_step visibles is_for shares_day is_for_on grant_on view_on clear_on sealed_on events ever_sealed group_of key_name holders_of key_holders tested_by tied_by Tested Tied spread_over spread spread_times reached key_of holders leaving opened_by together leaf_held result_over arriving held_step helds result_of left_arrives right_arrives left_opened right_opened arrived opened delivers delivered received sealed_in deliveries all_events seen_in seen_on plan count_trailing_zeros
others_left a = rw (out_member 2 (suc (suc (suc (suc a)))) (low 2 a (omega arith)), out_member 3 (suc (suc (suc (suc a)))) (low 3 a (omega arith))) refl

others_right : (a : ℕ) → (right_arrives N p 2).column (suc (suc (suc (suc a)))) ≡ absent
unfolding any_of first upwards union meet minus apart single unions lowest grant_of node_of pair_of uses_left uses_right its_pair both_of pairs_read reads read_together visible_after visible_step visibles is_for shares_day is_for_on grant_on view_on clear_on sealed_on events ever_sealed group_of key_name holders_of key_holders tested_by tied_by Tested Tied spread_over spread spread_times reached key_of holders leaving opened_by together leaf_held result_over arriving held_step helds result_of left_arrives right_arrives left_opened right_opened arrived opened delivers delivered received sealed_in deliveries all_events seen_in seen_on plan count_trailing_zeros
others_right a = rw (out_member 8 (suc (suc (suc (suc a)))) (low 8 a (omega arith)), out_member 12 (suc (suc (suc (suc a)))) (low 12 a (omega arith))) refl

others_opened : (a : ℕ) → ((left_opened N p 2).column (suc (suc (suc (suc a)))) ≡ absent) × ((right_opened N p 2).column (suc (suc (suc (suc a)))) ≡ absent)
unfolding left_opened right_opened opened_by plan
others_opened a = (rw (out_member 0 (suc (suc (suc (suc a)))) (in_none _)) (others_left a), rw (out_member 0 (suc (suc (suc (suc a)))) (in_none _)) (others_right a))

others_result : (a : ℕ) → (result_of N p 2).column (suc (suc (suc (suc a)))) ≡ absent
unfolding any_of first upwards union meet minus apart single unions lowest grant_of node_of pair_of uses_left uses_right its_pair both_of pairs_read reads read_together visible_after visible_step visibles is_for shares_day is_for_on grant_on view_on clear_on sealed_on events ever_sealed group_of key_name holders_of key_holders tested_by tied_by Tested Tied spread_over spread spread_times reached key_of holders leaving opened_by together leaf_held result_over arriving held_step helds result_of left_arrives right_arrives left_opened right_opened arrived opened delivers delivered received sealed_in deliveries all_events seen_in seen_on plan count_trailing_zeros
others_result a = rw (out_member 15 (suc (suc (suc (suc a)))) (low 15 a (omega arith))) refl

others_delivered : (a : ℕ) → (delivered N p).column (suc (suc (suc (suc a)))) ≡ absent
unfolding delivered leaving plan seen_on
others_delivered a = rw (out_member 0 (suc (suc (suc (suc a)))) (in_none _)) (others_result a)

-- all four are seen in clear by the user
all_clear : (S : ℕ) → S < 16 → Within S 15
unfolding bit
all_clear S l zero h = refl
all_clear S l (suc zero) h = refl
all_clear S l (suc (suc zero)) h = refl
all_clear S l (suc (suc (suc zero))) h = refl
all_clear S l (suc (suc (suc (suc a)))) h = absurd (low S a l h)

-- columns one by one
columns : (P E : ℕ) (t : Held) → Fine P E 0 (t.column 0) → Fine P E 1 (t.column 1) → Fine P E 2 (t.column 2) → Fine P E 3 (t.column 3)
    → ((a : ℕ) → t.column (suc (suc (suc (suc a)))) ≡ absent) → (a : ℕ) → Fine P E a (t.column a)
columns P E t w x y z none zero = w
columns P E t w x y z none (suc zero) = x
columns P E t w x y z none (suc (suc zero)) = y
columns P E t w x y z none (suc (suc (suc zero))) = z
columns P E t w x y z none (suc (suc (suc (suc a)))) = rw (none a) tt

-- so the join's tables are allowed, and the user's
pairs_allowed : (i : ℕ) → i < 3 → ForbiddenAt N p i → ⊥
unfolding any_of first upwards bit member union meet minus apart single unions lowest grant_of node_of pair_of uses_left uses_right its_pair both_of pairs_read reads read_together visible_after visible_step visibles is_for shares_day is_for_on grant_on view_on clear_on sealed_on events ever_sealed group_of key_name holders_of key_holders tested_by tied_by Tested Tied spread_over spread spread_times reached key_of holders leaving opened_by together leaf_held result_over arriving held_step helds result_of left_arrives right_arrives left_opened right_opened arrived opened delivers delivered received sealed_in deliveries all_events seen_in seen_on plan count_trailing_zeros
pairs_allowed zero l (left-arrives u f) = false_true u
pairs_allowed zero l (right-arrives u f) = false_true u
pairs_allowed zero l (left-opened u f) = false_true u
pairs_allowed zero l (right-opened u f) = false_true u
pairs_allowed zero l (result_made s f) = s refl
pairs_allowed (suc zero) l (left-arrives u f) = false_true u
pairs_allowed (suc zero) l (right-arrives u f) = false_true u
pairs_allowed (suc zero) l (left-opened u f) = false_true u
pairs_allowed (suc zero) l (right-opened u f) = false_true u
pairs_allowed (suc zero) l (result_made s f) = s refl
pairs_allowed (suc (suc zero)) l (left-arrives u f) =
    allowed N (left_arrives N p 2) 5 10 (columns 5 10 (left_arrives N p 2) refl (inr refl) tt tt others_left) (λ a form t. t) (λ m t. absurd t) (inl (λ k h. h)) (inr (λ k h. h)) f
pairs_allowed (suc (suc zero)) l (right-arrives u f) =
    allowed N (right_arrives N p 2) 5 10 (columns 5 10 (right_arrives N p 2) tt tt refl (inr refl) others_right) (λ a form t. t) (λ m t. absurd t) (inl (λ k h. h)) (inr (λ k h. h)) f
pairs_allowed (suc (suc zero)) l (left-opened u f) =
    allowed N (left_opened N p 2) 5 10 (columns 5 10 (left_opened N p 2) refl (inr refl) tt tt (λ a. (others_opened a).0)) (λ a form t. t) (λ m t. absurd t) (inl (λ k h. h)) (inr (λ k h. h)) f
pairs_allowed (suc (suc zero)) l (right-opened u f) =
    allowed N (right_opened N p 2) 5 10 (columns 5 10 (right_opened N p 2) tt tt refl (inr refl) (λ a. (others_opened a).1)) (λ a form t. t) (λ m t. absurd t) (inl (λ k h. h)) (inr (λ k h. h)) f
pairs_allowed (suc (suc zero)) l (result_made s f) =
    allowed N (result_of N p 2) 5 10 (columns 5 10 (result_of N p 2) refl (inr refl) refl (inr refl) others_result) (λ a form t. ⊎_elim (λ h. in_none a h.0) (λ x. x) t)
    (λ m t. ⊎_elim (⊎_elim inl (⊎_elim inr (λ x. absurd x))) (λ x. absurd x) t) (inl (λ k h. h)) (inr (λ k h. h)) f
pairs_allowed (suc (suc (suc i))) l h = absurd (omega arith)

pairs_delivered : DeliveryFails N p → ⊥
unfolding any_of first upwards bit member union meet minus apart single unions lowest grant_of node_of pair_of uses_left uses_right its_pair both_of pairs_read reads read_together visible_after visible_step visibles is_for shares_day is_for_on grant_on view_on clear_on sealed_on events ever_sealed group_of key_name holders_of key_holders tested_by tied_by Tested Tied spread_over spread spread_times reached key_of holders leaving opened_by together leaf_held result_over arriving held_step helds result_of left_arrives right_arrives left_opened right_opened arrived opened delivers delivered received sealed_in deliveries all_events seen_in seen_on plan count_trailing_zeros
pairs_delivered (user_takes f) =
    allowed N (delivered N p) 15 0 (columns 15 0 (delivered N p) refl (inl refl) refl (inl refl) others_delivered) (λ a form t. ⊎_elim (λ h. in_none a h.0) (λ x. x) t)
    (λ m t. ⊎_elim (⊎_elim inl (⊎_elim inr (λ x. absurd x))) (λ x. absurd x) t) (inl (all_clear 5 (omega arith))) (inl (all_clear 10 (omega arith))) f
pairs_delivered (user_opens f) =
    allowed N (received N p) 15 0 (columns 15 0 (received N p) refl refl refl refl (λ a. rw (others_delivered a) refl)) (λ a form t. ⊎_elim (λ h. in_none a h.0) (λ x. x) t)
    (λ m t. ⊎_elim (⊎_elim inl (⊎_elim inr (λ x. absurd x))) (λ x. absurd x) t) (inl (all_clear 5 (omega arith))) (inl (all_clear 10 (omega arith))) f
pairs_delivered (user_unheld zero key e u) = clear_sealed e
pairs_delivered (user_unheld (suc zero) key e u) = u (rw (← same_sealed e) refl)
pairs_delivered (user_unheld (suc (suc zero)) key e u) = clear_sealed e
pairs_delivered (user_unheld (suc (suc (suc zero))) key e u) = u (rw (← same_sealed e) refl)
pairs_delivered (user_unheld (suc (suc (suc (suc a)))) key e u) = absent_sealed (sym (others_delivered a) ∙ e)

-- a set that is all clear, or all sealed under a key, in a table: of {0, 2} and of {1, 3}
five : (t : Held) (form : Form) → t.column 0 ≡ form → t.column 2 ≡ form → (a : ℕ) → In a 5 → t.column a ≡ form
unfolding bit
five t form e f zero h = e
five t form e f (suc zero) h = absurd (no h)
five t form e f (suc (suc zero)) h = f
five t form e f (suc (suc (suc zero))) h = absurd (no h)
five t form e f (suc (suc (suc (suc a)))) h = absurd (low 5 a (omega arith) h)

ten : (t : Held) (form : Form) → t.column 1 ≡ form → t.column 3 ≡ form → (a : ℕ) → In a 10 → t.column a ≡ form
unfolding bit
ten t form e f zero h = absurd (no h)
ten t form e f (suc zero) h = e
ten t form e f (suc (suc zero)) h = absurd (no h)
ten t form e f (suc (suc (suc zero))) h = f
ten t form e f (suc (suc (suc (suc a)))) h = absurd (low 10 a (omega arith) h)

-- and nobody is stuck
pairs_free : (i : ℕ) → i < 3 → Stuck N p i → ⊥
unfolding any_of first upwards bit member union meet minus apart single unions lowest grant_of node_of pair_of uses_left uses_right its_pair both_of pairs_read reads read_together visible_after visible_step visibles is_for shares_day is_for_on grant_on view_on clear_on sealed_on events ever_sealed group_of key_name holders_of key_holders tested_by tied_by Tested Tied spread_over spread spread_times reached key_of holders leaving opened_by together leaf_held result_over arriving held_step helds result_of left_arrives right_arrives left_opened right_opened arrived opened delivers delivered received sealed_in deliveries all_events seen_in seen_on plan count_trailing_zeros
pairs_free zero l (seals_unclear zero h u) = no h
pairs_free zero l (seals_unclear (suc zero) h u) = u refl
pairs_free zero l (seals_unclear (suc (suc zero)) h u) = no h
pairs_free zero l (seals_unclear (suc (suc (suc zero))) h u) = no h
pairs_free zero l (seals_unclear (suc (suc (suc (suc a)))) h u) = low 2 a (omega arith) h
pairs_free zero l (opens_unsealed a h u) = in_none a h
pairs_free zero l (opens_unheld a key h e u) = in_none a h
pairs_free zero l (needs_unclear a h u) = in_none a h
pairs_free zero l (mixes m q u v) = absurd q
pairs_free (suc zero) l (seals_unclear zero h u) = no h
pairs_free (suc zero) l (seals_unclear (suc zero) h u) = no h
pairs_free (suc zero) l (seals_unclear (suc (suc zero)) h u) = no h
pairs_free (suc zero) l (seals_unclear (suc (suc (suc zero))) h u) = u refl
pairs_free (suc zero) l (seals_unclear (suc (suc (suc (suc a)))) h u) = low 8 a (omega arith) h
pairs_free (suc zero) l (opens_unsealed a h u) = in_none a h
pairs_free (suc zero) l (opens_unheld a key h e u) = in_none a h
pairs_free (suc zero) l (needs_unclear a h u) = in_none a h
pairs_free (suc zero) l (mixes m q u v) = absurd q
pairs_free (suc (suc zero)) l (seals_unclear a h u) = in_none a h
pairs_free (suc (suc zero)) l (opens_unsealed a h u) = in_none a h
pairs_free (suc (suc zero)) l (opens_unheld a key h e u) = in_none a h
pairs_free (suc (suc zero)) l (needs_unclear a h u) = in_none a h
pairs_free (suc (suc zero)) l (mixes m (inl q) u v) = u (λ a h. five (opened N p 2) clear refl refl a (rw q at h))
pairs_free (suc (suc zero)) l (mixes m (inr (inl q)) u v) = v 1 (λ a h. ten (opened N p 2) (sealed 1) refl refl a (rw q at h))
pairs_free (suc (suc zero)) l (mixes m (inr (inr q)) u v) = q
pairs_free (suc (suc (suc i))) l h = absurd (omega arith)

pub pairs_clean : Clean N p
unfolding seen_on
pairs_clean = record { free = pairs_free; allowed = pairs_allowed; delivery = λ d. pairs_delivered }

-- the first pair is needed and arrives clear
pub needs_one_pair : Stuck (seen_on 15 0 apart_pairs (pairs_joined 0 2 5)) p 2 → ⊥
unfolding any_of first upwards bit member union meet minus apart single unions lowest grant_of node_of pair_of uses_left uses_right its_pair both_of pairs_read reads read_together visible_after visible_step visibles is_for shares_day is_for_on grant_on view_on clear_on sealed_on events ever_sealed group_of key_name holders_of key_holders tested_by tied_by Tested Tied spread_over spread spread_times reached key_of holders leaving opened_by together leaf_held result_over arriving held_step helds result_of left_arrives right_arrives left_opened right_opened arrived opened delivers delivered received sealed_in deliveries all_events seen_in seen_on plan count_trailing_zeros
needs_one_pair (seals_unclear a h u) = in_none a h
needs_one_pair (opens_unsealed a h u) = in_none a h
needs_one_pair (opens_unheld a key h e u) = in_none a h
needs_one_pair (needs_unclear a h u) = u (five (opened (seen_on 15 0 apart_pairs (pairs_joined 0 2 5)) p 2) clear refl refl a h)
needs_one_pair (mixes m (inl q) u v) = u (λ a h. five (opened (seen_on 15 0 apart_pairs (pairs_joined 0 2 5)) p 2) clear refl refl a (rw q at h))
needs_one_pair (mixes m (inr (inl q)) u v) = v 1 (λ a h. ten (opened (seen_on 15 0 apart_pairs (pairs_joined 0 2 5)) p 2) (sealed 1) refl refl a (rw q at h))
needs_one_pair (mixes m (inr (inr q)) u v) = q

-- a pair that the node does not name may be mixed
pub pair_past : Stuck (seen_on 15 0 apart_pairs (pairs_joined 0 1 0)) (plan (0 ∷ 0 ∷ 1 ∷ []) [] (2 ∷ [])) 2 → ⊥
unfolding any_of first upwards bit member union meet minus apart single unions lowest grant_of node_of pair_of uses_left uses_right its_pair both_of pairs_read reads read_together visible_after visible_step visibles is_for shares_day is_for_on grant_on view_on clear_on sealed_on events ever_sealed group_of key_name holders_of key_holders tested_by tied_by Tested Tied spread_over spread spread_times reached key_of holders leaving opened_by together leaf_held result_over arriving held_step helds result_of left_arrives right_arrives left_opened right_opened arrived opened delivers delivered received sealed_in deliveries all_events seen_in seen_on plan count_trailing_zeros
pair_past (seals_unclear a h u) = in_none a h
pair_past (opens_unsealed a h u) = in_none a h
pair_past (opens_unheld a key h e u) = in_none a h
pair_past (needs_unclear a h u) = in_none a h
pair_past (mixes m (inl q) u v) = u (λ a h. five (opened (seen_on 15 0 apart_pairs (pairs_joined 0 1 0)) (plan (0 ∷ 0 ∷ 1 ∷ []) [] (2 ∷ [])) 2) clear refl refl a (rw q at h))
pair_past (mixes m (inr q) u v) = q

pub pair_before : Stuck (seen_on 15 0 apart_pairs (pairs_joined 1 1 0)) (plan (0 ∷ 0 ∷ 1 ∷ []) [] (1 ∷ [])) 2 → ⊥
unfolding any_of first upwards bit member union meet minus apart single unions lowest grant_of node_of pair_of uses_left uses_right its_pair both_of pairs_read reads read_together visible_after visible_step visibles is_for shares_day is_for_on grant_on view_on clear_on sealed_on events ever_sealed group_of key_name holders_of key_holders tested_by tied_by Tested Tied spread_over spread spread_times reached key_of holders leaving opened_by together leaf_held result_over arriving held_step helds result_of left_arrives right_arrives left_opened right_opened arrived opened delivers delivered received sealed_in deliveries all_events seen_in seen_on plan count_trailing_zeros
pair_before (seals_unclear a h u) = in_none a h
pair_before (opens_unsealed a h u) = in_none a h
pair_before (opens_unheld a key h e u) = in_none a h
pair_before (needs_unclear a h u) = in_none a h
pair_before (mixes m (inl q) u v) = u (λ a h. ten (opened (seen_on 15 0 apart_pairs (pairs_joined 1 1 0)) (plan (0 ∷ 0 ∷ 1 ∷ []) [] (1 ∷ [])) 2) clear refl refl a (rw q at h))
pair_before (mixes m (inr q) u v) = q
