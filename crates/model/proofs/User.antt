-- Who may have every leaf's table in clear is forbidden nothing, whoever runs the steps and whatever is opened and sealed: so the user is a candidate of
-- every step, and its delivery does not fail.
use Prim.Native.Nat.{ℕ, zero, suc, ◌-◌, ◌<◌}
use mathlib.Core.Path.{◌≡◌, refl, sym, ap}
use mathlib.Core.Bool.{Bool, true, false}
use mathlib.Core.Logic.{◌⊎◌, inl, inr, ⊎_elim}
use native.Mathlib.Omega.{arith}
use lib.Dec.{eqb}
use borrow.Author.Tests.{eqb-true, eqb-false, eq-eqb, ne_eqb}
use Rattle.std.specs.Prelude.{if◌then◌else◌}
use Rattle.sets.specs.Sets.{In, member}
use Rattle.sets.proofs.Members.{member_in, in_or_not, in_unions}
use Rattle.sets.proofs.Words.{in_single}
use Rattle.night.specs.Versions.{delivers}
use Rattle.night.specs.Night.{Night, node_of}
use Rattle.night.specs.Kinds.{uses_left, uses_right, attribute, reads, read_together, visible}
use Rattle.night.specs.Views.{clear_of, sealed_of}
use Rattle.night.specs.Promised.{Promised}
use Rattle.night.proofs.Visible.{operand_map, step_uses_left, visible_leaf, visible_operand, visible_below, reads_step, reads_operand}
use Rattle.run.specs.Linked.{Chain, one, step}
use Rattle.run.specs.Keys.{Plan}
use Rattle.run.specs.Run.{Form, absent, clear, sealed, Held, Tested, Tied, sealed_under, unsealed, beside, is_sealed, key_of, leaving, opened_by, together, result_of, left_arrives, right_arrives, left_opened, right_opened, opened, delivered, received, sealed_in, holders, Forbidden, clear_column, clear_test, sealed_column, sealed_test, tied_apart, ForbiddenAt, left-arrives, right-arrives, left-opened, right-opened, result_made, DeliveryFails, user_takes, user_opens, user_unheld, Clean}
use Rattle.run.proofs.Forms.{absent_sealed, sealed_clear, same_sealed}
use Rattle.model.specs.Tables.{leaf_table, ties, table_of, TiedAt, here, under_left, under_right}
use Rattle.model.specs.Candidates.{May, candidate_set}
use Rattle.model.specs.Choice.{Choice, owner_of}
use Rattle.model.specs.Plan.{built}
use Rattle.model.specs.Demand.{Assigned}
use Rattle.model.specs.User.{UserMay, UserCandidate, AlwaysDelivered}
use Rattle.model.proofs.Parents.{root_there}
use Rattle.model.proofs.TableLaws.{table_leaf}
use Rattle.model.proofs.Kept.{left_step, right_step}
use Rattle.model.proofs.Sees.{may_sees}
use Rattle.model.proofs.Shown.{tests_read}
use Rattle.model.proofs.HeldLaws.{There, held_absent, left_comes, right_comes, right_none, leaf_column, step_column}
use Rattle.model.proofs.Together.{some_listed, together_read}
use Rattle.model.proofs.PastLaws.{leaf_untested, step_tested_past, past_tied}
use Rattle.model.proofs.KeyLaws.{ever, seals_ever, user_held}
use Rattle.model.proofs.BuiltFree.{built_free}
use Rattle.model.proofs.RunCandidates.{run_candidates}

-- a column that is there after sealing or opening was there before
there_unsealed : (b : Bool) (key : ℕ) (f : Form) → There (if b then sealed_under key f else f) → There f
there_unsealed true key absent h = h
there_unsealed true key clear h = h
there_unsealed true key (sealed k) h = h
there_unsealed false key f h = h

there_unopened : (f : Form) → There (unsealed f) → There f
there_unopened absent h = h
there_unopened clear h = h
there_unopened (sealed k) h = h

there_kept : (b : Bool) (f : Form) → There (if b then unsealed f else f) → There f
there_kept true f h = there_unopened f h
there_kept false f h = h

there_clear : (f : Form) → f ≡ clear → There f
there_clear f e = rw e tt

there_closed : (f : Form) (key : ℕ) → f ≡ sealed key → There f
there_closed f key e = rw e tt

-- a subject that sees in clear what each leaf holds
module _ (N : Night) (sound : Promised N) (P E : ℕ) (leaves : (i : ℕ) → i < N.header.nodes → (node_of N i).kind ≡ 0 → (a : ℕ) → In a (visible N i) → In a P) where
  abbrev n : ℕ
  n = N.header.nodes

  -- sees in clear all that is visible, read, tested and tied anywhere
  all_visible : (m i : ℕ) → i < m → i < n → (a : ℕ) → In a (visible N i) → In a P
  all_visible zero i q l a h = absurd (omega arith)
  all_visible (suc m) i q l a h = go (eqb (node_of N i).kind 0) refl (λ c x. all_visible m c (omega arith) (omega arith) a)
    where
      go : (b : Bool) → eqb (node_of N i).kind 0 ≡ b → ((c : ℕ) → c < i → In a (visible N c) → In a P) → In a P
      go true e lower = leaves i l (eqb-true _ 0 e) a h
      go false e lower =
          let s = eqb-false (node_of N i).kind 0 e in
          ⊎_elim (λ x. x) (λ x. x.1) (operand_map N sound i l s {R = λ c. In a P} lower (visible_operand N sound i l s a h))

  seen : (i a : ℕ) → i < n → In a (visible N i) → In a P
  seen i a l h = all_visible (suc i) i (omega arith) l a h

  seen_read : (i a : ℕ) → i < n → In a (reads N (node_of N i)) → In a P
  seen_read i a l h =
      let s = reads_step N (node_of N i) a h in
      ⊎_elim (λ x. x) (λ x. x.1) (operand_map N sound i l s {R = λ c. In a P} (λ c q. seen c a (omega arith)) (reads_operand N sound i l s a h))

  seen_tied : {i m : ℕ} (a : ℕ) → i < n → TiedAt N i m → In a m → In a P
  unfolding ties
  seen_tied {i} {m} a l (here h) q = seen_read i a l (together_read N (node_of N i) m ((some_listed m (read_together N (node_of N i))).1 h) a q)
  seen_tied {i} a l (under_left u h) q = seen_tied a (omega (arith, (sound.node i l).left_lower u)) h q
  seen_tied {i} a l (under_right u h) q = seen_tied a (omega (arith, (sound.node i l).right_lower u)) h q

  module _ (p : Plan) where
    all_tested : (m i : ℕ) → i < m → i < n → (a : ℕ) (f : Form) → Tested N (result_of N p i).past a f → In a P
    all_tested zero i q l a f h = absurd (omega arith)
    all_tested (suc m) i q l a f h = go (eqb (node_of N i).kind 0) refl (λ c x. all_tested m c (omega arith) (omega arith) a f)
      where
        go : (b : Bool) → eqb (node_of N i).kind 0 ≡ b → ((c : ℕ) → c < i → Tested N (result_of N p c).past a f → In a P) → In a P
        go true e lower = absurd (leaf_untested N p sound i a f l (eqb-true _ 0 e) h)
        go false e lower =
            let s = eqb-false (node_of N i).kind 0 e in
            ⊎_elim (λ w. ⊎_elim (λ x. x) (λ x. x.1) (operand_map N sound i l s {R = λ c. In a P} lower w)) (λ w. seen_read i a l (tests_read N (node_of N i) a w.0))
            ((step_tested_past N p sound i a f l s).0 h)

    -- and is forbidden no table that has a node's past and none but its columns
    module _ (i : ℕ) (l : i < n) (t : Held) (past : t.past ≡ (result_of N p i).past) (there : (a : ℕ) → There (t.column a) → There ((result_of N p i).column a)) where
      seen_column : (a : ℕ) → There (t.column a) → In a P
      seen_column a h = ⊎_elim (seen i a l) (λ out. absurd (rw (held_absent N p sound i a l out) at (there a h))) (in_or_not a (visible N i))

      seen_tested : (a : ℕ) (f : Form) → Tested N t.past a f → In a P
      seen_tested a f h = all_tested (suc i) i (omega arith) l a f (rw past at h)

      seen_chain : {a b : ℕ} → Chain (Tied N t.past) a b → In b P
      seen_chain (one r h k) = seen_tied _ l ((past_tied N p sound i _ l).0 (rw past at r)) k
      seen_chain (step c r h k) = seen_tied _ l ((past_tied N p sound i _ l).0 (rw past at r)) k

      unforbidden : Forbidden N t P E → ⊥
      unforbidden (clear_column a e out) = out (seen_column a (there_clear _ e))
      unforbidden (clear_test a h out) = out (seen_tested a clear h)
      unforbidden (sealed_column a key e out off) = out (seen_column a (there_closed _ key e))
      unforbidden (sealed_test a key h out off) = out (seen_tested a (sealed key) h)
      unforbidden (tied_apart a b c x y out off) = out (seen_chain x)

    -- such are the tables that a node is given, makes, and hands over
    made_fine : (i : ℕ) → i < n → Forbidden N (result_of N p i) P E → ⊥
    made_fine i l = unforbidden i l (result_of N p i) refl (λ a h. h)

    left_fine : (i k : ℕ) → k < n → Forbidden N (leaving N p k (result_of N p k)) P E → ⊥
    unfolding leaving
    left_fine i k l = unforbidden k l (leaving N p k (result_of N p k)) refl (λ a. there_unsealed (member (p.seals k) a) (key_of N p a) ((result_of N p k).column a))

    opened_fine : (i k : ℕ) → k < n → Forbidden N (opened_by p i (leaving N p k (result_of N p k))) P E → ⊥
    unfolding leaving opened_by
    opened_fine i k l =
        unforbidden k l (opened_by p i (leaving N p k (result_of N p k))) refl
        (λ a h. there_unsealed (member (p.seals k) a) (key_of N p a) ((result_of N p k).column a) (there_kept (member (p.opens i) a) ((leaving N p k (result_of N p k)).column a) h))

    received_fine : Forbidden N (delivered N p) P E ⊎ Forbidden N (received N p) P E → ⊥
    unfolding received delivered leaving
    received_fine =
        ⊎_elim (left_fine 0 (n - 1) last)
        (unforbidden (n - 1) last (received N p) refl
        (λ a h. there_unsealed (member (p.seals (n - 1)) a) (key_of N p a) ((result_of N p (n - 1)).column a) (there_unopened ((delivered N p).column a) h)))
      where
        last : n - 1 < n
        last = root_there N sound

    step_fine : (i : ℕ) → i < n → clear_of N (p.subject i) ≡ P → sealed_of N (p.subject i) ≡ E → ForbiddenAt N p i → ⊥
    unfolding left_opened right_opened
    step_fine i l e q (left-arrives u f) = left_fine i (node_of N i).left (omega (arith, (sound.node i l).left_lower u)) (rw (e, q, left_comes N p i u) at f)
    step_fine i l e q (right-arrives u f) = left_fine i (node_of N i).right (omega (arith, (sound.node i l).right_lower u)) (rw (e, q, right_comes N p i u) at f)
    step_fine i l e q (left-opened u f) = opened_fine i (node_of N i).left (omega (arith, (sound.node i l).left_lower u)) (rw (e, q, left_comes N p i u) at f)
    step_fine i l e q (right-opened u f) = opened_fine i (node_of N i).right (omega (arith, (sound.node i l).right_lower u)) (rw (e, q, right_comes N p i u) at f)
    step_fine i l e q (result_made s f) = made_fine i l (rw (e, q) at f)

-- whatever is sealed was sealed by a node, under the key that the rule gives
module _ (N : Night) (sound : Promised N) (p : Plan) (a : ℕ) where
  Known : Form → Type 0
  Known f = (key : ℕ) → f ≡ sealed key → (key ≡ key_of N p a) × In a (ever N sound p)

  known_absent : Known absent
  unfolding Known
  known_absent key e = absurd (absent_sealed e)

  known_clear : Known clear
  unfolding Known
  known_clear key e = absurd (sealed_clear (sym e))

  known_leaving : (k : ℕ) → k < N.header.nodes → (b : Bool) → member (p.seals k) a ≡ b → (f : Form) → Known f → Known (if b then sealed_under (key_of N p a) f else f)
  unfolding Known
  known_leaving k l true e absent h = h
  known_leaving k l true e clear h = λ key q. (sym (same_sealed q), seals_ever N sound p k a l (member_in (p.seals k) a e))
  known_leaving k l true e (sealed j) h = h
  known_leaving k l false e f h = h

  known_opened : (b : Bool) (f : Form) → Known f → Known (if b then unsealed f else f)
  known_opened true absent h = h
  known_opened true clear h = h
  known_opened true (sealed j) h = known_clear
  known_opened false f h = h

  known_beside : (f g : Form) → Known f → Known g → Known (beside f g)
  known_beside absent g x y = y
  known_beside clear g x y = x
  known_beside (sealed j) g x y = x

  -- of an operand that is opened, from the node that it comes from
  known_operand : (i k : ℕ) → k < N.header.nodes → Known ((result_of N p k).column a) → Known ((opened_by p i (leaving N p k (result_of N p k))).column a)
  unfolding opened_by leaving
  known_operand i k l h = known_opened (member (p.opens i) a) _ (known_leaving k l (member (p.seals k) a) refl ((result_of N p k).column a) h)

  known_both : (i : ℕ) → i < N.header.nodes → ((node_of N i).kind ≡ 0 → ⊥) → ((c : ℕ) → c < i → Known ((result_of N p c).column a)) → Known ((opened N p i).column a)
  unfolding opened together left_opened right_opened opened_by
  known_both i l s lower = known_beside _ _ left (right (uses_right (node_of N i).kind) refl)
    where
      uses : uses_left (node_of N i).kind ≡ true
      uses = step_uses_left (node_of N i).kind s

      left : Known ((opened_by p i (left_arrives N p i)).column a)
      left =
          let lo = (sound.node i l).left_lower uses in
          rw (left_comes N p i uses) (known_operand i (node_of N i).left (omega arith) (lower (node_of N i).left lo))

      right : (b : Bool) → uses_right (node_of N i).kind ≡ b → Known ((opened_by p i (right_arrives N p i)).column a)
      right true u =
          let lo = (sound.node i l).right_lower u in
          rw (right_comes N p i u) (known_operand i (node_of N i).right (omega arith) (lower (node_of N i).right lo))
      right false u = rw (right_none N p i u) (none (member (p.opens i) a))
        where
          none : (b : Bool) → Known (if b then unsealed absent else absent)
          none b = known_opened b absent known_absent

  all_known : (m i : ℕ) → i < m → i < N.header.nodes → Known ((result_of N p i).column a)
  all_known zero i q l = absurd (omega arith)
  all_known (suc m) i q l = go (eqb (node_of N i).kind 0) refl (in_or_not a (visible N i)) (λ c x. all_known m c (omega arith) (omega arith))
    where
      go : (b : Bool) → eqb (node_of N i).kind 0 ≡ b → (In a (visible N i) ⊎ (In a (visible N i) → ⊥)) → ((c : ℕ) → c < i → Known ((result_of N p c).column a)) → Known ((result_of N p i).column a)
      go b e (inr out) lower = rw (held_absent N p sound i a l out) known_absent
      go true e (inl h) lower = rw (leaf_column N p sound i a l (eqb-true _ 0 e) h) known_clear
      go false e (inl h) lower =
          let s = eqb-false (node_of N i).kind 0 e in
          rw (step_column N p sound i a l s h) (known_both i l s lower)

  known : (i : ℕ) → i < N.header.nodes → Known ((leaving N p i (result_of N p i)).column a)
  unfolding leaving
  known i l = known_leaving i l (member (p.seals i) a) refl ((result_of N p i).column a) (all_known (suc i) i (omega arith) l)

-- who is asked of a table at a node runs a step
asked_step : {N : Night} {p : Plan} {i : ℕ} → ForbiddenAt N p i → (node_of N i).kind ≡ 0 → ⊥
asked_step (left-arrives u f) = left_step _ u
asked_step (right-arrives u f) = right_step _ u
asked_step (left-opened u f) = left_step _ u
asked_step (right-opened u f) = right_step _ u
asked_step (result_made s f) = s

-- a leaf's table that may be had is seen in clear
leaf_seen : (N : Night) → Promised N → (P E i : ℕ) → i < N.header.nodes → (node_of N i).kind ≡ 0 → May (table_of N i) P E → (a : ℕ) → In a (visible N i) → In a P
unfolding leaf_table
leaf_seen N sound P E i l e m a h = (may_sees (leaf_table (node_of N i)) P E (rw (table_leaf N i l e) at m)).clear a (rw (visible_leaf N sound i l e) at h)

module _ (N : Night) (sound : Promised N) (may : UserMay N) (d : delivers N.header.version ≡ true) where
  abbrev user : ℕ
  user = N.header.user

  leaves : (i : ℕ) → i < N.header.nodes → (node_of N i).kind ≡ 0 → (a : ℕ) → In a (visible N i) → In a (clear_of N user)
  leaves i l e = leaf_seen N sound (clear_of N user) (sealed_of N user) i l e (may d i l e)

  few : user < 16
  few = omega (arith, sound.counts.user_there d, sound.counts.subjects_most)

  -- the user holds the keys of what it opens
  unheld : (p : Plan) (a key : ℕ) → (delivered N p).column a ≡ sealed key → In user (holders N p key)
  unfolding sealed_in delivered leaving Known
  unheld p a key e =
      let w = known_last in
      let low : a < 64 = omega (arith, below, sound.counts.attributes_most) in
      let among = (in_unions (λ k. if is_sealed ((delivered N p).column k) then attribute k else 0) N.header.attributes a).1 (a, below, rw e ((in_single 64 a a).1 (refl, low))) in
      rw w.0 (user_held N sound p a d few among w.1 low)
    where
      last : N.header.nodes - 1 < N.header.nodes
      last = root_there N sound

      known_last : (key ≡ key_of N p a) × In a (ever N sound p)
      known_last = known N sound p a (N.header.nodes - 1) last key e

      below : a < N.header.attributes
      below =
          ⊎_elim (visible_below N sound (N.header.nodes - 1) a last)
          (λ out. absurd (rw (held_absent N p sound (N.header.nodes - 1) a last out) at (there_unsealed (member (p.seals (N.header.nodes - 1)) a) (key_of N p a) ((result_of N p (N.header.nodes - 1)).column a) (there_closed _ key e))))
          (in_or_not a (visible N (N.header.nodes - 1)))

  delivered_fine : (p : Plan) → DeliveryFails N p → ⊥
  delivered_fine p (user_takes f) = received_fine N sound (clear_of N user) (sealed_of N user) leaves p (inl f)
  delivered_fine p (user_opens f) = received_fine N sound (clear_of N user) (sealed_of N user) leaves p (inr f)
  delivered_fine p (user_unheld a key e u) = u (unheld p a key e)

  -- the user at every step, and the owners at the leaves
  by_user : Choice
  by_user i = if eqb (node_of N i).kind 0 then owner_of N i else user

  at_step : (i : ℕ) → ((node_of N i).kind ≡ 0 → ⊥) → by_user i ≡ user
  unfolding by_user
  at_step i s = rw (ne_eqb (node_of N i).kind 0 s) refl

  at_leaf : (i : ℕ) → (node_of N i).kind ≡ 0 → by_user i ≡ owner_of N i
  unfolding by_user
  at_leaf i e = rw (eq-eqb (node_of N i).kind 0 e) refl

  assigned : Assigned N by_user
  assigned = record { there = λ i l. go i l (eqb (node_of N i).kind 0) refl; owners = λ i l. at_leaf i }
    where
      go : (i : ℕ) → i < N.header.nodes → (b : Bool) → eqb (node_of N i).kind 0 ≡ b → by_user i < N.header.subjects
      go i l true e =
          let z = eqb-true (node_of N i).kind 0 e in
          rw (at_leaf i z) (sound.relation (node_of N i).x ((sound.node i l).leaf_relation z)).owner_there
      go i l false e = rw (at_step i (eqb-false (node_of N i).kind 0 e)) (sound.counts.user_there d)

  -- no table of the plan that is built for that choice is forbidden
  by_user_allowed : (i : ℕ) → i < N.header.nodes → ForbiddenAt N (built N by_user) i → ⊥
  by_user_allowed i l f =
      let s = at_step i (asked_step f) in
      step_fine N sound (clear_of N user) (sealed_of N user) leaves (built N by_user) i l (ap (clear_of N) s) (ap (sealed_of N) s) f

  by_user_clean : Clean N (built N by_user)
  by_user_clean = record { free = built_free N sound by_user assigned; allowed = by_user_allowed; delivery = λ _. delivered_fine (built N by_user) }

  candidate_everywhere : (i : ℕ) → i < N.header.nodes → ((node_of N i).kind ≡ 0 → ⊥) → In user (candidate_set N i)
  candidate_everywhere i l s = rw (at_step i s) at (run_candidates N (built N by_user) sound assigned by_user_clean i l s)

pub user_candidate : UserCandidate
user_candidate = candidate_everywhere

pub always_delivered : AlwaysDelivered
always_delivered = delivered_fine
