-- The columns of the built plan's run: on arrival all are sealed, after opening they are the least view, and a result's are the profile's.
use Prim.Native.Nat.{ℕ, zero, suc, ◌+◌, ◌<◌}
use mathlib.Core.Path.{◌≡◌, refl, sym, ◌∙◌}
use mathlib.Core.Bool.{Bool, true, false}
use mathlib.Core.Logic.{◌⊎◌, inl, inr, ⊎_elim}
use native.Mathlib.Omega.{arith}
use lib.Dec.{eqb}
use borrow.Author.Tests.{eqb-true, eqb-false, ne_eqb}
use Rattle.std.specs.Prelude.{if◌then◌else◌}
use Rattle.sets.specs.Sets.{In, member}
use Rattle.sets.proofs.Members.{in_member, out_member, in_or_not, in_meet}
use Rattle.night.specs.Night.{Night, node_of}
use Rattle.night.specs.Kinds.{uses_right, visible}
use Rattle.night.specs.Promised.{Promised}
use Rattle.night.proofs.Visible.{OfOperand, operand_map, step_uses_left, visible_operand}
use Rattle.model.specs.Tables.{table_of}
use Rattle.model.specs.Choice.{Choice}
use Rattle.run.specs.Keys.{Plan}
use Rattle.model.specs.Plan.{openings, sealings, built}
use Rattle.run.specs.Run.{Form, absent, clear, sealed, Held, key_of, sealed_under, unsealed, beside, leaving, opened_by, together, result_of, left_arrives, right_arrives, left_opened, right_opened, arrived, opened}
use Rattle.model.proofs.Shown.{leaf_clear, step_clear}
use Rattle.run.proofs.Forms.{absent_clear, absent_sealed}
use Rattle.model.proofs.HeldLaws.{There, left_comes, right_comes, right_none, step_column, leaf_column, held_absent}
use Rattle.model.proofs.KeyLaws.{ever, seals_ever}
use Rattle.model.proofs.Built.{seals_clear, opens_needed}

-- a column that has this form or is absent; side by side, where one has the form, both have it
abbrev OrAbsent : Form → Form → Type 0
OrAbsent f w = (f ≡ absent) ⊎ (f ≡ w)

beside_is : (f g w : Form) → There w → OrAbsent f w → OrAbsent g w → (f ≡ w) ⊎ (g ≡ w) → beside f g ≡ w
beside_is f g w t (inl p) (inl q) (inl e) = absurd (no w t (sym p ∙ e))
  where
    no : (w : Form) → There w → absent ≡ w → ⊥
    no absent t e = t
    no clear t e = absent_clear e
    no (sealed k) t e = absent_sealed e
beside_is f g w t (inl p) (inl q) (inr e) = rw p e
beside_is f g w t (inl p) (inr q) e = rw p q
beside_is f g w t (inr p) q e = rw p (stays w t)
  where
    stays : (w : Form) → There w → beside w g ≡ w
    stays absent t = absurd t
    stays clear t = refl
    stays (sealed k) t = refl

module _ (N : Night) (sound : Promised N) (c : Choice) where
  abbrev n : ℕ
  n = N.header.nodes

  abbrev p : Plan
  p = built N c

  -- what leaves a node but the root was sealed
  seals_are : (k : ℕ) → k + 1 < n → sealings N k ≡ (table_of N k).clear
  seals_are k l = seals_clear N sound k (omega arith) ∙ rw (ne_eqb (k + 1) n (λ z. omega arith)) refl

  all_ever : (m k a : ℕ) → k < m → k + 1 < n → In a (visible N k) → In a (ever N sound p)
  all_ever zero k a q l h = absurd (omega arith)
  all_ever (suc m) k a q l h = ⊎_elim (here k l) (λ out. go (eqb (node_of N k).kind 0) refl out (λ d x. all_ever m d a (omega arith) (omega arith))) (in_or_not a (table_of N k).clear)
    where
      here : (k : ℕ) → k + 1 < n → In a (table_of N k).clear → In a (ever N sound p)
      here k l x = seals_ever N sound p k a (omega arith) (rw (seals_are k l) x)

      go : (b : Bool) → eqb (node_of N k).kind 0 ≡ b → (In a (table_of N k).clear → ⊥) → ((d : ℕ) → d < k → In a (visible N d) → In a (ever N sound p)) → In a (ever N sound p)
      go true e out lower = absurd (out (rw (leaf_clear N sound k (omega arith) (eqb-true _ 0 e)) h))
      go false e out lower =
          let s = eqb-false (node_of N k).kind 0 e in
          ⊎_elim (λ x. x) (λ x. x.1) (operand_map N sound k (omega arith) s lower (visible_operand N sound k (omega arith) s a h))

  pub leaves_ever : (k a : ℕ) → k + 1 < n → In a (visible N k) → In a (ever N sound p)
  leaves_ever k a l h = all_ever (suc k) k a (omega arith) l h

  -- a column of a node's result is clear where the profile's is, and else sealed under its key
  abbrev pub Formed : ℕ → ℕ → Type 0
  Formed i a =
      (In a (table_of N i).clear × ((result_of N p i).column a ≡ clear)) ⊎ ((In a (table_of N i).clear → ⊥) × ((result_of N p i).column a ≡ sealed (key_of N p a)))

  -- so it leaves sealed
  pub leaves-sealed : (k a : ℕ) → k + 1 < n → Formed k a → (leaving N p k (result_of N p k)).column a ≡ sealed (key_of N p a)
  unfolding leaving
  leaves-sealed k a l =
      ⊎_elim (λ w. rw (in_member (sealings N k) a (rw (seals_are k l) w.0), w.1) refl) (λ w. rw (out_member (sealings N k) a (λ q. w.0 (rw (seals_are k l) at q)), w.1) refl)

  pub leaves_absent : (k a : ℕ) → k < n → (In a (visible N k) → ⊥) → (leaving N p k (result_of N p k)).column a ≡ absent
  unfolding leaving
  leaves_absent k a l h = rw (held_absent N p sound k a l h) (go (member (sealings N k) a))
    where
      go : (b : Bool) → (if b then sealed_under (key_of N p a) absent else absent) ≡ absent
      go true = refl
      go false = refl

  -- and is opened where it is needed
  abbrev pub wanted : ℕ → ℕ → Form
  wanted i a = if member (node_of N i).needed a then clear else sealed (key_of N p a)

  pub opened_wanted : (i a : ℕ) → i < n → (t : Held) → t.column a ≡ sealed (key_of N p a) → (opened_by p i t).column a ≡ wanted i a
  unfolding opened_by
  opened_wanted i a l t e = rw (opens_needed N sound i l, e) (go (member (node_of N i).needed a))
    where
      go : (b : Bool) → (if b then unsealed (sealed (key_of N p a)) else sealed (key_of N p a)) ≡ (if b then clear else sealed (key_of N p a))
      go true = refl
      go false = refl

  pub opened_absent : (i a : ℕ) (t : Held) → t.column a ≡ absent → (opened_by p i t).column a ≡ absent
  unfolding opened_by
  opened_absent i a t e = rw e (go (member (openings N (sealings N) i) a))
    where
      go : (b : Bool) → (if b then unsealed absent else absent) ≡ absent
      go true = refl
      go false = refl

  wanted_there : (i a : ℕ) → There (wanted i a)
  wanted_there i a = go (member (node_of N i).needed a)
    where
      go : (b : Bool) → There (if b then clear else sealed (key_of N p a))
      go true = tt
      go false = tt

  -- a step's operands, where all that is visible after lower nodes is so formed
  module _ (i : ℕ) (l : i < n) (s : (node_of N i).kind ≡ 0 → ⊥) (lower : (k : ℕ) → k < i → (a : ℕ) → In a (visible N k) → Formed k a) (a : ℕ) where
    abbrev key : ℕ
    key = key_of N p a

    left_lower : (node_of N i).left < i
    left_lower = (sound.node i l).left_lower (step_uses_left (node_of N i).kind s)

    left_sealed : In a (visible N (node_of N i).left) → (left_arrives N p i).column a ≡ sealed key
    left_sealed h = rw (left_comes N p i (step_uses_left (node_of N i).kind s)) (leaves-sealed (node_of N i).left a (omega (arith, left_lower)) (lower (node_of N i).left left_lower a h))

    left_absent : (In a (visible N (node_of N i).left) → ⊥) → (left_arrives N p i).column a ≡ absent
    left_absent h = rw (left_comes N p i (step_uses_left (node_of N i).kind s)) (leaves_absent (node_of N i).left a (omega (arith, left_lower)) h)

    right_sealed : uses_right (node_of N i).kind ≡ true → In a (visible N (node_of N i).right) → (right_arrives N p i).column a ≡ sealed key
    right_sealed u h =
        rw (right_comes N p i u)
        (leaves-sealed (node_of N i).right a (omega (arith, (sound.node i l).right_lower u)) (lower (node_of N i).right ((sound.node i l).right_lower u) a h))

    right_absent : uses_right (node_of N i).kind ≡ true → (In a (visible N (node_of N i).right) → ⊥) → (right_arrives N p i).column a ≡ absent
    right_absent u h = rw (right_comes N p i u) (leaves_absent (node_of N i).right a (omega (arith, (sound.node i l).right_lower u)) h)

    left_or : OrAbsent ((left_arrives N p i).column a) (sealed key)
    left_or = ⊎_elim (λ h. inr (left_sealed h)) (λ h. inl (left_absent h)) (in_or_not a (visible N (node_of N i).left))

    right_or : OrAbsent ((right_arrives N p i).column a) (sealed key)
    right_or = go (uses_right (node_of N i).kind) refl
      where
        go : (b : Bool) → uses_right (node_of N i).kind ≡ b → OrAbsent ((right_arrives N p i).column a) (sealed key)
        go true u = ⊎_elim (λ h. inr (right_sealed u h)) (λ h. inl (right_absent u h)) (in_or_not a (visible N (node_of N i).right))
        go false u = inl (rw (right_none N p i u) refl)

    -- on arrival everything is sealed
    arrived_sealed : OfOperand N i (λ k. In a (visible N k)) → (arrived N p i).column a ≡ sealed key
    unfolding arrived together
    arrived_sealed h =
        beside_is ((left_arrives N p i).column a) ((right_arrives N p i).column a) (sealed key) tt left_or right_or
        (⊎_elim (λ x. inl (left_sealed x)) (λ x. inr (right_sealed x.0 x.1)) h)

    -- after opening it is the least view
    opened_is : OfOperand N i (λ k. In a (visible N k)) → (opened N p i).column a ≡ wanted i a
    unfolding opened together left_opened right_opened
    opened_is h =
        beside_is ((left_opened N p i).column a) ((right_opened N p i).column a) (wanted i a) (wanted_there i a) (after (left_arrives N p i) left_or) (after (right_arrives N p i) right_or)
        (⊎_elim (λ x. inl (opened_wanted i a l (left_arrives N p i) (left_sealed x))) (λ x. inr (opened_wanted i a l (right_arrives N p i) (right_sealed x.0 x.1))) h)
      where
        after : (t : Held) → OrAbsent (t.column a) (sealed key) → OrAbsent ((opened_by p i t).column a) (wanted i a)
        after t = ⊎_elim (λ e. inl (opened_absent i a t e)) (λ e. inr (opened_wanted i a l t e))

    formed_step : In a (visible N i) → Formed i a
    formed_step h =
        ⊎_elim
        (λ q. inl (rw (step_clear N sound i l s) ((in_meet (node_of N i).needed (visible N i) a).1 (q, h)), column ∙ rw (in_member (node_of N i).needed a q) refl))
        (λ q. inr ((λ x. q ((in_meet (node_of N i).needed (visible N i) a).0 (rw (step_clear N sound i l s) at x)).0), column ∙ rw (out_member (node_of N i).needed a q) refl))
        (in_or_not a (node_of N i).needed)
      where
        column : (result_of N p i).column a ≡ wanted i a
        column = step_column N p sound i a l s h ∙ opened_is (visible_operand N sound i l s a h)

  all_formed : (m i : ℕ) → i < m → i < n → (a : ℕ) → In a (visible N i) → Formed i a
  all_formed zero i q l a h = absurd (omega arith)
  all_formed (suc m) i q l a h = go (eqb (node_of N i).kind 0) refl (λ k x. all_formed m k (omega arith) (omega arith))
    where
      go : (b : Bool) → eqb (node_of N i).kind 0 ≡ b → ((k : ℕ) → k < i → (a : ℕ) → In a (visible N k) → Formed k a) → Formed i a
      go true e lower = inl (rw (leaf_clear N sound i l (eqb-true _ 0 e)) h, leaf_column N p sound i a l (eqb-true _ 0 e) h)
      go false e lower = formed_step i l (eqb-false _ 0 e) lower a h

  pub formed : (i a : ℕ) → i < n → In a (visible N i) → Formed i a
  formed i a l h = all_formed (suc i) i (omega arith) l a h

  -- a step's columns on arrival, and after opening
  module _ (i : ℕ) (l : i < n) (s : (node_of N i).kind ≡ 0 → ⊥) where
    pub came : (a : ℕ) → OfOperand N i (λ k. In a (visible N k)) → (arrived N p i).column a ≡ sealed (key_of N p a)
    came a = arrived_sealed i l s (λ k q b. formed k b (omega arith)) a

    pub needed_clear : (a : ℕ) → In a (node_of N i).needed → OfOperand N i (λ k. In a (visible N k)) → (opened N p i).column a ≡ clear
    needed_clear a h o = opened_is i l s (λ k q b. formed k b (omega arith)) a o ∙ rw (in_member (node_of N i).needed a h) refl

    pub other_sealed : (a : ℕ) → (In a (node_of N i).needed → ⊥) → OfOperand N i (λ k. In a (visible N k)) → (opened N p i).column a ≡ sealed (key_of N p a)
    other_sealed a h o = opened_is i l s (λ k q b. formed k b (omega arith)) a o ∙ rw (out_member (node_of N i).needed a h) refl
