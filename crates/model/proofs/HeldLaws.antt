-- How the run's tables are worked out: a leaf's, a step's and its operands'; and which columns they have.
use Prim.Native.Nat.{ℕ, zero, suc, ◌<◌}
use mathlib.Core.Path.{◌≡◌, refl, ◌∙◌}
use mathlib.Core.Bool.{Bool, true, false}
use mathlib.Core.Logic.{⊎_elim}
use native.Mathlib.Omega.{arith}
use lib.Dec.{eqb}
use borrow.Author.Tests.{eqb-true, eqb-false, eq-eqb, ne_eqb}
use Rattle.std.specs.Prelude.{if◌then◌else◌}
use Rattle.laws.specs.Upwards.{upwards}
use Rattle.laws.proofs.Upwards.{upwards_at}
use Rattle.sets.specs.Sets.{In, member}
use Rattle.sets.proofs.Members.{in_member, out_member}
use Rattle.night.specs.Night.{Night, node_of}
use Rattle.night.specs.Kinds.{uses_left, uses_right, visible}
use Rattle.night.specs.Promised.{Promised}
use Rattle.night.proofs.Visible.{OfOperand, operand_map, step_uses_left, visible_leaf, visible_operand}
use Rattle.run.specs.Keys.{Plan}
use Rattle.run.specs.Run.{Form, absent, clear, sealed, Held, sealed_under, unsealed, beside, nothing, key_of, leaving, opened_by, together, leaf_held, result_over, arriving, held_step, helds, result_of, left_arrives, right_arrives, left_opened, right_opened, opened}

module _ (N : Night) (p : Plan) where
  -- node i's table, from those of the nodes before it
  held_made : (i : ℕ) → i < N.header.nodes → result_of N p i ≡ held_step N p (upwards (held_step N p) i) i
  unfolding result_of helds
  held_made i l = upwards_at (held_step N p) nothing i N.header.nodes l

  arriving_lower : (i k : ℕ) (uses : Bool) → i < N.header.nodes → (uses ≡ true → k < i) → arriving N p (upwards (held_step N p) i) uses k ≡ arriving N p (helds N p) uses k
  unfolding arriving helds
  arriving_lower i k true l h =
      rw (upwards_at (held_step N p) nothing k i (h refl), upwards_at (held_step N p) nothing k N.header.nodes (omega (arith, h refl))) refl
  arriving_lower i k false l h = refl

  -- a leaf's, and a step's
  pub held_leaf : (i : ℕ) → i < N.header.nodes → (node_of N i).kind ≡ 0 → result_of N p i ≡ leaf_held (node_of N i)
  unfolding held_step
  held_leaf i l e = held_made i l ∙ rw (eq-eqb (node_of N i).kind 0 e) refl

  pub held-step : Promised N → (i : ℕ) → i < N.header.nodes → ((node_of N i).kind ≡ 0 → ⊥) → result_of N p i ≡ result_over N i (opened N p i)
  unfolding held_step opened left_opened right_opened left_arrives right_arrives
  held-step sound i l s =
      held_made i l
      ∙ rw (
        ne_eqb (node_of N i).kind 0 s,
        arriving_lower i (node_of N i).left (uses_left (node_of N i).kind) l (sound.node i l).left_lower,
        arriving_lower i (node_of N i).right (uses_right (node_of N i).kind) l (sound.node i l).right_lower,
      )
      refl

  -- its operands on arrival
  pub left_comes : (i : ℕ) → uses_left (node_of N i).kind ≡ true → left_arrives N p i ≡ leaving N p (node_of N i).left (result_of N p (node_of N i).left)
  unfolding left_arrives arriving result_of
  left_comes i u = rw u refl

  pub right_comes : (i : ℕ) → uses_right (node_of N i).kind ≡ true → right_arrives N p i ≡ leaving N p (node_of N i).right (result_of N p (node_of N i).right)
  unfolding right_arrives arriving result_of
  right_comes i u = rw u refl

  pub right_none : (i : ℕ) → uses_right (node_of N i).kind ≡ false → right_arrives N p i ≡ nothing
  unfolding right_arrives arriving
  right_none i u = rw u refl

-- a column is there
abbrev pub There : Form → Type 0
There absent = ⊥
There clear = Unit {0}
There (sealed k) = Unit {0}

there_sealed : (b : Bool) (key : ℕ) (f : Form) → There f → There (if b then sealed_under key f else f)
there_sealed true key absent h = h
there_sealed true key clear h = h
there_sealed true key (sealed k) h = h
there_sealed false key f h = h

there_unsealed : (b : Bool) (f : Form) → There f → There (if b then unsealed f else f)
there_unsealed true absent h = h
there_unsealed true clear h = h
there_unsealed true (sealed k) h = h
there_unsealed false f h = h

there_left : (f g : Form) → There f → There (beside f g)
there_left absent g h = absurd h
there_left clear g h = h
there_left (sealed k) g h = h

there_right : (f g : Form) → There g → There (beside f g)
there_right absent g h = h
there_right clear g h = tt
there_right (sealed k) g h = tt

-- it stays there when it is sealed and opened
there_leaving : (N : Night) (p : Plan) (k : ℕ) (t : Held) (a : ℕ) → There (t.column a) → There ((leaving N p k t).column a)
unfolding leaving
there_leaving N p k t a h = there_sealed (member (p.seals k) a) (key_of N p a) (t.column a) h

there_opened : (p : Plan) (i : ℕ) (t : Held) (a : ℕ) → There (t.column a) → There ((opened_by p i t).column a)
unfolding opened_by
there_opened p i t a h = there_unsealed (member (p.opens i) a) (t.column a) h

module _ (N : Night) (p : Plan) (sound : Promised N) where
  -- what a step has opened, where its operands' columns are there
  module _ (i : ℕ) (s : (node_of N i).kind ≡ 0 → ⊥) (a : ℕ) where
    pub left_there : There ((result_of N p (node_of N i).left).column a) → There ((left_opened N p i).column a)
    unfolding left_opened
    left_there h = there_opened p i (left_arrives N p i) a (rw (left_comes N p i (step_uses_left _ s)) (there_leaving N p (node_of N i).left _ a h))

    pub right_there : uses_right (node_of N i).kind ≡ true → There ((result_of N p (node_of N i).right).column a) → There ((right_opened N p i).column a)
    unfolding right_opened
    right_there u h = there_opened p i (right_arrives N p i) a (rw (right_comes N p i u) (there_leaving N p (node_of N i).right _ a h))

    opened_there : OfOperand N i (λ c. There ((result_of N p c).column a)) → There ((opened N p i).column a)
    unfolding opened together
    opened_there h =
        let f = (left_opened N p i).column a in
        let g = (right_opened N p i).column a in
        ⊎_elim (λ x. there_left f g (left_there x)) (λ x. there_right f g (right_there x.0 x.1)) h

  -- a step's columns are those that it has opened, where visible after it
  pub step_column : (i a : ℕ) → i < N.header.nodes → ((node_of N i).kind ≡ 0 → ⊥) → In a (visible N i) → (result_of N p i).column a ≡ (opened N p i).column a
  unfolding result_over
  step_column i a l s h = rw (held-step N p sound i l s, in_member (visible N i) a h) refl

  pub leaf_column : (i a : ℕ) → i < N.header.nodes → (node_of N i).kind ≡ 0 → In a (visible N i) → (result_of N p i).column a ≡ clear
  unfolding leaf_held
  leaf_column i a l e h = rw (held_leaf N p i l e, in_member (node_of N i).set a (rw (visible_leaf N sound i l e) at h)) refl

  -- what isn't visible after a node isn't there
  pub held_absent : (i a : ℕ) → i < N.header.nodes → (In a (visible N i) → ⊥) → (result_of N p i).column a ≡ absent
  unfolding leaf_held result_over
  held_absent i a l h = go (eqb (node_of N i).kind 0) refl
    where
      go : (b : Bool) → eqb (node_of N i).kind 0 ≡ b → (result_of N p i).column a ≡ absent
      go true e = rw (held_leaf N p i l (eqb-true _ 0 e), out_member (node_of N i).set a (λ q. h (rw (visible_leaf N sound i l (eqb-true _ 0 e)) q))) refl
      go false e = rw (held-step N p sound i l (eqb-false _ 0 e), out_member (visible N i) a h) refl

  -- the columns that are there are those visible after the node
  all_there : (m i : ℕ) → i < m → i < N.header.nodes → (a : ℕ) → In a (visible N i) → There ((result_of N p i).column a)
  all_there zero i q l a h = absurd (omega arith)
  all_there (suc m) i q l a h = go (eqb (node_of N i).kind 0) refl (λ c x. all_there m c (omega arith) (omega arith) a)
    where
      go : (b : Bool) → eqb (node_of N i).kind 0 ≡ b → ((c : ℕ) → c < i → In a (visible N c) → There ((result_of N p c).column a)) → There ((result_of N p i).column a)
      go true e lower = rw (leaf_column i a l (eqb-true _ 0 e) h) tt
      go false e lower =
          let s = eqb-false (node_of N i).kind 0 e in
          rw (step_column i a l s h)
          (opened_there i s a (operand_map N sound i l s lower (visible_operand N sound i l s a h)))

  pub held_there : (i a : ℕ) → i < N.header.nodes → In a (visible N i) → There ((result_of N p i).column a)
  held_there i a l h = all_there (suc i) i (omega arith) l a h

  -- and what a step has opened has the columns of its operands
  pub operand_there : (i a : ℕ) → i < N.header.nodes → ((node_of N i).kind ≡ 0 → ⊥) → OfOperand N i (λ c. In a (visible N c)) → There ((opened N p i).column a)
  operand_there i a l s h = opened_there i s a (operand_map N sound i l s (λ c q. held_there c a (omega arith)) h)
