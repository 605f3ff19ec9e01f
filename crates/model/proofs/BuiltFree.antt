-- No node is stuck in the built plan's run.
use Prim.Native.Nat.{ℕ, ◌+◌, ◌<◌}
use mathlib.Core.Path.{◌≡◌, refl, sym, ap, ◌∙◌}
use mathlib.Core.Bool.{Bool, true, false}
use mathlib.Core.List.{List, [], ◌∷◌}
use mathlib.Core.Logic.{◌⊎◌, inl, ⊎_elim}
use native.Mathlib.Omega.{arith}
use lib.Dec.{eqb}
use borrow.Author.Tests.{eqb-true, eqb-false}
use Rattle.std.specs.Prelude.{if◌then◌else◌}
use Rattle.sets.specs.Sets.{In, Within, Apart}
use Rattle.sets.proofs.Members.{in_union, in_none}
use Rattle.sets.proofs.Words.{some_member}
use Rattle.night.specs.declared.Node.{Node}
use Rattle.night.specs.Night.{Night, node_of}
use Rattle.night.specs.Kinds.{reads, read_together, visible}
use Rattle.night.specs.Promised.{Promised, AllOrNone}
use Rattle.night.proofs.Visible.{OfOperand, operand_map, visible_below, reads_step, reads_operand}
use Rattle.run.specs.Linked.{one}
use Rattle.model.specs.Tables.{ties, table_of}
use Rattle.model.specs.Choice.{Choice}
use Rattle.run.specs.Keys.{Plan}
use Rattle.model.specs.Plan.{openings, sealings, built}
use Rattle.model.specs.Demand.{Assigned}
use Rattle.run.specs.Run.{clear, sealed, Some, key_of, holders, result_of, arrived, opened, AllAre, Stuck, seals_unclear, opens_unsealed, opens_unheld, needs_unclear, mixes}
use Rattle.run.proofs.Forms.{same_sealed}
use Rattle.model.proofs.Shown.{shown_visible}
use Rattle.model.proofs.Together.{some_listed, together_read}
use Rattle.model.proofs.KeyLaws.{ever, same_key, opens_held}
use Rattle.model.proofs.Built.{seals_clear, opens_needed}
use Rattle.model.proofs.BuiltColumns.{leaves_ever, formed, came, needed_clear, other_sealed}

-- where it is so of every set of a list, of one of them all is needed or none
all_or_none : (needed m : ℕ) (ts : List ℕ) → AllOrNone needed ts → Some (λ t. m ≡ t) ts → Apart needed m ⊎ Within m needed
all_or_none needed m [] f h = absurd h
all_or_none needed m (t ∷ ts) f h = ⊎_elim (λ e. rw e f.0) (all_or_none needed m ts f.1) h

module _ (N : Night) (sound : Promised N) (c : Choice) (assigned : Assigned N c) (i : ℕ) (l : i < N.header.nodes) where
  abbrev p : Plan
  p = built N c

  abbrev v : Node
  v = node_of N i

  -- what is read comes from an operand
  comes : (a : ℕ) → In a (reads N v) → OfOperand N i (λ k. In a (visible N k))
  comes a h = reads_operand N sound i l (reads_step N v a h) a h

  needed_comes : (a : ℕ) → In a v.needed → OfOperand N i (λ k. In a (visible N k))
  needed_comes a h = comes a ((sound.node i l).needed_read a h)

  needed_step : (a : ℕ) → In a v.needed → v.kind ≡ 0 → ⊥
  needed_step a h = reads_step N v a ((sound.node i l).needed_read a h)

  opens_are : (a : ℕ) → In a (openings N (sealings N) i) → In a v.needed
  opens_are a h = rw (opens_needed N sound i l) at h

  -- and was sealed by a lower node
  read_ever : (a : ℕ) → In a (reads N v) → In a (ever N sound p)
  read_ever a h = ⊎_elim (λ x. x) (λ x. x.1) (operand_map N sound i l (reads_step N v a h) {R = λ k. In a (ever N sound p)} (λ k q x. leaves_ever N sound c k a (omega arith) x) (comes a h))

  read_low : (a : ℕ) → In a (reads N v) → a < 64
  read_low a h =
      let below = operand_map N sound i l (reads_step N v a h) {R = λ k. a < N.header.attributes} (λ k q x. visible_below N sound k a (omega arith) x) (comes a h) in
      omega (arith, ⊎_elim (λ x. x) (λ x. x.1) below, sound.counts.attributes_most)

  -- it seals what is clear
  seals_fine : (a : ℕ) → In a (sealings N i) → (result_of N p i).column a ≡ clear
  seals_fine a h = go (eqb (i + 1) N.header.nodes) (rw (seals_clear N sound i l) at h)
    where
      go : (b : Bool) → In a (if b then 0 else (table_of N i).clear) → (result_of N p i).column a ≡ clear
      go true q = absurd (in_none a q)
      go false q = ⊎_elim (λ w. w.1) (λ w. absurd (w.0 q)) (formed N sound c i a l (rw (← shown_visible N sound i l) ((in_union (table_of N i).clear (table_of N i).sealed a).1 (inl q))))

  -- it holds the keys of what it opens
  opens_fine : (a key : ℕ) → In a (openings N (sealings N) i) → (arrived N p i).column a ≡ sealed key → In (c i) (holders N p key)
  opens_fine a key h e =
      let r = (sound.node i l).needed_read a (opens_are a h) in
      let same : key ≡ key_of N p a = same_sealed (sym e ∙ came N sound c i l (reads_step N v a r) a (comes a r)) in
      rw same (opens_held N sound p i a l (omega (arith, assigned.there i l, sound.counts.subjects_most)) h (read_ever a r) (read_low a r))

  -- what is read together and not needed is sealed under one key, since the step itself ties it
  tied_fine : (m : ℕ) → Some (λ t. m ≡ t) (read_together N v) → Apart v.needed m → (key : ℕ) × AllAre (opened N p i) m (sealed key)
  unfolding ties
  tied_fine m q out = go (eqb m 0) refl
    where
      read : (a : ℕ) → In a m → In a (reads N v)
      read a h = together_read N v m q a h

      go : (b : Bool) → eqb m 0 ≡ b → (key : ℕ) × AllAre (opened N p i) m (sealed key)
      go true e = (0, λ a h. absurd (in_none a (rw (eqb-true m 0 e) at h)))
      go false e =
          let w = some_member m (eqb-false m 0 e) in (
            key_of N p w.0,
            λ a h.
                other_sealed N sound c i l (reads_step N v a (read a h)) a (λ x. out a x h) (comes a (read a h))
                ∙ ap sealed (same_key N sound p a w.0 (read_ever a (read a h)) (read_ever w.0 (read w.0 w.1)) (one (i, l, (some_listed m (ties N v)).0 q) h w.1)),
          )

  pub built_free : Stuck N p i → ⊥
  built_free (seals_unclear a h f) = f (seals_fine a h)
  built_free (opens_unsealed a h f) =
      let r = opens_are a h in
      f (key_of N p a) (came N sound c i l (needed_step a r) a (needed_comes a r))
  built_free (opens_unheld a key h e f) = f (opens_fine a key h e)
  built_free (needs_unclear a h f) = f (needed_clear N sound c i l (needed_step a h) a h (needed_comes a h))
  built_free (mixes m q f g) =
      ⊎_elim
      (λ out.
      let w = tied_fine m q out in
      g w.0 w.1)
      (λ all. f (λ a h. needed_clear N sound c i l (needed_step a (all a h)) a (all a h) (needed_comes a (all a h))))
      (all_or_none v.needed m (read_together N v) (sound.node i l).needed_together q)
