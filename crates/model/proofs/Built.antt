-- The built plan: all that a step takes arrives sealed, so that it opens just what it needs and seals what is clear in its table.
use Prim.Native.Nat.{ℕ, zero, suc, ◌+◌, ◌<◌}
use mathlib.Core.Path.{◌≡◌, refl, sym, ◌∙◌}
use mathlib.Core.Bool.{Bool, true, false}
use mathlib.Core.Logic.{inl, inr, ⊎_elim}
use native.Mathlib.Omega.{arith}
use lib.Dec.{eqb}
use lib.ListN.{get_or}
use borrow.Author.Tests.{eqb-true, eqb-false, ne_eqb}
use Rattle.std.specs.Prelude.{if◌then◌else◌}
use Rattle.laws.specs.Choose.{any_of}
use Rattle.laws.specs.Upwards.{upwards}
use Rattle.laws.proofs.Upwards.{upwards_at}
use Rattle.sets.specs.Sets.{In, Within, member, union, meet, minus}
use Rattle.sets.proofs.Members.{in_union, in_meet, in_minus, in_none, member_in, not_member, same_members}
use Rattle.night.specs.declared.Node.{Node}
use Rattle.night.specs.Night.{Night, node_of}
use Rattle.night.specs.Kinds.{uses_left, uses_right, visible}
use Rattle.night.specs.Promised.{Promised}
use Rattle.night.proofs.Visible.{OfOperand, step_uses_left, visible_operand, reads_step, reads_operand}
use Rattle.model.specs.Tables.{table_of}
use Rattle.model.specs.Plan.{leaves_sealed, arrives_sealed, opens_at, sealed_step, sealed_results, openings, seals_step, sealings, OpensNeeded}
use Rattle.model.proofs.TableLaws.{union_none}
use Rattle.model.proofs.Shown.{leaf_clear, step_clear}

-- small facts on sets
meet_all : (a b : ℕ) → Within a b → meet a b ≡ a
meet_all a b f = same_members (meet a b) a (λ k h. ((in_meet a b k).0 h).0) (λ k h. (in_meet a b k).1 (h, f k h))

-- what is sealed, with the rest of v sealed too, has all of v
seal_rest : (r v : ℕ) → meet (union r (minus v r)) v ≡ v
seal_rest r v = same_members (meet (union r (minus v r)) v) v (λ k h. ((in_meet (union r (minus v r)) v k).0 h).1) (λ k h. (in_meet (union r (minus v r)) v k).1 (go k (member r k) refl h, h))
  where
    go : (k : ℕ) (b : Bool) → member r k ≡ b → In k v → In k (union r (minus v r))
    go k true e h = (in_union r (minus v r) k).1 (inl (member_in r k e))
    go k false e h = (in_union r (minus v r) k).1 (inr ((in_minus v r k).1 (h, not_member r k e)))

-- what of v isn't left sealed is what was needed of it, where v lies in what came
not_left : (came needed v : ℕ) → Within v came → minus v (meet (minus came needed) v) ≡ meet needed v
not_left came needed v f = same_members (minus v (meet (minus came needed) v)) (meet needed v) to fro
  where
    was : (k : ℕ) (b : Bool) → member needed k ≡ b → In k v → (In k (meet (minus came needed) v) → ⊥) → In k needed
    was k true e h out = member_in needed k e
    was k false e h out = absurd (out ((in_meet (minus came needed) v k).1 ((in_minus came needed k).1 (f k h, not_member needed k e), h)))

    to : Within (minus v (meet (minus came needed) v)) (meet needed v)
    to k h =
        let w = (in_minus v (meet (minus came needed) v) k).0 h in
        (in_meet needed v k).1 (was k (member needed k) refl w.0 w.1, w.0)

    fro : Within (meet needed v) (minus v (meet (minus came needed) v))
    fro k h =
        let w = (in_meet needed v k).0 h in
        (in_minus v (meet (minus came needed) v) k).1 (w.1, λ q. ((in_minus came needed k).0 ((in_meet (minus came needed) v k).0 q).0).1 w.0)

none_left : (needed v : ℕ) → minus v (meet (minus 0 needed) v) ≡ v
none_left needed v =
    same_members (minus v (meet (minus 0 needed) v)) v (λ k h. ((in_minus v (meet (minus 0 needed) v) k).0 h).0)
    (λ k h. (in_minus v (meet (minus 0 needed) v) k).1 (h, λ q. in_none k ((in_minus 0 needed k).0 ((in_meet (minus 0 needed) v k).0 q).0).0))

module _ (N : Night) (sound : Promised N) where
  abbrev n : ℕ
  n = N.header.nodes

  -- all that is visible in node i's operands
  abbrev brought : ℕ → ℕ
  brought i =
      union (if uses_left (node_of N i).kind then visible N (node_of N i).left else 0) (if uses_right (node_of N i).kind then visible N (node_of N i).right else 0)

  -- two values of the operands are alike where they are alike at every earlier node
  operands_same : (f g : ℕ → ℕ) (i : ℕ) → i < n → ((k : ℕ) → k < i → f k ≡ g k)
      → union (if uses_left (node_of N i).kind then f (node_of N i).left else 0) (if uses_right (node_of N i).kind then f (node_of N i).right else 0)
      ≡ union (if uses_left (node_of N i).kind then g (node_of N i).left else 0) (if uses_right (node_of N i).kind then g (node_of N i).right else 0)
  operands_same f g i l same = rw (one (uses_left v.kind) v.left (sound.node i l).left_lower, one (uses_right v.kind) v.right (sound.node i l).right_lower) refl
    where
      v : Node
      v = node_of N i

      one : (b : Bool) (k : ℕ) → (b ≡ true → k < i) → (if b then f k else 0) ≡ (if b then g k else 0)
      one true k h = same k (h refl)
      one false k h = refl

  -- what is visible in one of them is brought
  of_operand : (i k : ℕ) → ((node_of N i).kind ≡ 0 → ⊥) → OfOperand N i (λ c. In k (visible N c)) → In k (brought i)
  of_operand i k s =
      ⊎_elim
      (λ h. (in_union (if uses_left (node_of N i).kind then visible N (node_of N i).left else 0) _ k).1 (inl (rw (step_uses_left (node_of N i).kind s) h)))
      (λ h. (in_union _ (if uses_right (node_of N i).kind then visible N (node_of N i).right else 0) k).1 (inr (rw h.0 h.1)))

  -- a step shows nothing new, and needs nothing else
  visible_brought : (i : ℕ) → i < n → ((node_of N i).kind ≡ 0 → ⊥) → Within (visible N i) (brought i)
  visible_brought i l s k h = of_operand i k s (visible_operand N sound i l s k h)

  needed_brought : (i : ℕ) → i < n → Within (node_of N i).needed (brought i)
  needed_brought i l k h =
      let r = (sound.node i l).needed_read k h in
      let s = reads_step N (node_of N i) k r in
      of_operand i k s (reads_operand N sound i l s k r)

  -- what is sealed in node i's result, for given sealings, from what then arrives at it
  abbrev arriving : (ℕ → ℕ) → ℕ → ℕ
  arriving seals i = arrives_sealed N seals (sealed_results N seals) i

  arrives_made : (seals : ℕ → ℕ) (i : ℕ) → i < n → arrives_sealed N seals (upwards (sealed_step N seals) i) i ≡ arriving seals i
  unfolding arrives_sealed leaves_sealed sealed_results
  arrives_made seals i l =
      operands_same (leaves_sealed N seals (upwards (sealed_step N seals) i)) (leaves_sealed N seals (sealed_results N seals)) i l
      (λ k h. rw (upwards_at (sealed_step N seals) 0 k i h, upwards_at (sealed_step N seals) 0 k n (omega arith)) refl)

  sealed_made : (seals : ℕ → ℕ) (i : ℕ) → i < n
      → get_or (sealed_results N seals) i 0 ≡ meet (minus (arriving seals i) (meet (node_of N i).needed (arriving seals i))) (visible N i)
  unfolding sealed_results sealed_step opens_at
  sealed_made seals i l = upwards_at (sealed_step N seals) 0 i n l ∙ rw (arrives_made seals i l) refl

  -- it rests on the sealings of earlier nodes alone
  sealed_same : (s t : ℕ → ℕ) (m i : ℕ) → i < m → i < n → ((k : ℕ) → k < i → s k ≡ t k) → get_or (sealed_results N s) i 0 ≡ get_or (sealed_results N t) i 0
  unfolding arrives_sealed leaves_sealed
  sealed_same s t zero i below l same = absurd (omega arith)
  sealed_same s t (suc m) i below l same =
      let arrives : arriving s i ≡ arriving t i =
      operands_same (leaves_sealed N s (sealed_results N s)) (leaves_sealed N t (sealed_results N t)) i l
      (λ k h. rw (sealed_same s t m k (omega arith) (omega arith) (λ j q. same j (omega arith)), same k h) refl)
      in
      sealed_made s i l ∙ rw (arrives, ← sealed_made t i l) refl

  -- the built sealings: all of the result that is not sealed
  seals_made : (i : ℕ) → i < n → sealings N i ≡ (if eqb (i + 1) n then 0 else minus (visible N i) (get_or (sealed_results N (sealings N)) i 0))
  unfolding sealings seals_step
  seals_made i l =
      upwards_at (seals_step N) 0 i n l
      ∙ rw (sealed_same (λ k. get_or (upwards (seals_step N) i) k 0) (sealings N) (suc i) i (omega arith) l
      (λ k h. upwards_at (seals_step N) 0 k i h ∙ sym (upwards_at (seals_step N) 0 k n (omega arith)))) refl

  -- so everything leaves a child sealed
  leaves_all : (k : ℕ) → k + 1 < n → leaves_sealed N (sealings N) (sealed_results N (sealings N)) k ≡ visible N k
  unfolding leaves_sealed
  leaves_all k l =
      rw (seals_made k (omega arith), ne_eqb (k + 1) n (λ z. omega arith)) (seal_rest (get_or (sealed_results N (sealings N)) k 0) (visible N k))

  arrives_all : (i : ℕ) → i < n → arriving (sealings N) i ≡ brought i
  unfolding arrives_sealed
  arrives_all i l = operands_same (leaves_sealed N (sealings N) (sealed_results N (sealings N))) (visible N) i l (λ k h. leaves_all k (omega arith))

  opens_all : (i : ℕ) → i < n → openings N (sealings N) i ≡ (node_of N i).needed
  unfolding openings opens_at
  opens_all i l = rw (arrives_all i l) (meet_all (node_of N i).needed (brought i) (needed_brought i l))

  -- what is then left sealed in the result
  sealed_left : (i : ℕ) → i < n → get_or (sealed_results N (sealings N)) i 0 ≡ meet (minus (brought i) (node_of N i).needed) (visible N i)
  sealed_left i l = sealed_made (sealings N) i l ∙ rw (arrives_all i l, meet_all (node_of N i).needed (brought i) (needed_brought i l)) refl

  -- so what isn't sealed in a result is what is clear in its table
  seals_leaf : (i : ℕ) → i < n → (node_of N i).kind ≡ 0 → minus (visible N i) (get_or (sealed_results N (sealings N)) i 0) ≡ (table_of N i).clear
  unfolding uses_left uses_right any_of
  seals_leaf i l z =
      let none : brought i ≡ 0 = rw z (union_none 0) in
      rw (sealed_left i l, none) (none_left (node_of N i).needed (visible N i)) ∙ sym (leaf_clear N sound i l z)

  seals-step : (i : ℕ) → i < n → ((node_of N i).kind ≡ 0 → ⊥) → minus (visible N i) (get_or (sealed_results N (sealings N)) i 0) ≡ (table_of N i).clear
  seals-step i l s = rw (sealed_left i l, step_clear N sound i l s) (not_left (brought i) (node_of N i).needed (visible N i) (visible_brought i l s))

  -- the built sealings: each node but the root seals what is clear in its table
  pub seals_clear : (i : ℕ) → i < n → sealings N i ≡ (if eqb (i + 1) n then 0 else (table_of N i).clear)
  seals_clear i l = seals_made i l ∙ rw (go (eqb (node_of N i).kind 0) refl) refl
    where
      go : (b : Bool) → eqb (node_of N i).kind 0 ≡ b → minus (visible N i) (get_or (sealed_results N (sealings N)) i 0) ≡ (table_of N i).clear
      go true e = seals_leaf i l (eqb-true (node_of N i).kind 0 e)
      go false e = seals-step i l (eqb-false (node_of N i).kind 0 e)

pub opens_needed : OpensNeeded
opens_needed N sound i l = opens_all N sound i l
