-- What one walk from the root leaves: every node is reached, and past the last node the rooms are as they were.
use Prim.Native.Nat.{ℕ, zero, suc, ◌+◌, ◌-◌, ◌<◌, ◌≤◌}
use mathlib.Core.Path.{◌≡◌, refl, sym, ap, ◌∙◌}
use mathlib.Core.Bool.{Bool, true, false}
use mathlib.Core.List.{List}
use native.Mathlib.Nat.{lt_of_not-le}
use native.Mathlib.Omega.{arith}
use lib.Dec.{eqb, ltb}
use lib.ListN.{length, length-set, get_or, get_or-replicate, replicate, set}
use lib.Seq.{ext_get_or, get_or-set_same, get_or-set_other}
use borrow.Author.Tests.{ltb-true, ltb-false, eq-eqb, ne_eqb, eqb-true, eqb-false}
use Rattle.std.specs.Prelude.{if◌then◌else◌}
use Rattle.laws.specs.Upwards.{each}
use Rattle.laws.proofs.Upwards.{each_at, each_length}
use Rattle.sets.specs.Sets.{single, unions}
use Rattle.night.specs.declared.Header.{Header}
use Rattle.night.specs.declared.Relation.{Relation}
use Rattle.night.specs.declared.Node.{Node}
use Rattle.night.specs.Night.{Night, relation_of, node_of}
use Rattle.night.specs.Promised.{Promised}
use Rattle.format.specs.Layout.{night_in}
use Rattle.format.proofs.Sections.{node_past}
use Rattle.model.specs.declared.Table.{Table}
use Rattle.model.specs.Candidates.{is_candidate, candidate_set}
use Rattle.model.specs.Dp.{subjects_of}
use Rattle.model.specs.OneTest.{Under}
use Rattle.model.specs.Tables.{table_of}
use Rattle.model.proofs.TableLaws.{union_none, table_past}
use Rattle.model.proofs.Under.{all_under}
use Rattle.eligible.specs.Walk.{clear_at, Fills}

-- no node past the last one is a step
pub step_there : (s : List ℕ) (h : Header) (i : ℕ) → ((node_of (night_in s h) i).kind ≡ 0 → ⊥) → i < h.nodes
step_there s h i no_leaf = lt_of_not-le (λ l. no_leaf (rw (node_past s h i l) refl))

-- past the last node stands a leaf of nothing, of the first relation
pub subjects_past : (s : List ℕ) (h : Header) (first : Relation) → first ≡ relation_of (night_in s h) 0 → (x : ℕ) → x ≡ single 16 first.owner
    → (k : ℕ) → h.nodes ≤ k → k < 64 → get_or (replicate 64 x) k 0 ≡ subjects_of (night_in s h) k
unfolding subjects_of
subjects_past s h first e x f k l m =
    let N = night_in s h in
    get_or-replicate 64 k x 0 m ∙ f ∙ ap (λ (r : Relation). single 16 r.owner) e
    ∙ sym (ap (λ (v : Node). if eqb v.kind 0 then single 16 (relation_of N v.x).owner else candidate_set N k) (node_past s h k l))

-- a step's subjects are its candidates, and a leaf has none
pub step_set : (N : Night) (i : ℕ) → ((node_of N i).kind ≡ 0 → ⊥) → subjects_of N i ≡ candidate_set N i
unfolding subjects_of
step_set N i s = rw (ne_eqb (node_of N i).kind 0 s) refl

pub leaf_set : (N : Night) (i : ℕ) → (node_of N i).kind ≡ 0 → 0 ≡ candidate_set N i
unfolding candidate_set is_candidate unions
leaf_set N i e = rw (eq-eqb (node_of N i).kind 0 e) (none N.header.subjects)
  where
    none : (n : ℕ) → 0 ≡ unions (λ p. 0) n
    none zero = refl
    none (suc n) = rw (← none n) (sym (union_none 0))

module _ (N : Night) (sound : Promised N) where
  -- a room that was right past the last node
  module _ (right : ℕ → ℕ) (before after : List ℕ) (past : (k : ℕ) → N.header.nodes ≤ k → k < 64 → get_or before k 0 ≡ right k)
      (F : Fills right (Under N (N.header.nodes - 1)) before after) where
    pub room_whole : after ≡ each 64 right
    room_whole = ext_get_or 0 after (each 64 right) (F.long ∙ sym (each_length right 64)) (λ k l. at k (rw F.long at l) ∙ sym (each_at right 0 k 64 (rw F.long at l)))
      where
        at : (k : ℕ) → k < 64 → get_or after k 0 ≡ right k
        at k l = go (ltb k N.header.nodes) refl
          where
            go : (b : Bool) → ltb k N.header.nodes ≡ b → get_or after k 0 ≡ right k
            go true e = F.filled k (all_under N sound k (ltb-true k N.header.nodes e))
            go false e = F.kept k (past k (ltb-false k N.header.nodes e) l)

  -- past the last node nothing is in clear
  pub clear_past : (k : ℕ) → N.header.nodes ≤ k → k < 64 → get_or (replicate 64 0) k 0 ≡ clear_at N k
  clear_past k l m = get_or-replicate 64 k 0 0 m ∙ sym (ap (λ (t : Table). t.clear) (table_past N k l))

  -- the root seals nothing
  pub root_open : (room : List ℕ) → room ≡ each 64 (clear_at N) → set room (N.header.nodes - 1) 0 ≡ each 64 (λ i. if eqb (i + 1) N.header.nodes then 0 else (table_of N i).clear)
  root_open room e =
      ext_get_or 0 (set room root 0) (each 64 sealed) (length-set room root 0 ∙ long ∙ sym (each_length sealed 64))
      (λ k l. let low = rw (length-set room root 0, long) at l in at k low ∙ sym (each_at sealed 0 k 64 low))
    where
      root : ℕ
      root = N.header.nodes - 1

      sealed : ℕ → ℕ
      sealed i = if eqb (i + 1) N.header.nodes then 0 else (table_of N i).clear

      long : length room ≡ 64
      long = rw e (each_length (clear_at N) 64)

      at : (k : ℕ) → k < 64 → get_or (set room root 0) k 0 ≡ sealed k
      at k l = go (eqb (k + 1) N.header.nodes) refl
        where
          go : (b : Bool) → eqb (k + 1) N.header.nodes ≡ b → get_or (set room root 0) k 0 ≡ (if b then 0 else (table_of N k).clear)
          go true q =
              let same : k ≡ root = omega (arith, eqb-true (k + 1) N.header.nodes q) in
              rw same (get_or-set_same room root 0 0 (omega (arith, long, l, same)))
          go false q =
              get_or-set_other room root k 0 0 (λ same. eqb-false (k + 1) N.header.nodes q (omega (arith, same, sound.counts.nodes_some)))
              ∙ rw e (each_at (clear_at N) 0 k 64 l)
