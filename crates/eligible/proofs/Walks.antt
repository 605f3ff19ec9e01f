-- What the walk works out at a step, from its operands, is the step's table, those whom condition 3 puts out, and its candidates.
use Prim.Native.Nat.{ℕ, zero, suc, ◌^◌, ◌<◌, ◌≤◌}
use mathlib.Core.Path.{◌≡◌, refl, sym, ap, ◌∙◌}
use mathlib.Core.Bool.{Bool, true, false}
use mathlib.Core.List.{List, [], ◌∷◌}
use mathlib.Core.Logic.{◌⊎◌, inl, inr}
use native.Mathlib.Omega.{arith}
use lib.Dec.{eqb}
use lib.ListN.{length, get_or, set}
use borrow.Author.Tests.{eq-eqb, ne_eqb, eqb-true, eqb-false}
use Rattle.std.specs.Prelude.{if◌then◌else◌}
use Rattle.laws.proofs.Cases.{clash}
use Rattle.sets.specs.Sets.{minus, single, unions}
use Rattle.night.specs.declared.Relation.{Relation}
use Rattle.night.specs.declared.Node.{Node}
use Rattle.night.specs.Night.{Night, relation_of, node_of}
use Rattle.night.specs.Kinds.{uses_right, visible_after}
use Rattle.night.specs.Promised.{Promised}
use Rattle.night.proofs.Visible.{step_uses_left}
use Rattle.model.specs.declared.Table.{Table}
use Rattle.model.specs.Ties.{untied, gathered, tie, merged, Classes}
use Rattle.model.specs.Tables.{blank, shown, least_view, joined, result, leaf_table, step_table, ties, tie_all, table_of, Listed, TiedAt, here}
use Rattle.model.specs.Candidates.{clear_offends, sealed_offends}
use Rattle.model.specs.Dp.{subjects_of}
use Rattle.model.specs.OneTest.{taken_by, passes_both, out_of, Under}
use Rattle.model.proofs.Chains.{tie_classes}
use Rattle.model.proofs.Meaning.{tied_meaning}
use Rattle.model.proofs.Merged.{tie_length, merged_length}
use Rattle.model.proofs.OneTest.{one_test_set}
use Rattle.model.proofs.OutLaws.{out_each, out_tie, out_untied}
use Rattle.model.proofs.TableLaws.{union_none, table_leaf}
use Rattle.model.proofs.Taken.{table_taken}
use Rattle.tables.specs.declared.Columns.{Columns}
use Rattle.tables.specs.Columns.{with_tied, columns_of}
use Rattle.eligible.specs.declared.walk.Walked.{Walked}
use Rattle.eligible.specs.Asked.{out_among, pass_among, Sees}
use Rattle.eligible.specs.Walk.{out_tied, out_after, taken_columns, Closes, walked_of, right_of, clear_at, Fills, Leaves}
use Rattle.eligible.proofs.Asked.{unions_same, out_night, pass_night}
use Rattle.eligible.proofs.Fills.{fills_none, fills_node, under_leaf, under_step}

-- a step's columns are what they are whatever its operands tie
columns_free : (N : Night) (v : Node) (L R : Table) → columns_of (step_table N v (with_tied (columns_of L) untied) (with_tied (columns_of R) untied)) ≡ columns_of (step_table N v L R)
unfolding step_table least_view joined result
columns_free N v L R = go (uses_right v.kind)
  where
    go : (b : Bool)
        → columns_of (result N v (visible_after v (shown L) (shown R))
        (if b then joined (least_view v.needed (with_tied (columns_of L) untied)) (least_view v.needed (with_tied (columns_of R) untied))
        else least_view v.needed (with_tied (columns_of L) untied)))
        ≡ columns_of (result N v (visible_after v (shown L) (shown R)) (if b then joined (least_view v.needed L) (least_view v.needed R) else least_view v.needed L))
    go true = refl
    go false = refl

-- what it ties is tied into what its operands tie
step_tied : (N : Night) (v : Node) (L R : Table) → (step_table N v L R).tied ≡ tie_all (if uses_right v.kind then merged L.tied R.tied 64 else L.tied) (ties N v)
unfolding step_table least_view joined result
step_tied N v L R = go (uses_right v.kind)
  where
    go : (b : Bool)
        → tie_all (if b then joined (least_view v.needed L) (least_view v.needed R) else least_view v.needed L).tied (ties N v)
        ≡ tie_all (if b then merged L.tied R.tied 64 else L.tied) (ties N v)
    go true = refl
    go false = refl

-- merged or not, tied sets are 64 entries
pub one_or_two : (b : Bool) (t u : List ℕ) → length t ≡ 64 → length (if b then merged t u 64 else t) ≡ 64
one_or_two true t u e = merged_length t u 64 e
one_or_two false t u e = e

-- of a node that was read: a step's operands are lower
module _ (N : Night) (sound : Promised N) (i : ℕ) (l : i < N.header.nodes) {u : Node} (node : u ≡ node_of N i) where
  pub no_leaf : (u.kind ≡ 0 → ⊥) → (node_of N i).kind ≡ 0 → ⊥
  no_leaf s e = s (rw node e)

  pub lower_left : (u.kind ≡ 0 → ⊥) → u.left < i
  lower_left s = rw node ((sound.node i l).left_lower (step_uses_left (node_of N i).kind (no_leaf s)))

  pub lower_right : uses_right u.kind ≡ true → u.right < i
  lower_right b = rw node ((sound.node i l).right_lower (rw node at b))

-- what is said of the right operand: of one that was walked, and where there is none
abbrev RightLeft : Night → ℕ → Node → Columns → List ℕ → List ℕ → List ℕ → List ℕ → List ℕ → List ℕ → Type 0
RightLeft N i u r tied tied' seals seals' sets sets' =
    (r ≡ columns_of (right_of N i)) × (tied' ≡ (if uses_right u.kind then merged tied (right_of N i).tied 64 else tied))
    × Leaves N (λ k. (uses_right u.kind ≡ true) × Under N u.right k) seals seals' sets sets'

module _ (N : Night) (i : ℕ) {u : Node} (node : u ≡ node_of N i) where
  pub right_left : {w : Walked} (tied : List ℕ) {other tied' seals seals' sets sets' : List ℕ} → uses_right u.kind ≡ true → w ≡ walked_of N u.right
      → other ≡ (table_of N u.right).tied → tied' ≡ merged tied other 64 → Leaves N (Under N u.right) seals seals' sets sets'
      → RightLeft N i u w.columns tied tied' seals seals' sets sets'
  right_left {w} tied {other} {tied'} b walked its-ties into F =
      let right : right_of N i ≡ table_of N u.right = rw (node, rw node at b) refl in (
        ap (λ (x : Walked). x.columns) walked ∙ sym (ap columns_of right),
        rw (b, right, ← its-ties) into,
        record { in-clear = reached (clear_at N) F.in-clear; subjects = reached (subjects_of N) F.subjects },
      )
    where
      reached : (f : ℕ → ℕ) {before after : List ℕ} → Fills f (Under N u.right) before after
          → Fills f (λ k. (uses_right u.kind ≡ true) × Under N u.right k) before after
      reached f G = record { long = G.long; kept = G.kept; filled = λ k h. G.filled k h.1 }

  pub right_none : {r : Columns} {tied seals sets : List ℕ} → uses_right u.kind ≡ false → r ≡ columns_of blank → length seals ≡ 64 → length sets ≡ 64
      → RightLeft N i u r tied tied seals seals sets sets
  right_none {r} {tied} {seals} {sets} b none long long' =
      let right : right_of N i ≡ blank = rw (rw node at b) refl in (
        none ∙ sym (ap columns_of right),
        rw b refl,
        record { in-clear = fills_none (clear_at N) _ seals long never; subjects = fills_none (subjects_of N) _ sets long' never },
      )
    where
      never : (k : ℕ) → (uses_right u.kind ≡ true) × Under N u.right k → ⊥
      never k h = clash (sym h.0 ∙ b)

module _ (N : Night) (sound : Promised N) (clear sealed : List ℕ) (sees : Sees N clear sealed) where
  few : N.header.subjects ≤ 16
  few = sound.counts.subjects_most

  -- condition 3 as sets are tied one after the other
  out-tied : (T : ℕ → Type 0) (t ss : List ℕ) → Classes T t → ((m : ℕ) → Listed m ss → m < 2 ^ 64) → (out : ℕ) → out ≡ out_of N t
      → out_tied out N.header.subjects clear sealed t ss ≡ out_of N (tie_all t ss)
  out-tied T t [] C small out e = e
  out-tied T t (S ∷ ss) C small out e =
      let word : S < 2 ^ 64 = small S (inl refl) in
      out-tied (λ m. (m ≡ S) ⊎ T m) (tie t S) ss (tie_classes T t S C word) (λ m h. small m (inr h)) _
      (rw (e, out_night N few clear sealed sees (gathered t S 64)) (sym (out_tie N T t S C word)))

  module _ (i : ℕ) (l : i < N.header.nodes) where
    abbrev v : Node
    v = node_of N i

    -- the tables of its operands
    abbrev L : Table
    L = table_of N v.left

    abbrev R : Table
    R = right_of N i

    module _ (s : v.kind ≡ 0 → ⊥) where
      -- the step's table over them
      pub step_made : table_of N i ≡ step_table N v L R
      unfolding step_table taken_by
      step_made = table_taken N sound i l s ∙ go (uses_right v.kind)
        where
          go : (b : Bool)
              → result N v (visible_after v (shown L) (if b then shown (table_of N v.right) else 0))
              (if b then joined (least_view v.needed L) (least_view v.needed (table_of N v.right)) else least_view v.needed L)
              ≡ result N v (visible_after v (shown L) (shown (if b then table_of N v.right else blank)))
              (if b then joined (least_view v.needed L) (least_view v.needed (if b then table_of N v.right else blank)) else least_view v.needed L)
          go true = refl
          go false = rw (union_none 0) refl

      -- what it has of them
      taken_made : pass_among N.header.subjects clear sealed (taken_columns v (columns_of L) (columns_of R))
          ≡ pass_among N.header.subjects clear sealed (taken_by N i)
      unfolding taken_by passes_both clear_offends sealed_offends least_view joined
      taken_made = go (uses_right v.kind)
        where
          go : (b : Bool)
              → pass_among N.header.subjects clear sealed
              (if b then joined (least_view v.needed (with_tied (columns_of L) untied)) (least_view v.needed (with_tied (columns_of (if b then table_of N v.right else blank)) untied))
              else least_view v.needed (with_tied (columns_of L) untied))
              ≡ pass_among N.header.subjects clear sealed
              (if b then joined (least_view v.needed L) (least_view v.needed (table_of N v.right)) else least_view v.needed L)
          go true = refl
          go false = refl

      -- whom condition 3 puts out
      out_made : out_after N v (out_of N L.tied) N.header.subjects clear sealed (if uses_right v.kind then merged L.tied R.tied 64 else L.tied)
          ≡ out_of N (table_of N i).tied
      out_made = rw (step_made, step_tied N v L R) (go (uses_right v.kind) refl)
        where
          below : v.left < i
          below = (sound.node i l).left_lower (step_uses_left v.kind s)

          go : (b : Bool) → uses_right v.kind ≡ b
              → (if b then unions (λ k. out_among N.header.subjects clear sealed (get_or (tie_all (if b then merged L.tied R.tied 64 else L.tied) (ties N v)) k 0)) 64
              else out_tied (out_of N L.tied) N.header.subjects clear sealed (if b then merged L.tied R.tied 64 else L.tied) (ties N v))
              ≡ out_of N (tie_all (if b then merged L.tied R.tied 64 else L.tied) (ties N v))
          go true q =
              unions_same _ _ 64 (λ k m. out_night N few clear sealed sees (get_or (tie_all (merged L.tied R.tied 64) (ties N v)) k 0))
              ∙ sym (out_each N (tie_all (merged L.tied R.tied 64) (ties N v)))
          go false q =
              out-tied (TiedAt N v.left) L.tied (ties N v) (tied_meaning N sound v.left (omega (arith, below, l)))
              (λ m h. (tied_meaning N sound i l).small m (here h)) (out_of N L.tied) refl

      -- its candidates
      sets_made : minus (pass_among N.header.subjects clear sealed (taken_columns v (columns_of L) (columns_of R))) (out_of N (table_of N i).tied) ≡ subjects_of N i
      unfolding subjects_of
      sets_made = rw (taken_made, pass_night N few clear sealed sees (taken_by N i), ne_eqb v.kind 0 s) (sym (one_test_set N sound i l s))

      -- all that is left at it
      pub closed : {u : Node} {w made : Walked} {r : Columns} {tied tied' seals seals' sets sets' : List ℕ} → u ≡ v → w ≡ walked_of N v.left → r ≡ columns_of R
          → tied ≡ (if uses_right v.kind then merged L.tied R.tied 64 else L.tied)
          → Closes N N.header.subjects i u w r clear sealed tied tied' seals seals' sets sets' made
          → (made ≡ walked_of N i) × (tied' ≡ (table_of N i).tied) × (seals' ≡ set seals i (clear_at N i)) × (sets' ≡ set sets i (subjects_of N i))
      closed {u} {w} {made} {r} {tied} {tied'} {seals} {seals'} {sets} {sets'} node left right merged-so C =
          let columns : made.columns ≡ columns_of (table_of N i) = rw step_made (rw (node, left, right) at C.columns ∙ columns_free N v L R) in
          let out : made.out ≡ out_of N (table_of N i).tied = rw (node, left, merged-so) at C.put_out ∙ out_made in (
            (λ j. record { columns = columns j; out = out j }),
            rw step_made (rw (node, merged-so) at C.tied_after ∙ sym (step_tied N v L R)),
            rw columns at C.in-clear,
            rw (node, left, right, out, sets_made) at C.subjects,
          )

      -- and in the rooms
      pub step_left : {u : Node} {w made : Walked} {r : Columns} {tied tied' seals seals₁ seals₂ seals₃ sets sets₁ sets₂ sets₃ : List ℕ}
          → u ≡ v → w ≡ walked_of N u.left → r ≡ columns_of R → tied ≡ (if uses_right u.kind then merged (table_of N u.left).tied R.tied 64 else (table_of N u.left).tied)
          → Leaves N (Under N u.left) seals seals₁ sets sets₁
          → Leaves N (λ k. (uses_right u.kind ≡ true) × Under N u.right k) seals₁ seals₂ sets₁ sets₂
          → Closes N N.header.subjects i u w r clear sealed tied tied' seals₂ seals₃ sets₂ sets₃ made
          → (made ≡ walked_of N i) × (tied' ≡ (table_of N i).tied) × Leaves N (Under N i) seals seals₃ sets sets₃
      step_left {u} {w} {made} {r} {tied} {tied'} {seals} {seals₁} {seals₂} {seals₃} {sets} {sets₁} {sets₂} {sets₃} node left right merged-so F G C =
          let all = closed node (rw node at left) right (rw node at merged-so) C in
          let F' = rw node at F in
          let G' = rw node at G in
          let low : i < 64 = omega (arith, l, sound.counts.nodes_most) in (
            all.0,
            all.1,
            rw (all.2, all.3)
                (record {
                  in-clear = fills_node (clear_at N) N i (clear_at N i) seals seals₁ seals₂ low refl F'.in-clear G'.in-clear (under_step N i);
                  subjects = fills_node (subjects_of N) N i (subjects_of N i) sets sets₁ sets₂ low refl F'.subjects G'.subjects (under_step N i);
                }),
          )

    -- a leaf: its set in clear, nothing tied, its owner
    pub leaf_left : {u : Node} {columns : Columns} {owner : Relation} {tied seals sets : List ℕ} {x : ℕ}
        → u ≡ v → u.kind ≡ 0 → tied ≡ untied → columns ≡ columns_of (leaf_table u) → owner ≡ relation_of N u.x → x ≡ single 16 owner.owner
        → length seals ≡ 64 → length sets ≡ 64
        → (◌≡◌ {A = Walked} (record { columns = columns; out = 0 }) (walked_of N i)) × (tied ≡ (table_of N i).tied)
        × Leaves N (Under N i) seals (set seals i u.set) sets (set sets i x)
    unfolding leaf_table subjects_of
    leaf_left {u} {columns} {owner} {tied} {seals} {sets} {x} node leaf none made found alone long long' =
        let kind : v.kind ≡ 0 = rw node at leaf in
        let table : table_of N i ≡ leaf_table v = table_leaf N i l kind in
        let low : i < 64 = omega (arith, l, sound.counts.nodes_most) in
        let in-clear : u.set ≡ clear_at N i = ap (λ (n : Node). n.set) node ∙ sym (ap (λ (t : Table). t.clear) table) in
        let owned : x ≡ subjects_of N i = rw (eq-eqb v.kind 0 kind) (rw (found, node) at alone) in
        let columns-so : columns ≡ columns_of (table_of N i) = made ∙ ap (λ (n : Node). columns_of (leaf_table n)) node ∙ sym (ap columns_of table) in
        let nobody : 0 ≡ out_of N (table_of N i).tied = sym (ap (λ (t : Table). out_of N t.tied) table ∙ out_untied N) in
        let only : (k : ℕ) → Under N i k → (k ≡ i) ⊎ (⊥ ⊎ ⊥) = λ k h. inl (under_leaf N i k kind h) in (
          (λ j. record { columns = columns-so j; out = nobody j }),
          none ∙ sym (ap (λ (t : Table). t.tied) table),
          record {
            in-clear = fills_node (clear_at N) N i u.set seals seals seals low in-clear (nothing (clear_at N) seals long) (nothing (clear_at N) seals long) only;
            subjects = fills_node (subjects_of N) N i x sets sets sets low owned (nothing (subjects_of N) sets long') (nothing (subjects_of N) sets long') only;
          },
        )
      where
        nothing : (right : ℕ → ℕ) (room : List ℕ) → length room ≡ 64 → Fills right (λ k. ⊥) room room
        nothing right room long = fills_none right (λ k. ⊥) room long (λ k h. h)

  -- tied sets are 64 entries
  tied_all : (ss t : List ℕ) → length t ≡ 64 → length (tie_all t ss) ≡ 64
  tied_all [] t e = e
  tied_all (s ∷ ss) t e = tied_all ss (tie t s) (tie_length t s)

  tied_node : (i : ℕ) → i < N.header.nodes → ((node_of N i).left < i → length (table_of N (node_of N i).left).tied ≡ 64) → length (table_of N i).tied ≡ 64
  unfolding leaf_table
  tied_node i l left = go (eqb (node_of N i).kind 0) refl
    where
      go : (b : Bool) → eqb (node_of N i).kind 0 ≡ b → length (table_of N i).tied ≡ 64
      go true e = rw (table_leaf N i l (eqb-true _ 0 e)) refl
      go false e =
          let s = eqb-false (node_of N i).kind 0 e in
          rw (step_made i l s, step_tied N (node_of N i) (table_of N (node_of N i).left) (right_of N i))
          (tied_all (ties N (node_of N i)) _ (one_or_two (uses_right (node_of N i).kind) _ _ (left ((sound.node i l).left_lower (step_uses_left (node_of N i).kind s)))))

  tied_below : (n i : ℕ) → i < n → i < N.header.nodes → length (table_of N i).tied ≡ 64
  tied_below zero i m l = absurd (omega arith)
  tied_below (suc n) i m l = tied_node i l (λ lower. tied_below n (node_of N i).left (omega arith) (omega arith))

  pub tied_long : (i : ℕ) → i < N.header.nodes → length (table_of N i).tied ≡ 64
  tied_long i l = tied_below (suc i) i (omega arith) l
