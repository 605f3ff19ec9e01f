-- Why a subject is out: the row of reasons goes table by table; the first to fail is named with the set that goes with it.
use Prim.Native.Nat.{ℕ, suc, ◌<◌, ◌≤◌}
use mathlib.Core.Path.{◌≡◌, refl, sym, ap, ◌∙◌}
use mathlib.Core.Bool.{Bool, true, false, not}
use mathlib.Core.List.{List, [], ◌++◌}
use mathlib.Core.Logic.{inl, inr}
use native.Mathlib.Omega.{arith}
use lib.Dec.{eqb}
use lib.ListN.{get_or}
use borrow.Author.Tests.{eqb-true, eqb-false, eq-eqb, ne_eqb, lt-ltb}
use Rattle.std.specs.Prelude.{Some, None, if◌then◌else◌}
use Rattle.laws.specs.First.{first, somewhere}
use Rattle.laws.specs.Trials.{Trial, Says, answers, refuses, verdict}
use Rattle.laws.proofs.Cases.{clash}
use Rattle.laws.proofs.First.{first_found, none_before, nowhere, somewhere_false, somewhere_true}
use Rattle.night.specs.Night.{Night, node_of}
use Rattle.sets.specs.Sets.{union, minus, lowest}
use Rattle.night.specs.Kinds.{uses_right, attribute}
use Rattle.model.specs.declared.Table.{Table}
use Rattle.model.specs.declared.Out.{Out}
use Rattle.model.specs.Candidates.{clear_offends, sealed_offends, tied_offends, May}
use Rattle.model.specs.OneTest.{splits}
use Rattle.model.specs.Reasons.{of_left, of_right, of_result, looked_at, conditions, reasons, offending, Standing, out, named, standing_by, standing, Holds, Looked, FirstOut, CandidateExactly}
use Rattle.model.proofs.Lowest.{not_below}
use Rattle.model.proofs.Sees.{clear_lies, sealed_lies, tied_lies}

-- all three conditions of a table hold
all_hold : {t : Table} {P E : ℕ} → May t P E → (c : ℕ) → Holds c t P E
all_hold {t} {P} {E} m c = (λ e. (clear_lies t P E).0 m.first, λ e. (sealed_lies t P E).0 m.second, λ e. (tied_lies t P E).0 m.third)

-- a candidate is not out
pub never_out : {k c set : ℕ} → ◌≡◌ {A = Standing} None (out k c set) → ⊥
never_out e = cc

-- what is out alike is so by the same table, condition and set
pub same_out : {k c set k' c' set' : ℕ} → out k c set ≡ out k' c' set' → (k ≡ k') × (c ≡ c') × (set ≡ set')
same_out {k} {c} {set} {k'} {c'} {set'} e =
    let same : ◌≡◌ {A = Out} (record { table = k; condition = c; set = set }) (record { table = k'; condition = c'; set = set' }) = cc in
    (ap (λ (o : Out). o.table) same, ap (λ (o : Out). o.condition) same, ap (λ (o : Out). o.set) same)

-- the conditions of table k, and then the rest of a row: one of them stops it, or all hold and the rest is tried
pub data Tried (k : ℕ) (t : Table) (P E : ℕ) (rest v : Says (Unit {0})) : Type 0 where
  stops : (c : ℕ) → ((d : ℕ) → d < c → Holds d t P E) → (Holds c t P E → ⊥) → v ≡ refuses k c → Tried k t P E rest v
  passes : May t P E → v ≡ rest → Tried k t P E rest v

pub tried : (k : ℕ) (t : Table) (P E : ℕ) (ys : List Trial) → Tried k t P E (verdict ys tt) (verdict (conditions k t P E ++ ys) tt)
unfolding verdict conditions
tried k t P E ys = go (eqb (clear_offends t P E) 0) (eqb (sealed_offends t P E) 0) (somewhere (tied_offends t P E) 64) refl refl refl
  where
    row : Bool → Bool → Bool → Says (Unit {0})
    row a b c = if not a then refuses k 1 else if not b then refuses k 2 else if c then refuses k 3 else verdict ys tt

    go : (a b c : Bool) → eqb (clear_offends t P E) 0 ≡ a → eqb (sealed_offends t P E) 0 ≡ b → somewhere (tied_offends t P E) 64 ≡ c
        → Tried k t P E (verdict ys tt) (row a b c)
    go false b c p q r = stops 1 (λ d l. (λ e. absurd (omega arith), λ e. absurd (omega arith), λ e. absurd (omega arith))) (λ h. eqb-false (clear_offends t P E) 0 p ((clear_lies t P E).1 (h.0 refl))) refl
    go true false c p q r =
        stops 2 (λ d l. (λ e. (clear_lies t P E).0 (eqb-true (clear_offends t P E) 0 p), λ e. absurd (omega arith), λ e. absurd (omega arith)))
        (λ h. eqb-false (sealed_offends t P E) 0 q ((sealed_lies t P E).1 (h.1 refl))) refl
    go true true true p q r =
        let w = somewhere_true (tied_offends t P E) 64 r in
        stops 3 (λ d l. (
          λ e. (clear_lies t P E).0 (eqb-true (clear_offends t P E) 0 p),
          λ e. (sealed_lies t P E).0 (eqb-true (sealed_offends t P E) 0 q),
          λ e. absurd (omega arith),
        ))
        (λ h. clash (sym w.2 ∙ (tied_lies t P E).1 (h.2 refl) w.0 w.1)) refl
    go true true false p q r =
        passes (record { first = eqb-true (clear_offends t P E) 0 p; second = eqb-true (sealed_offends t P E) 0 q; third = somewhere_false (tied_offends t P E) 64 r }) refl

-- the whole row of a step: none of the reasons holds, or one of them is the first
module _ (N : Night) (i P E : ℕ) where
  abbrev L : Table
  L = looked_at N i of_left

  abbrev M : Table
  M = looked_at N i of_right

  abbrev R : Table
  R = looked_at N i of_result

  pub data Stands (v : Says (Unit {0})) : Type 0 where
    in_all : May L P E → (uses_right (node_of N i).kind ≡ true → May M P E) → May R P E → v ≡ answers tt → Stands v
    out_first : (k c : ℕ) → FirstOut N i P E k c → v ≡ refuses k c → Stands v

  -- all that is looked at before table k holds, where the tables before it passed
  before : (k : ℕ) → (of_left < k → May L P E) → (of_right < k → uses_right (node_of N i).kind ≡ true → May M P E) → (of_result < k → May R P E)
      → (j d : ℕ) → Looked N i j → j < k → Holds d (looked_at N i j) P E
  before k left right result j d (inl e) l = rw e (all_hold (left (omega arith)) d)
  before k left right result j d (inr (inl (e, u))) l = rw e (all_hold (right (omega arith) u) d)
  before k left right result j d (inr (inr e)) l = rw e (all_hold (result (omega arith)) d)

  -- so where all passed, every condition holds
  none_fails : May L P E → (uses_right (node_of N i).kind ≡ true → May M P E) → May R P E → (k c : ℕ) → Looked N i k → Holds c (looked_at N i k) P E
  none_fails l m r k c looked = before (suc k) (λ b. l) (λ b. m) (λ b. r) k c looked (omega arith)

  -- the result, where the operands' least views passed
  by_result : {v : Says (Unit {0})} → May L P E → (uses_right (node_of N i).kind ≡ true → May M P E) → Tried of_result R P E (answers tt) v → Stands v
  by_result left right (passes m q) = in_all left right m q
  by_result left right (stops c lower fails q) =
      out_first of_result c (record { looked = inr (inr refl); fails = fails; tables_before = before 3 (λ l. left) (λ l. right) (λ l. absurd (omega arith)); conditions_before = lower }) q

  by_right : May L P E → (b : Bool) → uses_right (node_of N i).kind ≡ b
      → Stands (verdict ((if b then conditions of_right M P E else []) ++ conditions of_result R P E) tt)
  unfolding verdict conditions
  by_right left false e = by_result left (λ u. absurd (clash (sym u ∙ e))) (tried of_result R P E [])
  by_right left true e = go (tried of_right M P E (conditions of_result R P E))
    where
      go : {v : Says (Unit {0})} → Tried of_right M P E (verdict (conditions of_result R P E) tt) v → Stands v
      go (passes m q) = rw q (by_result left (λ u. m) (tried of_result R P E []))
      go (stops c lower fails q) =
          out_first of_right c (record { looked = inr (inl (refl, e)); fails = fails; tables_before = before 2 (λ l. left) (λ l. absurd (omega arith)) (λ l. absurd (omega arith)); conditions_before = lower }) q

  pub stands : Stands (verdict (reasons N i P E) tt)
  unfolding reasons
  stands = go (tried of_left L P E _)
    where
      go : {v : Says (Unit {0})}
          → Tried of_left L P E (verdict ((if uses_right (node_of N i).kind then conditions of_right M P E else []) ++ conditions of_result R P E) tt) v → Stands v
      go (passes m q) = rw q (by_right m (uses_right (node_of N i).kind) refl)
      go (stops c lower fails q) =
          out_first of_left c (record { looked = inl refl; fails = fails; tables_before = before 1 (λ l. absurd (omega arith)) (λ l. absurd (omega arith)) (λ l. absurd (omega arith)); conditions_before = lower }) q

  -- the same of the standing
  pub stands_out : (k c set : ℕ) → standing N i P E ≡ out k c set → FirstOut N i P E k c × (set ≡ offending (looked_at N i k) P E c)
  unfolding standing
  stands_out k c set e = go stands
    where
      go : Stands (verdict (reasons N i P E) tt) → FirstOut N i P E k c × (set ≡ offending (looked_at N i k) P E c)
      go (in_all l m r q) = absurd (never_out (sym (ap (named (looked_at N i) P E) q) ∙ e))
      go (out_first k' c' w q) =
          let told : out k' c' (offending (looked_at N i k') P E c') ≡ out k c set = sym (ap (named (looked_at N i) P E) q) ∙ e in
          let same = same_out told in
          rw (← same.0, ← same.1) (w, sym same.2)

  -- one reason is not before another that is the first
  not_before : (k c k' c' : ℕ) → FirstOut N i P E k c → FirstOut N i P E k' c' → (k' ≤ k) × (k ≡ k' → c' ≤ c)
  not_before k c k' c' w w' = (
    not_below (λ l. w.fails (w'.tables_before k c w.looked l)),
    λ same. not_below (λ l. w.fails (rw same (w'.conditions_before c l))),
  )

  pub first_once : (k c k' c' : ℕ) → FirstOut N i P E k c → FirstOut N i P E k' c' → (k ≡ k') × (c ≡ c')
  first_once k c k' c' w w' =
      let one = not_before k c k' c' w w' in
      let other = not_before k' c' k c w' w in
      let table : k ≡ k' = omega (arith, one.0, other.0) in
      (table, omega (arith, one.1 table, other.1 (sym table)))

  pub first_named : (k c : ℕ) → FirstOut N i P E k c → standing N i P E ≡ out k c (offending (looked_at N i k) P E c)
  unfolding standing
  first_named k c w = go stands
    where
      go : Stands (verdict (reasons N i P E) tt) → named (looked_at N i) P E (verdict (reasons N i P E) tt) ≡ out k c (offending (looked_at N i k) P E c)
      go (in_all l m r q) = absurd (w.fails (none_fails l m r k c w.looked))
      go (out_first k' c' w' q) =
          let same = first_once k c k' c' w w' in
          rw (same.0, same.1) (ap (named (looked_at N i) P E) q)

  -- a subject is not out exactly when it is a candidate
  stands_in : standing N i P E ≡ None → May L P E × (uses_right (node_of N i).kind ≡ true → May M P E) × May R P E
  unfolding standing
  stands_in e = go stands
    where
      go : Stands (verdict (reasons N i P E) tt) → May L P E × (uses_right (node_of N i).kind ≡ true → May M P E) × May R P E
      go (in_all l m r q) = (l, m, r)
      go (out_first k c w q) = absurd (never_out (sym e ∙ ap (named (looked_at N i) P E) q))

  in_stands : May L P E → (uses_right (node_of N i).kind ≡ true → May M P E) → May R P E → standing N i P E ≡ None
  unfolding standing
  in_stands l m r = go stands
    where
      go : Stands (verdict (reasons N i P E) tt) → named (looked_at N i) P E (verdict (reasons N i P E) tt) ≡ None
      go (in_all l' m' r' q) = ap (named (looked_at N i) P E) q
      go (out_first k c w q) = absurd (w.fails (none_fails l m r k c w.looked))

pub candidate_standing : CandidateExactly
unfolding looked_at
candidate_standing N i P E step = (
  λ e.
      let w = stands_in N i P E e in
      record { step = step; left = w.0; right = w.1; result = w.2 },
  λ c. in_stands N i P E c.left c.right c.result,
)

-- one table: what it takes for each condition to be the first to fail, in sets
module _ (k : ℕ) (t : Table) (P E : ℕ) where
  abbrev first_set : ℕ
  first_set = minus (union t.clear t.tested) P

  abbrev second_set : ℕ
  second_set = minus (union t.sealed t.hidden) (union P E)

  pub by_first : (first_set ≡ 0 → ⊥) → standing_by k t P E ≡ out k 1 (attribute (lowest 64 first_set))
  unfolding standing_by conditions verdict offending clear_offends
  by_first some = rw (ne_eqb first_set 0 some) refl

  pub by_second : first_set ≡ 0 → (second_set ≡ 0 → ⊥) → standing_by k t P E ≡ out k 2 (attribute (lowest 64 second_set))
  unfolding standing_by conditions verdict offending clear_offends sealed_offends
  by_second none some = rw (eq-eqb first_set 0 none, ne_eqb second_set 0 some) refl

  -- j is the lowest whose tied set offends
  pub by_third : (set : ℕ) → first_set ≡ 0 → second_set ≡ 0
      → (j : ℕ) × (j < 64) × (set ≡ get_or t.tied j 0) × (splits set P E ≡ true) × ((i : ℕ) → i < j → splits (get_or t.tied i 0) P E ≡ false)
      → standing_by k t P E ≡ out k 3 set
  unfolding standing_by conditions verdict offending somewhere clear_offends sealed_offends tied_offends splits
  by_third set none nor w =
      let offends = rw w.2 at w.3 in
      let its : first (tied_offends t P E) 64 ≡ w.0 = first_found _ w.0 64 (none_before _ w.0 w.4) offends w.1 in
      rw w.2 (rw (eq-eqb first_set 0 none, eq-eqb second_set 0 nor, its, lt-ltb w.0 64 w.1, its) refl)

  pub by_none : first_set ≡ 0 → second_set ≡ 0 → ((j : ℕ) → j < 64 → splits (get_or t.tied j 0) P E ≡ false) → standing_by k t P E ≡ None
  unfolding standing_by conditions verdict clear_offends sealed_offends tied_offends splits
  by_none none nor whole = rw (eq-eqb first_set 0 none, eq-eqb second_set 0 nor, nowhere (tied_offends t P E) 64 whole) refl

-- the step's standing is that by its left operand's least view, or else by the right one's, or else by the result
abbrev pub or_else : Standing → Standing → Standing
or_else None later = later
or_else (Some o) later = Some o

or_candidate : (s : Standing) → or_else s None ≡ s
or_candidate None = refl
or_candidate (Some o) = refl

row_named : (f : ℕ → Table) (k P E : ℕ) (ys : List Trial)
    → named f P E (verdict (conditions k (f k) P E ++ ys) tt) ≡ or_else (standing_by k (f k) P E) (named f P E (verdict ys tt))
unfolding verdict conditions standing_by
row_named f k P E ys = go (eqb (clear_offends (f k) P E) 0) (eqb (sealed_offends (f k) P E) 0) (somewhere (tied_offends (f k) P E) 64)
  where
    row : Bool → Bool → Bool → Says (Unit {0}) → Says (Unit {0})
    row a b c rest = if not a then refuses k 1 else if not b then refuses k 2 else if c then refuses k 3 else rest

    go : (a b c : Bool) → named f P E (row a b c (verdict ys tt)) ≡ or_else (named (λ _. f k) P E (row a b c (answers tt))) (named f P E (verdict ys tt))
    go false b c = refl
    go true false c = refl
    go true true true = refl
    go true true false = refl

pub table_by_table : (N : Night) (i P E : ℕ)
    → standing N i P E
    ≡ or_else (standing_by of_left (looked_at N i of_left) P E)
    (or_else (if uses_right (node_of N i).kind then standing_by of_right (looked_at N i of_right) P E else None) (standing_by of_result (looked_at N i of_result) P E))
unfolding verdict conditions standing reasons
table_by_table N i P E =
    row_named (looked_at N i) of_left P E ((if uses_right (node_of N i).kind then conditions of_right (looked_at N i of_right) P E else []) ++ conditions of_result (looked_at N i of_result) P E)
    ∙ ap (or_else (standing_by of_left (looked_at N i of_left) P E)) (go (uses_right (node_of N i).kind))
  where
    result : named (looked_at N i) P E (verdict (conditions of_result (looked_at N i of_result) P E) tt) ≡ standing_by of_result (looked_at N i of_result) P E
    result = row_named (looked_at N i) of_result P E [] ∙ or_candidate (standing_by of_result (looked_at N i of_result) P E)

    go : (b : Bool) → named (looked_at N i) P E (verdict ((if b then conditions of_right (looked_at N i of_right) P E else []) ++ conditions of_result (looked_at N i of_result) P E) tt)
        ≡ or_else (if b then standing_by of_right (looked_at N i of_right) P E else None) (standing_by of_result (looked_at N i of_result) P E)
    go true = row_named (looked_at N i) of_right P E (conditions of_result (looked_at N i of_result) P E) ∙ ap (or_else (standing_by of_right (looked_at N i of_right) P E)) result
    go false = result
