-- Why a subject is out of a step: the first condition to fail, over the tables that the step's subject takes and makes.
use Rattle.std.specs.Prelude.{ℕ, ◌<◌, ◌≤◌, ◌≡◌, true, not, List, [], ◌∷◌, ◌++◌, ◌⊎◌, ◌↔◌, Option, Some, None, eqb, get_or, if◌then◌else◌}
use Rattle.laws.specs.First.{first, somewhere}
use Rattle.laws.specs.Trials.{Trial, trial, Says, answers, refuses, verdict}
use Rattle.sets.specs.Sets.{In, Within, lowest}
use Rattle.night.specs.Night.{Night, node_of}
use Rattle.night.specs.Kinds.{uses_right, attribute}
use Rattle.night.specs.Promised.{Promised}
use Rattle.model.specs.declared.Table.{Table}
use Rattle.model.specs.declared.Out.{Out}
use Rattle.model.specs.Tables.{least_view, table_of}
use Rattle.model.specs.Candidates.{clear_offends, sealed_offends, tied_offends, Candidate}

-- the tables that are looked at, in this order: the left operand's least view, the right one's, the result
abbrev pub of_left : ℕ
of_left = 1

abbrev pub of_right : ℕ
of_right = 2

abbrev pub of_result : ℕ
of_result = 3

-- each of them for step i
unfoldable pub looked_at : Night → ℕ → ℕ → Table
looked_at N i k =
    if eqb k of_left then least_view (node_of N i).needed (table_of N (node_of N i).left) else
    if eqb k of_right then least_view (node_of N i).needed (table_of N (node_of N i).right) else
    table_of N i

-- conditions 1, 2, 3 on a table as trials: a trial's number is that of the table, its place is the condition
unfoldable pub conditions : ℕ → Table → ℕ → ℕ → List Trial
conditions k t P E =
    trial (not (eqb (clear_offends t P E) 0)) k 1
    ∷ trial (not (eqb (sealed_offends t P E) 0)) k 2
    ∷ trial (somewhere (tied_offends t P E) 64) k 3
    ∷ []

-- the reasons of step i for a view, in order; a step with one operand has no right one
unfoldable pub reasons : Night → ℕ → ℕ → ℕ → List Trial
reasons N i P E =
    conditions of_left (looked_at N i of_left) P E
    ++ ((if uses_right (node_of N i).kind then conditions of_right (looked_at N i of_right) P E else [])
    ++ conditions of_result (looked_at N i of_result) P E)

-- the set that a reason names: for 1 and 2 the lowest offending attribute, for 3 the whole tied set of the lowest attribute whose tied set offends
unfoldable pub offending : Table → ℕ → ℕ → ℕ → ℕ
offending t P E c =
    if eqb c 1 then attribute (lowest 64 (clear_offends t P E)) else
    if eqb c 2 then attribute (lowest 64 (sealed_offends t P E)) else
    get_or t.tied (first (tied_offends t P E) 64) 0

-- how a subject stands: it is a candidate, or out
abbrev pub Standing : Type 0
Standing = Option Out

-- out by condition c of table k, with the set that offends
abbrev pub out : ℕ → ℕ → ℕ → Standing
out k c set = Some (record { table = k; condition = c; set = set })

-- the first to fail puts the subject out, and is named by table, condition and set; where none fails the subject is a candidate
abbrev pub named : (ℕ → Table) → ℕ → ℕ → Says (Unit {0}) → Standing
named t P E (answers a) = None
named t P E (refuses k c) = out k c (offending (t k) P E c)

-- of one table, with its number; the code asks table by table, and that `standing` is the first of these to be out is the law `table_by_table`
unfoldable pub standing_by : ℕ → Table → ℕ → ℕ → Standing
standing_by k t P E = named (λ _. t) P E (verdict (conditions k t P E) tt)

-- of step i
unfoldable pub standing : Night → ℕ → ℕ → ℕ → Standing
standing N i P E = named (looked_at N i) P E (verdict (reasons N i P E) tt)

-- the conditions in document 01's words: visible-clear and implicit-clear lie in P; visible-sealed and implicit-sealed lie in P or E; each tied set lies
-- wholly in P or wholly in E
abbrev pub ClearLies : Table → ℕ → ℕ → Type 0
ClearLies t P E = (j : ℕ) → In j t.clear ⊎ In j t.tested → In j P

abbrev pub SealedLies : Table → ℕ → ℕ → Type 0
SealedLies t P E = (j : ℕ) → In j t.sealed ⊎ In j t.hidden → In j P ⊎ In j E

abbrev pub TiedLies : Table → ℕ → ℕ → Type 0
TiedLies t P E = (j : ℕ) → j < 64 → Within (get_or t.tied j 0) P ⊎ Within (get_or t.tied j 0) E

-- condition c holds of a table
abbrev pub Holds : ℕ → Table → ℕ → ℕ → Type 0
Holds c t P E = (c ≡ 1 → ClearLies t P E) × (c ≡ 2 → SealedLies t P E) × (c ≡ 3 → TiedLies t P E)

-- table k is looked at: the right one only where there is one
abbrev pub Looked : Night → ℕ → ℕ → Type 0
Looked N i k = (k ≡ of_left) ⊎ (((k ≡ of_right) × (uses_right (node_of N i).kind ≡ true)) ⊎ (k ≡ of_result))

-- condition c of table k is the first to fail: every condition of the tables before it holds, and every lower one of this table
pub record FirstOut (N : Night) (i P E k c : ℕ) : Type 0 where
  pub looked : Looked N i k
  pub fails : Holds c (looked_at N i k) P E → ⊥
  pub tables_before : (j d : ℕ) → Looked N i j → j < k → Holds d (looked_at N i j) P E
  pub conditions_before : (d : ℕ) → d < c → Holds d (looked_at N i k) P E

-- the set is the lowest attribute that offends, alone
pub record LowestAlone (Offends : ℕ → Type 0) (set : ℕ) : Type 0 where
  pub lowest : ℕ
  pub offends : Offends lowest
  pub none_lower : (j : ℕ) → Offends j → lowest ≤ j
  pub alone : (j : ℕ) → In j set ↔ (j ≡ lowest)

-- a set lies neither wholly in P nor wholly in E
abbrev pub Split : ℕ → ℕ → ℕ → Type 0
Split set P E = (Within set P → ⊥) × (Within set E → ⊥)

-- the set is a whole tied set of the table and fails, and no tied set that fails has a lower first attribute
pub record FirstTied (t : Table) (P E set : ℕ) : Type 0 where
  pub first : ℕ
  pub its_first : In first set
  pub whole : set ≡ get_or t.tied first 0
  pub fails : Split set P E
  pub none_lower : (j k : ℕ) → Split (get_or t.tied j 0) P E → In k (get_or t.tied j 0) → first ≤ k

-- the set that goes with condition c, in the ticket's words, over what offends by document 01's conditions
abbrev pub Named : Table → ℕ → ℕ → ℕ → ℕ → Type 0
Named t P E c set =
    (c ≡ 1 → LowestAlone (λ j. (In j t.clear ⊎ In j t.tested) × (In j P → ⊥)) set)
    × (c ≡ 2 → LowestAlone (λ j. (In j t.sealed ⊎ In j t.hidden) × (In j P → ⊥) × (In j E → ⊥)) set)
    × (c ≡ 3 → FirstTied t P E set)

-- a subject is out by just the first condition that fails, and by the set that goes with it
abbrev pub OutExactly : Type 0
OutExactly =
    (N : Night) → Promised N → (i : ℕ) → i < N.header.nodes → ((node_of N i).kind ≡ 0 → ⊥) → (P E k c set : ℕ)
    → (standing N i P E ≡ out k c set) ↔ (FirstOut N i P E k c × Named (looked_at N i k) P E c set)

-- a subject is not out exactly when it is a candidate
abbrev pub CandidateExactly : Type 0
CandidateExactly = (N : Night) (i P E : ℕ) → ((node_of N i).kind ≡ 0 → ⊥) → (standing N i P E ≡ None) ↔ Candidate N i P E

-- of the result only condition 3 can be the first to fail: what is clear or sealed there was so in an operand's least view
abbrev pub ResultTied : Type 0
ResultTied =
    (N : Night) → Promised N → (i : ℕ) → i < N.header.nodes → ((node_of N i).kind ≡ 0 → ⊥) → (P E c : ℕ)
    → FirstOut N i P E of_result c → c ≡ 3
