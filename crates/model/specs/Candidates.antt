-- Who may have a table, and who may run a step: over P and E, the attributes that a subject sees in clear and sealed.
use Rattle.std.specs.Prelude.{ℕ, ◌<◌, ◌≡◌, Bool, true, false, not, eqb, get_or, if◌then◌else◌}
use Rattle.laws.specs.First.{somewhere}
use Rattle.sets.specs.Sets.{union, minus, within, single, unions}
use Rattle.night.specs.Night.{Night, node_of}
use Rattle.night.specs.Kinds.{uses_right}
use Rattle.night.specs.Views.{clear_of, sealed_of}
use Rattle.model.specs.declared.Table.{Table}
use Rattle.model.specs.Tables.{least_view, table_of}

-- 1: what is visible or implicit in clear, and not in P, offends
unfoldable pub clear_offends : Table → ℕ → ℕ → ℕ
clear_offends t P E = minus (union t.clear t.tested) P

-- 2: what is visible or implicit sealed, and neither in P nor in E, offends
unfoldable pub sealed_offends : Table → ℕ → ℕ → ℕ
sealed_offends t P E = minus (union t.sealed t.hidden) (union P E)

-- 3: a tied set that lies neither wholly in P nor wholly in E offends
unfoldable pub tied_offends : Table → ℕ → ℕ → ℕ → Bool
tied_offends t P E k = if within (get_or t.tied k 0) P then false else if within (get_or t.tied k 0) E then false else true

-- the three conditions: nothing offends
abbrev pub ClearHolds : Table → ℕ → ℕ → Type 0
ClearHolds t P E = clear_offends t P E ≡ 0

abbrev pub SealedHolds : Table → ℕ → ℕ → Type 0
SealedHolds t P E = sealed_offends t P E ≡ 0

abbrev pub TiedHolds : Table → ℕ → ℕ → Type 0
TiedHolds t P E = (k : ℕ) → k < 64 → tied_offends t P E k ≡ false

-- a subject may have a table when all three hold
pub record May (t : Table) (P E : ℕ) : Type 0 where
  pub first : ClearHolds t P E
  pub second : SealedHolds t P E
  pub third : TiedHolds t P E

-- a subject is a candidate of a step when it may have each operand's least view and the step's result over them; a leaf has none
pub record Candidate (N : Night) (i P E : ℕ) : Type 0 where
  pub step : (node_of N i).kind ≡ 0 → ⊥
  pub left : May (least_view (node_of N i).needed (table_of N (node_of N i).left)) P E
  pub right : uses_right (node_of N i).kind ≡ true → May (least_view (node_of N i).needed (table_of N (node_of N i).right)) P E
  pub result : May (table_of N i) P E

-- the tests of these, and the candidates of node i as a set of subjects
unfoldable pub may : Table → ℕ → ℕ → Bool
may t P E =
    if eqb (clear_offends t P E) 0 then if eqb (sealed_offends t P E) 0 then not (somewhere (tied_offends t P E) 64) else false else false

unfoldable pub may_take : Night → ℕ → ℕ → ℕ → ℕ → Bool
may_take N i c P E = may (least_view (node_of N i).needed (table_of N c)) P E

unfoldable pub is_candidate : Night → ℕ → ℕ → ℕ → Bool
is_candidate N i P E =
    if eqb (node_of N i).kind 0 then false else
    if may_take N i (node_of N i).left P E
    then if (if uses_right (node_of N i).kind then may_take N i (node_of N i).right P E else true) then may (table_of N i) P E else false
    else false

unfoldable pub candidate_set : Night → ℕ → ℕ
candidate_set N i = unions (λ p. if is_candidate N i (clear_of N p) (sealed_of N p) then single 16 p else 0) N.header.subjects
