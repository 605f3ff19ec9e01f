-- The facts that document 01 marks as proved, in one table.
use Rattle.std.specs.Prelude.{ℕ, ◌<◌, ◌≡◌, Bool, true, false, not, List, [], ◌∷◌, eqb, get_or}
use Rattle.laws.specs.First.{somewhere}
use Rattle.laws.specs.Trials.{answers}
use Rattle.sets.specs.Sets.{member, single}
use Rattle.night.specs.declared.Node.{Node}
use Rattle.night.specs.Night.{Night}
use Rattle.night.specs.Views.{any_subject, view_of, clear_of, sealed_of}
use Rattle.format.specs.Layout.{night_of}
use Rattle.model.specs.declared.Table.{Table}
use Rattle.model.specs.Ties.{untied, tie}
use Rattle.model.specs.Tables.{step_table, FunctionTies}
use Rattle.model.specs.Candidates.{clear_offends, sealed_offends, tied_offends}
use Rattle.model.specs.Choice.{Choice, Least, total, steps}
use Rattle.planning.specs.Answers.{candidates_of}
use Rattle.demands.specs.Sample.{sample}
use Rattle.demands.specs.SampleNight.{sample_night}

-- the profile of the sample: clear P, sealed B S C, tied {S, C}, where S B D T C P are 0 to 5
abbrev pub profile : Table
profile = record { clear = 32; sealed = 19; tested = 0; hidden = 0; tied = tie untied 17 }

-- which of the three conditions hold for a subject of the sample night
abbrev pub conditions : ℕ → List Bool
conditions p =
    eqb (clear_offends profile (clear_of sample_night p) (sealed_of sample_night p)) 0
    ∷ eqb (sealed_offends profile (clear_of sample_night p) (sealed_of sample_night p)) 0
    ∷ not (somewhere (tied_offends profile (clear_of sample_night p) (sealed_of sample_night p)) 64)
    ∷ []

-- subjects H I U X Y Z are 0 to 5
pub record Marked : Type 0 where
  -- the values of the file's bytes
  pub decoded : night_of sample ≡ sample_night
  -- Y may have the profile; of H, U, I just the first, the second, the third condition fails
  pub y_may : conditions 4 ≡ true ∷ true ∷ true ∷ []
  pub h_fails_first : conditions 0 ≡ false ∷ true ∷ true ∷ []
  pub u_fails_second : conditions 2 ≡ true ∷ false ∷ true ∷ []
  pub i_fails_third : conditions 1 ≡ true ∷ true ∷ false ∷ []
  -- I sees D sealed though any has it clear
  pub i_sees_d_sealed : member (sealed_of sample_night 1) 2 ≡ true
  pub i_sees_d_not_clear : member (clear_of sample_night 1) 2 ≡ false
  pub any_has_d_clear : member (view_of sample_night any_subject 0).clear 2 ≡ true
  -- candidates: node 1 all six; 3 and 4 all but I; 5 U and Y
  pub node_1 : candidates_of sample 1 ≡ answers 63
  pub node_3 : candidates_of sample 3 ≡ answers 61
  pub node_4 : candidates_of sample 4 ≡ answers 61
  pub node_5 : candidates_of sample 5 ≡ answers 20
  -- steps 76; there is a cheapest choice, and its total is 14
  pub steps_all : steps (night_of sample) ≡ 76
  pub least_there : (c : Choice) × Least (night_of sample) c
  pub total_least : (c : Choice) → Least (night_of sample) c → total (night_of sample) c ≡ 14
  -- a user function over {a} ties {a}, whatever its operand shows and ties; where a was untied, its tied set is {a} alone
  pub function_ties : FunctionTies
  pub function_ties_alone :
      (N : Night) (v : Node) (a : ℕ) (l r : Table) → a < 64 → v.kind ≡ 8 → v.set ≡ single 64 a → get_or l.tied a 0 ≡ 0
      → get_or (step_table N v l r).tied a 0 ≡ single 64 a
