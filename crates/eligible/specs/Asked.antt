-- What is asked of the first s subjects, by lists of what each sees in clear and sealed.
use Rattle.std.specs.Prelude.{ℕ, ◌≡◌, List, get_or, if◌then◌else◌}
use Rattle.laws.specs.Upwards.{each}
use Rattle.sets.specs.Sets.{single, unions}
use Rattle.night.specs.Night.{Night}
use Rattle.night.specs.Views.{clear_of, sealed_of}
use Rattle.model.specs.declared.Table.{Table}
use Rattle.model.specs.OneTest.{splits, passes_both}

-- those whom condition 3 on one set puts out
abbrev pub out_among : ℕ → List ℕ → List ℕ → ℕ → ℕ
out_among s clear sealed S = unions (λ p. if splits S (get_or clear p 0) (get_or sealed p 0) then single 16 p else 0) s

-- those who pass 1 and 2 of a table
abbrev pub pass_among : ℕ → List ℕ → List ℕ → Table → ℕ
pass_among s clear sealed t = unions (λ p. if passes_both t (get_or clear p 0) (get_or sealed p 0) then single 16 p else 0) s

-- the lists are P and E of the night's subjects
pub record Sees (N : Night) (clear sealed : List ℕ) : Type 0 where
  pub in-clear : clear ≡ each 16 (clear_of N)
  pub in_sealed : sealed ≡ each 16 (sealed_of N)
