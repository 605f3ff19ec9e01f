-- An attribute leaves a profile, by computation.
use mathlib.Core.Path.{refl}
use Rattle.laws.specs.Choose.{any_of}
use Rattle.sets.specs.Sets.{bit, member, union, meet, minus}
use Rattle.night.specs.Kinds.{uses_right, read_together, visible_after}
use Rattle.model.specs.Tables.{least_view, tests, ties, result, step_table}
use Rattle.demands.specs.Leaves.{Leaves}

pub leaves : Leaves
unfolding any_of bit member union meet minus uses_right read_together visible_after least_view tests ties result step_table
leaves = record { there = refl; not_visible = λ N. refl; not_implicit = λ N. refl; not_tied = λ N. refl }
