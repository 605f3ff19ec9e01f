-- Small rows of trials, by computation.
use mathlib.Core.Path.{refl}
use Rattle.laws.specs.Trials.{verdict, rows, SmallRows}

pub small_rows : SmallRows
unfolding verdict rows
small_rows = record { first_refuses = refl; none_refuses = refl; in-order = refl }
