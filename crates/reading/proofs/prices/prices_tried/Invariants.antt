-- Each turn is one trial of the row.
use Prim.Native.Nat.{◌+◌, ◌*◌}
use mathlib.Core.Path.{◌≡◌}
use mathlib.Core.List.{[], ◌∷◌}
use lib.Dec.{ltb}
use Rattle.layout.specs.Held.{night_held}
use Rattle.laws.specs.Trials.{trial, answers, verdict, rows}
use Rattle.trials.specs.Trials.{price_in, most_in}
use Rattle.reading.proofs.prices.prices_tried.Given as goal

abbrev pub invariant-loop-p : goal.invariant-loop-p
invariant-loop-p l = verdict (rows l.p (λ q. trial (ltb (most_in (night_held l.file) l.i q) (price_in (night_held l.file) l.i q)) 11 (l.i * l.file.header.subjects + q) ∷ [])) (tt {0}) ≡ answers tt
