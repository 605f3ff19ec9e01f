-- Each turn is one record's row.
use mathlib.Core.Path.{◌≡◌}
use Rattle.layout.specs.Held.{night_held}
use Rattle.laws.specs.Trials.{answers, verdict, rows}
use Rattle.trials.specs.Trials.{trials_of}
use Rattle.reading.proofs.sections.section_tried.Given as goal

abbrev pub invariant-loop-i : goal.invariant-loop-i
invariant-loop-i l = verdict (rows l.i (trials_of (night_held l.file) l.part)) (tt {0}) ≡ answers tt
