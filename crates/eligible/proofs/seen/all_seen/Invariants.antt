-- Each turn takes one grant up; after the last what is held is what the views say.
use mathlib.Core.Path.{◌≡◌}
use Rattle.layout.specs.Held.{night_held}
use Rattle.eligible.specs.Seen.{held, grantees}
use Rattle.eligible.proofs.seen.all_seen.Given as goal

abbrev pub invariant-loop-i : goal.invariant-loop-i
invariant-loop-i l =
    (l.clear ≡ held l.file.header.day (λ g. g.clear) (night_held l.file) l.i)
    × (l.sealed ≡ held l.file.header.day (λ g. g.sealed) (night_held l.file) l.i)
    × (l.own ≡ grantees l.file.header.day (night_held l.file) l.i)
