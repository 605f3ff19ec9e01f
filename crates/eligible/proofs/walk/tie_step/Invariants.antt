-- What is read together is tied, and asked, set after set.
use mathlib.Core.Path.{◌≡◌}
use lib.ListN.{length, drop}
use Rattle.layout.specs.Held.{night_held}
use Rattle.model.specs.Tables.{ties, tie_all}
use Rattle.eligible.specs.Walk.{out_tied}
use Rattle.eligible.proofs.walk.tie_step.Given as goal

abbrev pub invariant-loop-k : goal.invariant-loop-k
invariant-loop-k l =
    (l.k-end ≡ length (ties (night_held l.seen.file) l.v)) × (length l.tied ≡ 64)
    × (out_tied l.so_far l.seen.file.header.subjects l.seen.clear l.seen.sealed l.tied (drop l.k (ties (night_held l.seen.file) l.v)) ≡ out_tied l.out l.seen.file.header.subjects l.seen.clear l.seen.sealed l.initial.tied (ties (night_held l.seen.file) l.v))
    × (tie_all l.tied (drop l.k (ties (night_held l.seen.file) l.v)) ≡ tie_all l.initial.tied (ties (night_held l.seen.file) l.v))
