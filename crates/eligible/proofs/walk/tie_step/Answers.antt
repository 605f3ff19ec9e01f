-- What is read together is tied, and asked, set after set.
use mathlib.Core.Path.{refl, ap, ◌∙◌}
use native.Mathlib.Omega.{arith}
use lib.ListN.{length}
use Rattle.layout.specs.Held.{night_held}
use Rattle.model.specs.Tables.{ties}
use Rattle.model.proofs.Merged.{tie_length}
use Rattle.eligible.proofs.Tying.{out_more, tied_more, none_left}
use Rattle.eligible.proofs.walk.tie_step.Goals as goal

pub loop-k-init : goal.loop-k-init
unfolding ties
loop-k-init c =
    (c.together-k-end.ensures (night_held c.args.seen.now.file), c.requires.1, refl, refl)

pub loop-k-preserved : goal.loop-k-preserved
unfolding ties
loop-k-preserved c =
    let ts = ties (night_held c.args.seen.now.file) c.args.v in
    let i = c.loop-k.invariant in (
      i.0,
      ap length c.tie-all.ensures.1 ∙ tie_length _ _,
      rw (c.union-so_far.ensures, c.out_by.ensures, c.tie-all.ensures.0, c.tie-all.ensures.1, c.together.ensures)
          (out_more ts c.loop-k.k (omega arith) _ c.args.seen.now.file.header.subjects c.args.seen.now.clear c.args.seen.now.sealed _)
          ∙ i.2,
      rw (c.tie-all.ensures.1, c.together.ensures) (tied_more ts c.loop-k.k (omega arith) _) ∙ i.3,
    )

pub returns : goal.returns
returns c =
    let i = c.loop-k.invariant in
    let none = none_left (ties (night_held c.args.seen.now.file) c.args.v) c.loop-k.k (omega arith) in
    (rw none at i.2, rw none at i.3)
