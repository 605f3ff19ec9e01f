-- Each part is what its function promises of it.
use Prim.Native.Nat.{ℕ}
use mathlib.Core.Path.{refl, ap, ◌∙◌}
use lib.ListN.{set}
use Rattle.layout.specs.Held.{night_held}
use Rattle.sets.specs.Sets.{minus}
use Rattle.eligible.proofs.Closed.{close_taken, close_made, pass_columns}
use Rattle.eligible.proofs.walk.close.Goals as goal

pub returns : goal.returns
returns c =
    let taken = close_taken c.args.v c.args.l.columns c.args.r c.least_view-left.ensures c.least_view-right.ensures c.taken-taken.ensures in
    record {
      columns = close_made c.args.v c.args.l.columns c.args.r (night_held c.args.seen.now.file) taken c.made-columns.ensures;
      put_out = c.out_after-out.ensures.0;
      tied_after = c.out_after-out.ensures.1;
      in-clear = refl;
      subjects =
          ap (λ (x : ℕ). set c.args.trail.now.sets c.args.i x)
          (c.minus.ensures
          ∙ ap (λ (x : ℕ). minus x c.out_after-out.result)
          (pass_columns c.args.seen.now.file.header.subjects c.args.seen.now.clear c.args.seen.now.sealed c.args.v c.args.l.columns c.args.r c.taken-taken.result taken c.passing.ensures));
    }
