-- The subjects so far, one more a turn where the set is split.
use Prim.Native.Nat.{ℕ}
use mathlib.Core.Path.{refl, sym, ◌∙◌}
use mathlib.Core.List.{List}
use lib.ListN.{get_or}
use Rattle.std.specs.Prelude.{if◌then◌else◌}
use Rattle.sets.specs.Sets.{single}
use Rattle.sets.proofs.Words.{unions_none, unions_turn}
use Rattle.model.specs.OneTest.{splits}
use Rattle.eligible.proofs.Asked.{unions_kept}
use Rattle.eligible.proofs.asks.out_by.Goals as goal
use Rattle.eligible.proofs.asks.out_by.Goals.{then-splits, else-splits}

-- what is asked of subject p
abbrev asked : ℕ → List ℕ → List ℕ → ℕ → ℕ
asked set clear sealed p = if splits set (get_or clear p 0) (get_or sealed p 0) then single 16 p else 0

pub loop-p-init : goal.loop-p-init
loop-p-init c = sym (unions_none _)

pub loop-p-preserved : goal.loop-p-preserved
loop-p-preserved c =
    let b = c.loop-p in
    let f = asked c.args.set c.args.seen.now.clear c.args.seen.now.sealed in
    elim c.if-splits.branch [
      | then-splits w ↦ unions_turn f b.p b.invariant (rw (← c.splits.ensures, w.if-splits.true) w.single.ensures) (w.out-is ∙ w.union-out.ensures)
      | else-splits w ↦ unions_kept f b.p b.invariant (rw (← c.splits.ensures, w.if-splits.false) refl) w.out-is
    ]
