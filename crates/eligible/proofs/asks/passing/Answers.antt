-- The subjects so far, one more a turn where it passes.
use Prim.Native.Nat.{ℕ}
use mathlib.Core.Path.{◌≡◌, refl, sym, ◌∙◌}
use mathlib.Core.List.{List, []}
use native.Mathlib.Omega.{arith}
use lib.ListN.{get_or}
use Rattle.std.specs.Prelude.{if◌then◌else◌}
use Rattle.sets.specs.Sets.{single}
use Rattle.sets.proofs.Words.{unions_none, unions_turn}
use Rattle.model.specs.Candidates.{clear_offends, sealed_offends}
use Rattle.model.specs.OneTest.{passes_both}
use Rattle.tables.specs.declared.Columns.{Columns}
use Rattle.tables.specs.Columns.{with_tied}
use Rattle.eligible.proofs.Asked.{unions_kept}
use Rattle.eligible.proofs.asks.passing.Goals as goal
use Rattle.eligible.proofs.asks.passing.Goals.{then-passes_both, else-passes_both}

-- what is asked of subject p; of the tied sets nothing is
abbrev asked : Columns → List ℕ → List ℕ → ℕ → ℕ
asked t clear sealed p = if passes_both (with_tied t []) (get_or clear p 0) (get_or sealed p 0) then single 16 p else 0

pub loop-p-init : goal.loop-p-init
loop-p-init c = sym (unions_none _)

pub loop-p-preserved : goal.loop-p-preserved
loop-p-preserved c =
    let b = c.loop-p in
    let f = asked c.args.t c.args.seen.now.clear c.args.seen.now.sealed in
    elim c.if-passes_both.branch [
      | then-passes_both w ↦ unions_turn f b.p b.invariant (rw (← c.passes_both.ensures [], w.if-passes_both.true) w.single.ensures) (w.set-is ∙ w.union-set.ensures)
      | else-passes_both w ↦ unions_kept f b.p b.invariant (rw (← c.passes_both.ensures [], w.if-passes_both.false) refl) w.set-is
    ]

pub returns : goal.returns
unfolding passes_both clear_offends sealed_offends
returns c tied =
    let e : c.loop-p.p ≡ c.args.seen.now.file.header.subjects = omega arith in
    rw e at c.loop-p.invariant
