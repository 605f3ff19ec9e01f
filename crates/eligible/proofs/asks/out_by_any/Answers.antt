-- Those whom the tied sets so far put out; an empty one puts out nobody.
use Prim.Native.Nat.{ℕ}
use mathlib.Core.Path.{sym, ap, ◌∙◌}
use lib.ListN.{get_or}
use Rattle.sets.proofs.Words.{unions_none, unions_turn}
use Rattle.eligible.specs.Asked.{out_among}
use Rattle.eligible.proofs.Asked.{none_out, unions_kept}
use Rattle.eligible.proofs.asks.out_by_any.Goals as goal
use Rattle.eligible.proofs.asks.out_by_any.Goals.{then-set-ne0, else-set-ne0}

pub loop-set-init : goal.loop-set-init
loop-set-init c = sym (unions_none _)

pub loop-set-preserved : goal.loop-set-preserved
loop-set-preserved c =
    let b = c.loop-set in
    let s = c.args.seen.now in
    let f = λ (k : ℕ). out_among s.file.header.subjects s.clear s.sealed (get_or c.args.tied.now k 0) in
    elim c.if-set-ne0.branch [
      | then-set-ne0 w ↦ unions_turn f b.set-index b.invariant w.out_by.ensures (w.out-is ∙ w.union-out.ensures)
      | else-set-ne0 w ↦ unions_kept f b.set-index b.invariant
          (ap (λ (a : ℕ). out_among s.file.header.subjects s.clear s.sealed a) w.if-set-ne0.false ∙ none_out s.file.header.subjects s.clear s.sealed) w.out-is
    ]
