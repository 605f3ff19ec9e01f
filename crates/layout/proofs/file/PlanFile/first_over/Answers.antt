-- One test of the length for the row; else the loop stops at the first price that is over; and past the rows no price is.
use mathlib.Core.Path.{◌≡◌, sym}
use native.Mathlib.Omega.{arith}
use borrow.Author.Tests.{lt-ltb, le-ltb}
use Rattle.laws.proofs.First.{first_none, first_more, first_found, first_all}
use Rattle.layout.proofs.Over.{over_past, over_read}
use Rattle.layout.proofs.file.PlanFile.first_over.Goals as goal

pub returns-then-h-n : goal.returns-then-h-n
returns-then-h-n c = over_past c.args.self.now.bytes.now c.args.self.now.header c.args.i c.args.most (omega arith) (omega arith)

pub returns-then-at-n : goal.returns-then-at-n
returns-then-at-n c =
    over_read c.args.self.now.bytes.now c.args.self.now.header c.args.i c.args.most (omega arith) c.step_prices_from.ensures.0 c.cell.ensures.0 (omega arith)
    c.first_over_in.ensures

pub loop-p-init : goal.loop-p-init
loop-p-init c = first_none _

pub returns-then-most-price : goal.returns-then-most-price
returns-then-most-price c =
    let b = c.loop-p in
    sym (first_found _ b.p _ b.invariant (rw (← c.cell-in-loop-p.ensures.0, ← c.price.ensures) (lt-ltb _ _ c.if-most-price.true)) (omega arith))

pub loop-p-preserved : goal.loop-p-preserved
loop-p-preserved c =
    let b = c.loop-p in
    first_more _ b.p b.invariant (rw (← c.cell-in-loop-p.ensures.0, ← c.price.ensures) (le-ltb _ _ c.if-most-price.false))

pub returns : goal.returns
returns c =
    let e : c.loop-p.p ≡ c.args.self.now.header.subjects = omega arith in
    sym (first_all _ c.loop-p.p c.args.self.now.header.subjects c.loop-p.invariant e)
