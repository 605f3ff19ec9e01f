-- The loop stops at the first number that is over.
use mathlib.Core.Path.{◌≡◌, sym}
use native.Mathlib.Omega.{arith}
use borrow.Author.Tests.{lt-ltb, le-ltb}
use Rattle.laws.proofs.First.{first_none, first_more, first_found, first_all}
use Rattle.layout.proofs.bytes.first_over_in.Goals as goal

pub loop-p-init : goal.loop-p-init
loop-p-init c = first_none _

pub returns-then-most-four_in : goal.returns-then-most-four_in
returns-then-most-four_in c =
    let b = c.loop-p in
    sym (first_found _ b.p _ b.invariant (rw (← c.four_in.ensures) (lt-ltb _ _ c.if-most-four_in.true)) (omega arith))

pub loop-p-preserved : goal.loop-p-preserved
loop-p-preserved c =
    let b = c.loop-p in
    first_more _ b.p b.invariant (rw (← c.four_in.ensures) (le-ltb _ _ c.if-most-four_in.false))

pub returns : goal.returns
returns c =
    let e : c.loop-p.p ≡ c.args.n = omega arith in
    sym (first_all _ c.loop-p.p c.args.n c.loop-p.invariant e)
