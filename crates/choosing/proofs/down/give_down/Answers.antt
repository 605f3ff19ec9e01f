-- Each turn gives the children of one node, from the last down.
use native.Mathlib.Omega.{arith}
use mathlib.Core.Path.{◌≡◌, sym, ◌∙◌}
use Rattle.model.proofs.Follows.{down_none}
use Rattle.choosing.proofs.down.give_down.Goals as goal

pub returns : goal.returns
returns c =
    let b = c.loop-i in
    let e : b.i ≡ 0 = omega arith in
    (sym (down_none _ _ b.chosen) ∙ (rw e at b.invariant.0), b.invariant.1)
