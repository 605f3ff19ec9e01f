-- What any lets see grows by one relation's a turn.
use mathlib.Core.Path.{◌≡◌, sym, ◌∙◌, ap}
use native.Mathlib.Omega.{arith}
use Rattle.sets.specs.Sets.{union}
use Rattle.sets.proofs.Words.{unions_none, unions_turn}
use Rattle.eligible.specs.Seen.{seen_from}
use Rattle.eligible.proofs.seen.seen_from.Goals as goal

pub loop-r-init : goal.loop-r-init
loop-r-init c = sym (unions_none _)

pub loop-r-preserved : goal.loop-r-preserved
loop-r-preserved c =
    unions_turn _ c.loop-r.r c.loop-r.invariant c.any_for.ensures c.union-any.ensures

pub returns : goal.returns
unfolding seen_from
returns c =
    let e : c.loop-r.r ≡ 16 = omega arith in
    c.union.ensures ∙ ap (union _) (rw e at c.loop-r.invariant)
