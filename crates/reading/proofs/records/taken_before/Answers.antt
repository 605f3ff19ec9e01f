-- The union grows by one relation a turn.
use native.Mathlib.Omega.{arith}
use mathlib.Core.Path.{◌≡◌, sym, ap}
use Rattle.sets.proofs.Words.{unions_none, unions_turn}
use Rattle.night.specs.declared.Relation.{Relation}
use Rattle.trials.specs.Trials.{taken_before}
use Rattle.reading.proofs.records.taken_before.Goals as goal

pub loop-j-init : goal.loop-j-init
loop-j-init c = sym (unions_none _)

pub loop-j-preserved : goal.loop-j-preserved
loop-j-preserved c = unions_turn _ c.loop-j.j c.loop-j.invariant (ap (λ (v : Relation). v.set) c.relation.ensures) c.union-taken.ensures

pub returns : goal.returns
unfolding taken_before
returns c =
    let e : c.loop-j.j ≡ c.args.i = omega arith in
    rw e at c.loop-j.invariant
