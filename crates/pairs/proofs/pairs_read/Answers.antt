-- The pairs so far, joined.
use mathlib.Core.Path.{◌≡◌, sym, ap, ◌∙◌}
use native.Mathlib.Omega.{arith}
use Rattle.sets.proofs.Words.{unions_none, unions_turn}
use Rattle.night.specs.Kinds.{both_of, pairs_read}
use Rattle.pairs.proofs.pairs_read.Goals as goal

pub loop-k-init : goal.loop-k-init
loop-k-init c = sym (unions_none _)

pub loop-k-preserved : goal.loop-k-preserved
loop-k-preserved c = unions_turn _ c.loop-k.k c.loop-k.invariant (c.both_of.ensures ∙ ap both_of c.its_pair-pair.ensures) c.union-all.ensures

pub returns : goal.returns
unfolding pairs_read
returns c =
    let e : c.loop-k.k ≡ c.args.v.count = omega arith in
    rw e at c.loop-k.invariant
