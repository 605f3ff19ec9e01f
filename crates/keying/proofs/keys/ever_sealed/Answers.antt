-- The set grows by one node a turn.
use native.Mathlib.Omega.{arith}
use mathlib.Core.Path.{◌≡◌, sym, ◌∙◌}
use lib.ListN.{get_or}
use Rattle.sets.proofs.Words.{unions_none, unions_turn}
use Rattle.model.proofs.Keyed.{ever_each}
use Rattle.keying.specs.Nodes.{node_events}
use Rattle.keying.proofs.keys.ever_sealed.Goals as goal

pub loop-i-init : goal.loop-i-init
loop-i-init c = sym (unions_none _)

pub loop-i-preserved : goal.loop-i-preserved
loop-i-preserved c =
    unions_turn _ c.loop-i.i c.loop-i.invariant c.entry.ensures c.union-all.ensures

pub returns : goal.returns
unfolding node_events
returns c =
    let e : c.loop-i.i ≡ c.args.n = omega arith in
    λ subjects opens. (rw e at c.loop-i.invariant) ∙ sym (ever_each (λ i. record { subject = get_or subjects i 0; opened = get_or opens i 0; sealed = get_or c.args.seals.now i 0 }) c.args.n)
