-- The set grows by one node a turn.
use native.Mathlib.Omega.{arith}
use Prim.Native.Nat.{ℕ}
use mathlib.Core.Path.{◌≡◌, sym, ◌∙◌}
use lib.ListN.{get_or}
use Rattle.std.specs.Prelude.{if◌then◌else◌}
use Rattle.sets.specs.Sets.{union, apart, single}
use Rattle.sets.proofs.Words.{unions_none, unions_turn}
use Rattle.model.proofs.Keyed.{holders_each}
use Rattle.keying.specs.Nodes.{node_events}
use Rattle.keying.proofs.keys.holders_of.Goals as goal

-- the subject where it opens or seals one of the group
abbrev held : ℕ → ℕ → ℕ → ℕ → ℕ
held group p opened sealed = if apart group (union opened sealed) then 0 else single 16 p

pub loop-i-init : goal.loop-i-init
loop-i-init c = sym (unions_none _)

pub loop-i-preserved : goal.loop-i-preserved
loop-i-preserved c =
    let subject = c.entry-subject.ensures in
    let opened = c.entry.ensures in
    let sealed = c.entry-in-loop-i.ensures in
    let e = c.as_holder-holder.ensures ∙ (λ k. held c.args.group (subject k) (opened k) (sealed k)) in
    unions_turn _ c.loop-i.i c.loop-i.invariant e c.union-all.ensures

pub returns : goal.returns
unfolding node_events
returns c =
    let e : c.loop-i.i ≡ c.args.plan.now.nodes = omega arith in
    (rw e at c.loop-i.invariant) ∙ sym (holders_each (λ i. record { subject = get_or c.args.plan.now.choice.now i 0; opened = get_or c.args.plan.now.opens.now i 0; sealed = get_or c.args.plan.now.seals.now i 0 }) c.args.group c.args.plan.now.nodes)
