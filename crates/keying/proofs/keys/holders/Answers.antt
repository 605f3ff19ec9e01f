-- The array is the holders so far, with nothing after them.
use Prim.Native.Nat.{ℕ}
use mathlib.Core.Path.{◌≡◌, refl, sym, ◌∙◌}
use mathlib.Core.List.{List}
use native.Mathlib.Omega.{arith}
use lib.ListN.{length-set}
use lib.Seq.{ext_get_or}
use Rattle.laws.specs.Upwards.{each}
use Rattle.laws.proofs.Upwards.{agrees_none, agrees_more, each_length}
use Rattle.run.specs.Keys.{group_of, holders_of, key_holders}
use Rattle.keying.specs.declared.keys.Delivery.{Delivery}
use Rattle.keying.specs.Nodes.{events_to}
use Rattle.keying.proofs.Grouped.{group_among, ever_to}
use Rattle.keying.proofs.keys.holders.Goals as goal

-- the holders of attribute k's key
abbrev at : List ℕ → List ℕ → List ℕ → List ℕ → ℕ → Delivery → ℕ → ℕ → ℕ
at tied choice opens seals n d sealed k = holders_of (events_to choice opens seals n d) (group_among tied sealed k)

pub loop-k-init : goal.loop-k-init
loop-k-init c =
    (refl, agrees_none (λ before. at c.args.tied.now c.args.plan.now.choice.now c.args.plan.now.opens.now c.args.plan.now.seals.now c.args.plan.now.nodes c.args.d c.ever_sealed-sealed.result) 0 64)

pub loop-k-preserved : goal.loop-k-preserved
loop-k-preserved c =
    let s = c.ever_sealed-sealed.result in
    let b = c.loop-k in
    let f = at c.args.tied.now c.args.plan.now.choice.now c.args.plan.now.opens.now c.args.plan.now.seals.now c.args.plan.now.nodes c.args.d s in
    let group : c.group_of-group.result ≡ group_among c.args.tied.now s b.k = c.group_of-group.ensures in
    let e : c.from.result ≡ f b.k = c.from.ensures ∙ rw (← group) c.holders_with.ensures in
    (simp length-set b.invariant.0, agrees_more (λ before. f) 0 b.k c.from.result b.all (omega arith) b.invariant.1 e)

pub returns : goal.returns
unfolding key_holders group_of
returns c =
    let s = c.ever_sealed-sealed in
    let b = c.loop-k in
    let f = at c.args.tied.now c.args.plan.now.choice.now c.args.plan.now.opens.now c.args.plan.now.seals.now c.args.plan.now.nodes c.args.d s.result in
    let e : b.k ≡ 64 = omega arith in
    rw (ever_to c.args.plan.now.choice.now c.args.plan.now.opens.now c.args.plan.now.seals.now c.args.plan.now.nodes c.args.d, ← s.ensures c.args.plan.now.choice.now c.args.plan.now.opens.now) (ext_get_or 0 b.all (each 64 f) (b.invariant.0 ∙ sym (each_length f 64)) (λ j l. rw e at (b.invariant.1 j)))
