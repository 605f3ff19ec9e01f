-- The array is the list so far, with nothing after it.
use Prim.Native.Nat.{ℕ}
use mathlib.Core.Path.{◌≡◌, refl, sym, ap, ◌∙◌}
use native.Mathlib.Omega.{arith}
use lib.ListN.{length-set}
use lib.Seq.{ext_get_or}
use Rattle.laws.specs.Upwards.{each}
use Rattle.laws.proofs.Upwards.{agrees_none, agrees_more, each_length}
use Rattle.layout.specs.Held.{night_held}
use Rattle.layout.specs.declared.file.PlanFile.{PlanFile}
use Rattle.night.specs.declared.Node.{Node}
use Rattle.night.specs.Night.{node_of}
use Rattle.keying.proofs.built.all_opens.Goals as goal

-- what node i needs
abbrev needs_at : PlanFile → ℕ → ℕ
needs_at f i = (node_of (night_held f) i).needed

pub loop-i-init : goal.loop-i-init
loop-i-init c = (refl, agrees_none (λ before. needs_at c.args.file.now) 0 64)

pub loop-i-preserved : goal.loop-i-preserved
loop-i-preserved c =
    let b = c.loop-i in
    let e = ap (λ (v : Node). v.needed) c.node.ensures in
    (simp length-set b.invariant.0, agrees_more (λ before. needs_at c.args.file.now) 0 b.i c.node.result.needed b.opens (omega arith) b.invariant.1 e)

pub returns : goal.returns
returns c =
    let b = c.loop-i in
    let f = needs_at c.args.file.now in
    let e : b.i ≡ 64 = omega arith in
    ext_get_or 0 b.opens (each 64 f) (b.invariant.0 ∙ sym (each_length f 64)) (λ j l. rw e at (b.invariant.1 j))
