-- The array has what the subjects so far see, and nothing after them.
use mathlib.Core.Path.{◌≡◌, refl, sym, ◌∙◌}
use native.Mathlib.Omega.{arith}
use lib.ListN.{length-set}
use lib.Seq.{ext_get_or}
use Rattle.laws.specs.Upwards.{each}
use Rattle.laws.proofs.Upwards.{agrees_none, agrees_more, each_length}
use Rattle.eligible.specs.Seen.{seen_from}
use Rattle.eligible.proofs.seen.each_seen.Goals as goal

pub loop-p-init : goal.loop-p-init
loop-p-init c = (refl, agrees_none (λ before. seen_from c.args.sets.now c.args.own.now) 0 16)

pub loop-p-preserved : goal.loop-p-preserved
loop-p-preserved c =
    let b = c.loop-p in
    let f = seen_from c.args.sets.now c.args.own.now in
    (simp length-set b.invariant.0, agrees_more (λ before. f) 0 b.p c.seen_from.result b.seen (omega arith) b.invariant.1 c.seen_from.ensures)

pub returns : goal.returns
returns c =
    let b = c.loop-p in
    let f = seen_from c.args.sets.now c.args.own.now in
    let e : b.p ≡ 16 = omega arith in
    ext_get_or 0 b.seen (each 16 f) (b.invariant.0 ∙ sym (each_length f 16)) (λ j l. rw e at (b.invariant.1 j))
