-- A leaf is asked against its owner, a step against its candidates.
use mathlib.Core.Path.{refl}
use Rattle.layout.specs.Held.{night_held}
use Rattle.choosing.proofs.Offers.{step_asked}
use Rattle.choosing.proofs.Sets.{set_at, subjects_step}
use Rattle.choosing.proofs.offer.offer_bad.Goals as goal

pub returns-else-v-eq-LEAF : goal.returns-else-v-eq-LEAF
returns-else-v-eq-LEAF c =
    let N = night_held c.args.who.now.file in
    let step = subjects_step N c.args.i c.node-v.result c.node-v.ensures c.if-v-eq-LEAF.false in
    rw (
      ← step_asked N c.args.i c.node-v.result c.node-v.ensures c.args.offer.now c.if-v-eq-LEAF.false,
      ← step,
      ← set_at N _ c.args.i c.requires.0.has c.requires.2,
      ← c.has.ensures,
    )
    refl
