-- A child that is used is handed over.
use Rattle.layout.specs.Held.{night_held}
use Rattle.format.specs.Layout.{night_in}
use lib.ListN.{get_or}
use Rattle.laws.proofs.Cases.{yes_is}
use Rattle.choosing.proofs.Offers.{handed_made, handed_most}
use Rattle.choosing.proofs.offer.handed_over.Goals as goal

pub returns-then-used : goal.returns-then-used
unfolding night_in
returns-then-used c =
    let N = night_held c.args.file.now in
    let same = handed_made N c.args.k c.node.result c.node.ensures (λ j. get_or c.args.offer.now j 0) c.args.i c.handed.result c.handed.ensures in
    (yes_is _ _ _ _ c.if-used.true same, rw same (handed_most N c.requires.0 (λ j. get_or c.args.offer.now j 0) c.requires.1 c.args.i c.args.k c.requires.3 (c.requires.4 c.if-used.true)))
