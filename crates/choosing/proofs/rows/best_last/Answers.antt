-- The last node's row and set.
use Rattle.layout.specs.Held.{night_held}
use Rattle.format.specs.Layout.{night_in}
use Rattle.choosing.proofs.Held.{last_fits, last_made}
use Rattle.choosing.proofs.rows.best_last.Goals as goal

pub best_of-requires : goal.best_of-requires
unfolding night_in
best_of-requires c = last_fits (night_held c.args.who.now.file) c.requires.0.sound _ _ c.requires.1 c.requires.0.has

pub returns : goal.returns
unfolding night_in
returns c = rw (← last_made (night_held c.args.who.now.file) c.requires.0.sound _ _ c.requires.1 c.requires.0.has) c.best_of.ensures
