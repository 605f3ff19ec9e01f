-- The test as a trial.
use borrow.Author.Tests.{lt-ltb, le-ltb}
use Rattle.laws.specs.Trials.{verdict}
use Rattle.planning.proofs.rooms.fits.Goals as goal

pub returns-then-room-needed : goal.returns-then-room-needed
unfolding verdict
returns-then-room-needed c = rw (lt-ltb _ _ c.if-room-needed.true)

pub returns : goal.returns
unfolding verdict
returns c = rw (le-ltb _ _ c.if-room-needed.false)
