-- The first of the three tests that refuses.
use Rattle.laws.specs.Trials.{verdict}
use Rattle.writes.specs.Writing.{count_trials}
use Rattle.laws.proofs.Cases.{cases}
use Rattle.encoding.proofs.tried.Goals as goal

pub returns-then-not-known : goal.returns-then-not-known
unfolding verdict count_trials
returns-then-not-known c = rw (← c.known.ensures) (search cases depth 20)

pub returns-then-counts_bad : goal.returns-then-counts_bad
unfolding verdict count_trials
returns-then-counts_bad c = rw (← c.known.ensures, ← c.counts_bad.ensures) (search cases depth 20)

pub returns-then-miscounted : goal.returns-then-miscounted
unfolding verdict count_trials
returns-then-miscounted c = rw (← c.known.ensures, ← c.counts_bad.ensures, ← c.miscounted.ensures) (search cases depth 20)

pub returns-else-miscounted : goal.returns-else-miscounted
unfolding verdict count_trials
returns-else-miscounted c = rw (← c.known.ensures, ← c.counts_bad.ensures, ← c.miscounted.ensures) (search cases depth 20)
