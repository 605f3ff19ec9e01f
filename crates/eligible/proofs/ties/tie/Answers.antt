-- The set is gathered with what it meets, and put at all its members.
use Rattle.model.specs.Ties.{tie}
use Rattle.eligible.proofs.ties.tie.Goals as goal

pub returns : goal.returns
unfolding tie
returns c =
    let g = c.gather-all.ensures in
    (g, rw (← g) c.put.ensures)
