-- Two stores more.
use mathlib.Core.Path.{refl}
use native.Mathlib.Omega.{arith}
use lib.ListN.{get_or}
use Rattle.model.proofs.Turns.{turn_none, turn_more}
use Rattle.planning.proofs.rooms.fill_pairs.Goals as goal

pub loop-i-init : goal.loop-i-init
loop-i-init c = turn_none _ _ _

pub loop-i-preserved : goal.loop-i-preserved
loop-i-preserved c =
    let b = c.loop-i in
    turn_more (λ j. get_or c.args.first j 0) (λ j. get_or c.args.second j 0) c.args.room.now b.room b.i (get_or c.args.first b.i 0) (get_or c.args.second b.i 0) (omega arith) b.invariant refl refl
