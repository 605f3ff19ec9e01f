-- In a version with a user the loop stops at the first leaf that holds more than that user sees in clear.
use native.Mathlib.Omega.{arith}
use mathlib.Core.Path.{sym, ◌∙◌}
use Rattle.layout.specs.Held.{night_held}
use Rattle.format.specs.Layout.{night_in}
use Rattle.laws.proofs.First.{first_all}
use Rattle.choosing.proofs.Users.{user_sees, user_refused, user_passes}
use Rattle.choosing.proofs.user.allowed.Goals as goal

pub returns-then-kept_back : goal.returns-then-kept_back
unfolding night_in
returns-then-kept_back c =
    let N = night_held c.args.file.now in
    let d = sym c.delivers.ensures ∙ c.if-not-delivers.false in
    let sees = user_sees N d c.requires.0 _ c.requires.1 in
    sym (user_refused N d c.loop-i.i (rw sees at c.loop-i.invariant) (rw (← sees, ← c.node.ensures) (sym c.kept_back.ensures ∙ c.if-kept_back.true)) (omega arith))

pub returns : goal.returns
unfolding night_in
returns c =
    let N = night_held c.args.file.now in
    let d = sym c.delivers.ensures ∙ c.if-not-delivers.false in
    let sees = user_sees N d c.requires.0 _ c.requires.1 in
    sym (user_passes N d (first_all _ c.loop-i.i _ (rw sees at c.loop-i.invariant) (omega arith)))
