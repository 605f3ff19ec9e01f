-- The tests are those of the definition, in its order.
use Rattle.layout.specs.Held.{night_held}
use Rattle.night.specs.Views.{grant_on}
use Rattle.format.specs.Layout.{night_in}
use Rattle.views.proofs.Seen.{own_read, any_read, none_read}
use Rattle.views.proofs.view.Goals as goal

pub returns-then-own-n : goal.returns-then-own-n
unfolding grant_on night_in
returns-then-own-n c =
    own_read (night_held c.args.file.now) c.args.day c.args.p c.args.r c.first_grant-own.ensures c.if-own-n.true c.grant.ensures c.seen_by.ensures

pub returns-then-other-n : goal.returns-then-other-n
unfolding grant_on night_in
returns-then-other-n c =
    any_read (night_held c.args.file.now) c.args.day c.args.p c.args.r c.first_grant-own.ensures c.if-own-n.false c.first_grant-other.ensures c.if-other-n.true
    c.grant-then-other-n.ensures c.seen_by-then-other-n.ensures

pub returns : goal.returns
unfolding grant_on night_in
returns c =
    none_read (night_held c.args.file.now) c.args.day c.args.p c.args.r c.first_grant-own.ensures c.if-own-n.false c.first_grant-other.ensures c.if-other-n.false c.default.ensures
