-- What is found among the decoded grants is what the night has there.
use Rattle.std.proofs.Common.{arith, length, ◌≤◌, ◌∙◌}
use Rattle.views.proofs.Among.{found_among, first_decoded}
use Rattle.views.proofs.grants.find_from.Goals as goal

pub returns : goal.returns
returns c =
    let grants = c.decoded-grants.result in
    let h : c.args.n ≤ length grants = omega arith in
    found_among grants c.args.relation c.args.subject c.args.n h c.find.ensures c.unwrap_or.ensures
    ∙ first_decoded grants _ _ _ _ _ c.decoded-grants.ensures
