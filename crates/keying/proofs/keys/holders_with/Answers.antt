-- What the nodes hold and what the user holds, together.
use mathlib.Core.Path.{sym, ◌∙◌}
use Rattle.sets.specs.Sets.{union}
use Rattle.keying.proofs.Grouped.{holders_to}
use Rattle.keying.proofs.keys.holders_with.Goals as goal

pub returns : goal.returns
returns c =
    let nodes = c.holders_of.ensures in
    let user = c.as_holder.ensures in
    c.union.ensures ∙ (λ i. union (nodes i) (user i)) ∙ sym (holders_to c.args.plan.now.choice.now c.args.plan.now.opens.now c.args.plan.now.seals.now c.args.plan.now.nodes c.args.d c.args.group)
