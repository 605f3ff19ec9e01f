-- The arrays hold the built plan and its keys, and fill the rooms two by two.
use mathlib.Core.Path.{ap, ◌∙◌}
use Rattle.layout.specs.Held.{night_held}
use Rattle.format.specs.Layout.{night_in}
use Rattle.keying.specs.Parts.{delivery_of}
use Rattle.planning.proofs.Planned.{plan_written, keys_written}
use Rattle.planning.proofs.rooms.fill_plan.Goals as goal

pub fill_pairs-requires : goal.fill_pairs-requires
unfolding night_in
fill_pairs-requires c =
    (c.requires.0.counts.nodes_most, c.requires.2)

pub fill_pairs-requires-2 : goal.fill_pairs-requires-2
unfolding night_in
fill_pairs-requires-2 c =
    (c.requires.0.counts.attributes_most, c.requires.3)

pub returns : goal.returns
unfolding night_in
returns c =
    let opens = c.all_opens-opens in
    let names = c.names-names in
    let given = c.delivery-delivery in
    let N = night_held c.args.file.now in
    let B = c.requires.1 in
    let subjects = c.args.choice.now in
    let sealed = given.ensures ∙ ap (delivery_of c.args.file.now.header) B.root_sealed in
    let plan =
    plan_written N c.requires.0 subjects opens.result c.args.parts.seals c.args.parts.tied opens.ensures B.seals_all B.root_ties c.args.plan.now
    c.fill_pairs.ensures
    in
    let keys =
    keys_written N c.requires.0 subjects opens.result c.args.parts.seals c.args.parts.tied opens.ensures B.seals_all B.root_ties given.result sealed
    names.result c.holders-holders.result c.args.keys.now (names.ensures subjects opens.result) c.holders-holders.ensures c.fill_pairs-2.ensures
    in
    (plan, keys)
