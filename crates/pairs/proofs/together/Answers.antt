-- A pair, or all that is read.
use mathlib.Core.Path.{◌≡◌, sym, ap, ◌∙◌}
use mathlib.Core.Bool.{true, false}
use native.Mathlib.Omega.{arith}
use Rattle.layout.specs.Held.{night_held}
use Rattle.night.specs.Kinds.{uses_pairs, both_of}
use Rattle.pairs.proofs.OneByOne.{at_pair, at_other}
use Rattle.pairs.proofs.together.Goals as goal

pub returns-then-uses_pairs : goal.returns-then-uses_pairs
returns-then-uses_pairs c =
    let N = night_held c.args.file.now in
    let u : uses_pairs c.args.v.kind ≡ true = sym c.uses_pairs.ensures ∙ c.if-uses_pairs.true in
    c.both_of.ensures ∙ ap both_of c.its_pair.ensures ∙ sym (at_pair N c.args.v c.args.k u (omega (arith, c.together.ensures N)))

pub returns-else-uses_pairs : goal.returns-else-uses_pairs
returns-else-uses_pairs c =
    let N = night_held c.args.file.now in
    let u : uses_pairs c.args.v.kind ≡ false = sym c.uses_pairs.ensures ∙ c.if-uses_pairs.false in
    c.reads.ensures ∙ sym (at_other N c.args.v c.args.k u (omega (arith, c.together.ensures N)))
