-- The test is the definition's.
use mathlib.Core.Path.{◌≡◌, refl, sym, ◌∙◌}
use mathlib.Core.Bool.{true, false}
use Prim.Native.Nat.{ℕ}
use native.Mathlib.Omega.{arith}
use Rattle.std.proofs.Common.{rules, tests}
use Rattle.std.specs.List.{list_any, range_with_len}
use Rattle.std.proofs.lemmas.Iterator.{YieldsList-from_range}
use Rattle.std.proofs.lemmas.Iterator.Search.{any_from_yields_List}
use Rattle.layout.specs.Held.{night_held}
use Rattle.laws.proofs.Search.{any_somewhere}
use Rattle.night.specs.Kinds.{uses_pairs, its_pair}
use Rattle.trials.specs.Rules.{pair_bad, pairs_bad}
use Rattle.pairs.proofs.pairs_bad.Goals as goal

pub returns-then-uses_pairs : goal.returns-then-uses_pairs
unfolding pairs_bad
returns-then-uses_pairs c =
    let u : uses_pairs c.args.v.kind ≡ true = sym c.uses_pairs.ensures ∙ c.if-uses_pairs.true in
    let test = λ (k : ℕ). pair_bad (its_pair (night_held c.args.file.now) c.args.v k) c.args.left c.args.right in
    let e : c.any.result ≡ list_any test (range_with_len 0 c.args.v.count) =
    any_from_yields_List test _ _ c.any.result c.any.ensures.ran (YieldsList-from_range 0 c.args.v.count c.args.v.count refl (omega arith)) (λ x b q k. search (rules, tests)) in
    rw u (e ∙ any_somewhere test c.args.v.count)

pub returns-else-uses_pairs : goal.returns-else-uses_pairs
unfolding pairs_bad
returns-else-uses_pairs c =
    let u : uses_pairs c.args.v.kind ≡ false = sym c.uses_pairs.ensures ∙ c.if-uses_pairs.false in
    c.if-uses_pairs.false ∙ rw u refl
