-- Each earlier node is asked.
use mathlib.Core.Path.{◌≡◌, refl, ◌∙◌}
use Prim.Native.Nat.{ℕ}
use native.Mathlib.Omega.{arith}
use Rattle.std.proofs.Common.{rules, tests}
use Rattle.std.specs.List.{list_any, range_with_len}
use Rattle.std.proofs.lemmas.Iterator.{YieldsList-from_range}
use Rattle.std.proofs.lemmas.Iterator.Search.{any_from_yields_List}
use Rattle.layout.specs.Held.{night_held}
use Rattle.laws.proofs.Search.{any_somewhere}
use Rattle.night.specs.Night.{node_of}
use Rattle.trials.specs.Trials.{is_leaf_of, leaf_before}
use Rattle.reading.proofs.nodes.leaf_before.Goals as goal

pub returns : goal.returns
unfolding leaf_before
returns c =
    let test = λ (k : ℕ). is_leaf_of (node_of (night_held c.args.file.now) k) c.args.r in
    let e : c.any.result ≡ list_any test (range_with_len 0 c.args.i) =
    any_from_yields_List test _ _ c.any.result c.any.ensures.ran (YieldsList-from_range 0 c.args.i c.args.i refl (omega arith)) (λ x b q k. search (rules, tests)) in
    e ∙ any_somewhere test c.args.i
