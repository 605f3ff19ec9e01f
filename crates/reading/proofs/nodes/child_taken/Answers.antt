-- Each earlier node is asked.
use mathlib.Core.Path.{◌≡◌, refl, ◌∙◌}
use Prim.Native.Nat.{ℕ}
use native.Mathlib.Omega.{arith}
use Rattle.std.proofs.Common.{rules, tests}
use Rattle.std.specs.List.{list_any, range_with_len}
use Rattle.std.proofs.lemmas.Iterator.{YieldsList-from_range}
use Rattle.std.proofs.lemmas.Iterator.Search.{any_from_yields_List}
use Rattle.layout.specs.Held.{night_held}
use Rattle.laws.proofs.Search.{any_somewhere}
use Rattle.night.specs.Night.{node_of}
use Rattle.night.specs.Kinds.{is_child, taken}
use Rattle.reading.proofs.nodes.child_taken.Goals as goal

pub returns : goal.returns
unfolding taken
returns c =
    let test = λ (k : ℕ). is_child (node_of (night_held c.args.file.now) k) c.args.c in
    let e : c.any.result ≡ list_any test (range_with_len 0 c.args.i) =
    any_from_yields_List test _ _ c.any.result c.any.ensures.ran (YieldsList-from_range 0 c.args.i c.args.i refl (omega arith)) (λ x b q k. search (rules, tests)) in
    e ∙ any_somewhere test c.args.i
