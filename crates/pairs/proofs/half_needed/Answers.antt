-- Each set asked by its number.
use mathlib.Core.Path.{◌≡◌, refl, ◌∙◌}
use Prim.Native.Nat.{ℕ}
use native.Mathlib.Omega.{arith}
use lib.ListN.{length, get_or}
use Rattle.std.proofs.Common.{rules, tests}
use Rattle.std.specs.List.{list_any, range_with_len}
use Rattle.std.proofs.lemmas.Iterator.{YieldsList-from_range}
use Rattle.std.proofs.lemmas.Iterator.Search.{any_from_yields_List}
use Rattle.layout.specs.Held.{night_held}
use Rattle.night.specs.Kinds.{read_together}
use Rattle.trials.specs.Rules.{half}
use Rattle.pairs.proofs.OneByOne.{any_listed}
use Rattle.pairs.proofs.half_needed.Goals as goal

pub returns : goal.returns
returns c =
    let ts = read_together (night_held c.args.file.now) c.args.v in
    let n : c.together.result ≡ length ts = c.together.ensures (night_held c.args.file.now) in
    let test = λ (k : ℕ). half c.args.v.needed (get_or ts k 0) in
    let e : c.any.result ≡ list_any test (range_with_len 0 c.together.result) =
    any_from_yields_List test _ _ c.any.result c.any.ensures.ran (YieldsList-from_range 0 c.together.result c.together.result refl (omega arith)) (λ x b q k. search (rules, tests)) in
    rw n at e ∙ any_listed (half c.args.v.needed) ts
