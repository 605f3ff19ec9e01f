-- Each turn asks of one stretch.
use Prim.Native.Nat.{ℕ}
use mathlib.Core.Bool.{Bool}
use mathlib.Core.List.{List}
use native.Mathlib.Omega.{arith}
use Rattle.night.specs.declared.Header.{Header}
use Rattle.night.specs.Night.{grant_of}
use Rattle.night.specs.Views.{is_for}
use Rattle.format.specs.Layout.{night_in}
use Rattle.views.proofs.Next.{none_more, next_found}
use Rattle.views.proofs.next_grant.Goals as goal

-- grant k is for the pair
abbrev test : List ℕ → Header → ℕ → ℕ → ℕ → Bool
test s h r p k = is_for (grant_of (night_in s h) k) r p

pub returns-then-found-m : goal.returns-then-found-m
returns-then-found-m c =
    let m = c.min-m.result in
    next_found (test c.args.file.now.bytes.now c.args.file.now.header c.args.r c.args.p) c.args.start c.loop-from.from m c.args.n c.loop-from.invariant.0 c.loop-from.invariant.2 c.find_from-found.ensures (omega arith) (omega arith)

pub loop-from-preserved : goal.loop-from-preserved
loop-from-preserved c =
    let m = c.min-m.result in
    let e = c.find_from-found.ensures in
    (omega arith, omega arith, none_more (test c.args.file.now.bytes.now c.args.file.now.header c.args.r c.args.p) c.args.start c.loop-from.from m c.loop-from.invariant.2 m (omega arith))
