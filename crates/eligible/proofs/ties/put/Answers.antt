-- The room is the tied sets so far, and what it had after them.
use Prim.Native.Nat.{ℕ, ◌<◌}
use mathlib.Core.Path.{◌≡◌, refl}
use mathlib.Core.List.{List}
use native.Mathlib.Omega.{arith}
use lib.ListN.{length, length-set, get_or}
use lib.Seq.{set-get_or}
use Rattle.std.specs.Prelude.{if◌then◌else◌}
use Rattle.laws.specs.Upwards.{upwards}
use Rattle.laws.proofs.Front.{each_front, each_rest, each_done}
use Rattle.sets.specs.Sets.{member}
use Rattle.eligible.proofs.ties.put.Goals as goal
use Rattle.eligible.proofs.ties.put.Goals.{then-has, else-has}

-- the tied set of attribute k after `all` is tied
abbrev tied_at : List ℕ → ℕ → ℕ → ℕ
tied_at tied all k = if member all k then all else get_or tied k 0

pub loop-k-init : goal.loop-k-init
unfolding upwards
loop-k-init c = (refl, refl)

pub loop-k-preserved : goal.loop-k-preserved
loop-k-preserved c =
    let k = c.loop-k.k in
    let room = c.loop-k.tied in
    let f = tied_at c.args.tied.now c.args.all in
    let there : k < length c.args.tied.now = omega (arith, c.requires) in
    elim c.if-has.branch [
      | then-has w ↦ rw w.tied-is (
        simp length-set c.loop-k.invariant.0,
        each_front f c.args.tied.now room k c.args.all there c.loop-k.invariant.1 (rw (← c.has.ensures, w.if-has.true) refl),
      )
      | else-has w ↦ rw w.tied-is (
        c.loop-k.invariant.0,
        rw (set-get_or room k 0) at (each_front f c.args.tied.now room k (get_or room k 0) there c.loop-k.invariant.1
            (rw (← c.has.ensures, w.if-has.false) (each_rest f c.args.tied.now room k 0 there c.loop-k.invariant.1))),
      )
    ]

pub returns : goal.returns
returns c =
    let e : c.loop-k.k ≡ 64 = omega arith in
    rw (← each_done (tied_at c.args.tied.now c.args.all) c.args.tied.now 64 c.requires) (rw e at c.loop-k.invariant.1)
