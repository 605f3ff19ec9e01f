-- The array is the names so far, with nothing after them.
use Prim.Native.Nat.{ℕ}
use mathlib.Core.Path.{◌≡◌, refl, sym, ap, ◌∙◌}
use mathlib.Core.List.{List}
use native.Mathlib.Omega.{arith}
use lib.ListN.{length-set}
use lib.Seq.{ext_get_or}
use Rattle.laws.specs.Upwards.{each}
use Rattle.laws.proofs.Upwards.{agrees_none, agrees_more, each_length}
use Rattle.sets.specs.Sets.{lowest}
use Rattle.run.specs.Keys.{group_of, key_name}
use Rattle.keying.proofs.Grouped.{group_among}
use Rattle.keying.proofs.keys.names.Goals as goal

-- the name of attribute k's key
abbrev at : List ℕ → ℕ → ℕ → ℕ
at tied sealed k = lowest 64 (group_among tied sealed k)

pub loop-k-init : goal.loop-k-init
loop-k-init c = (refl, agrees_none (λ before. at c.args.tied.now c.ever_sealed-sealed.result) 0 64)

pub loop-k-preserved : goal.loop-k-preserved
loop-k-preserved c =
    let s = c.ever_sealed-sealed.result in
    let b = c.loop-k in
    let e : c.from.result ≡ at c.args.tied.now s b.k = c.from.ensures ∙ (c.lowest.ensures ∙ ap (lowest 64) c.group_of.ensures) in
    (simp length-set b.invariant.0, agrees_more (λ before. at c.args.tied.now s) 0 b.k c.from.result b.all (omega arith) b.invariant.1 e)

pub returns : goal.returns
unfolding key_name group_of
returns c =
    let s = c.ever_sealed-sealed in
    let b = c.loop-k in
    let e : b.k ≡ 64 = omega arith in
    λ subjects opens. rw (← s.ensures subjects opens) (ext_get_or 0 b.all (each 64 (at c.args.tied.now s.result)) (b.invariant.0 ∙ sym (each_length (at c.args.tied.now s.result) 64)) (λ j l. rw e at (b.invariant.1 j)))
