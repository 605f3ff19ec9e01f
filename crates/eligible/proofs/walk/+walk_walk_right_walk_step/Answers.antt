-- What is left at each is what the laws of the walk say of leaves and steps.
use Prim.Native.Nat.{◌<◌}
use mathlib.Core.Path.{◌≡◌, refl, sym, ap, ◌∙◌}
use mathlib.Core.Bool.{true}
use native.Mathlib.Omega.{arith}
use lib.ListN.{length}
use Rattle.layout.specs.Held.{night_held}
use Rattle.night.specs.Kinds.{uses_right}
use Rattle.format.specs.Layout.{night_in}
use Rattle.eligible.specs.Walk.{right_of}
use Rattle.eligible.proofs.Walks.{leaf_left, step_left, lower_left, lower_right, no_leaf, tied_long, one_or_two}
use Rattle.eligible.proofs.walk.+walk_walk_right_walk_step.Goals as goal

pub walk-offset_bounds-trail-c : goal.walk-offset_bounds-trail-c
unfolding night_in
walk-offset_bounds-trail-c t c = omega (arith, c.requires.1, c.requires.0.sound.counts.nodes_most)

pub walk-bounds-trail-c : goal.walk-bounds-trail-c
unfolding night_in
walk-bounds-trail-c t c = omega (arith, c.requires.1, c.requires.0.sound.counts.nodes_most)

pub walk-offset_bounds-trail-c-then-v-eq-LEAF : goal.walk-offset_bounds-trail-c-then-v-eq-LEAF
unfolding night_in
walk-offset_bounds-trail-c-then-v-eq-LEAF t c = omega (arith, c.requires.1, c.requires.0.sound.counts.nodes_most)

pub walk-bounds-trail-c-then-v-eq-LEAF : goal.walk-bounds-trail-c-then-v-eq-LEAF
unfolding night_in
walk-bounds-trail-c-then-v-eq-LEAF t c = omega (arith, c.requires.1, c.requires.0.sound.counts.nodes_most)

pub walk-returns-then-v-eq-LEAF : goal.walk-returns-then-v-eq-LEAF
unfolding night_in
walk-returns-then-v-eq-LEAF t c =
    let a = c.args in
    let w = c.requires.0 in
    leaf_left (night_held a.seen.now.file) w.sound a.seen.now.clear a.seen.now.sealed w.sees a.c c.requires.1
    c.node-v.ensures c.if-v-eq-LEAF.true c.requires.2
    c.leaf_columns.ensures c.relation.ensures c.single.ensures w.seals_long w.sets_long

pub walk_right-walk-r-requires : goal.walk_right-walk-r-requires
unfolding night_in
walk_right-walk-r-requires t c =
    let a = c.args in
    let w = c.requires.0 in
    let b : uses_right a.v.kind ≡ true = sym c.uses_right.ensures ∙ c.if-uses_right.true in
    let lower : a.v.right < a.i = lower_right (night_held a.seen.now.file) w.sound a.i c.requires.1 c.requires.2 b in (
      omega (arith, lower),
      (record { sound = w.sound; sees = w.sees; seals_long = w.seals_long; sets_long = w.sets_long }, omega (arith, c.requires.1, lower), refl),
    )

pub walk_step-walk-l-requires : goal.walk_step-walk-l-requires
unfolding night_in
walk_step-walk-l-requires t c =
    let a = c.args in
    let w = c.requires.0 in
    let lower : a.v.left < a.i = lower_left (night_held a.seen.now.file) w.sound a.i c.requires.1 c.requires.2 c.requires.3 in (
      omega (arith, lower),
      (record { sound = w.sound; sees = w.sees; seals_long = w.seals_long; sets_long = w.sets_long }, omega (arith, c.requires.1, lower), c.requires.4),
    )

pub walk_step-close-requires : goal.walk_step-close-requires
unfolding night_in
walk_step-close-requires t c =
    let a = c.args in
    let w = c.requires.0 in
    let N = night_held a.seen.now.file in
    let lower : a.v.left < a.i = lower_left N w.sound a.i c.requires.1 c.requires.2 c.requires.3 in
    let long = ap length c.walk-l.ensures.1 ∙ tied_long N w.sound a.seen.now.clear a.seen.now.sealed w.sees a.v.left (omega (arith, c.requires.1, lower)) in (
      w.sound.counts.subjects_most,
      omega (arith, c.requires.1, w.sound.counts.nodes_most),
      ap length c.walk_right-r.ensures.1 ∙ one_or_two (uses_right a.v.kind) _ (right_of N a.i).tied long,
    )

pub walk_step-returns : goal.walk_step-returns
unfolding night_in
walk_step-returns t c =
    let a = c.args in
    let w = c.requires.0 in
    step_left (night_held a.seen.now.file) w.sound a.seen.now.clear a.seen.now.sealed w.sees a.i c.requires.1
    (no_leaf (night_held a.seen.now.file) w.sound a.i c.requires.1 c.requires.2 c.requires.3) c.requires.2 c.walk-l.ensures.0 c.walk_right-r.ensures.0 (rw c.walk-l.ensures.1 at c.walk_right-r.ensures.1)
    c.walk-l.ensures.2 c.walk_right-r.ensures.2 c.close.ensures
