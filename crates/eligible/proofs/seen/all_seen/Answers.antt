-- Each turn takes one grant up; after the last what is held is what the views say.
use Prim.Native.Nat.{ℕ, ◌<◌}
use mathlib.Core.Path.{◌≡◌, refl, sym, ap, ◌∙◌}
use native.Mathlib.Omega.{arith}
use Rattle.laws.specs.Upwards.{each}
use Rattle.sets.specs.Sets.{single}
use Rattle.night.specs.declared.Grant.{Grant}
use Rattle.night.specs.Night.{Night, grant_of}
use Rattle.night.specs.Promised.{Promised}
use Rattle.night.specs.Views.{clear_on, sealed_on}
use Rattle.format.specs.Layout.{night_in}
use Rattle.layout.specs.Held.{night_held}
use Rattle.eligible.specs.Seen.{place, when_in, seen_from}
use Rattle.eligible.proofs.SeenHeld.{held_none, held_turn, held_kept}
use Rattle.eligible.proofs.SeenOnce.{place_low, relation_low, each_whole}
use Rattle.eligible.proofs.seen.all_seen.Goals as goal
use Rattle.eligible.proofs.seen.all_seen.Goals.{then-in_force, else-in_force}

-- the grant's place is within its array, and so is its relation
place_there : (N : Night) → Promised N → (i : ℕ) → i < N.header.grants → (g : Grant) (at : ℕ) → g ≡ grant_of N i → at ≡ place g → at < 32
place_there N sound i l g at read stands = rw (stands ∙ ap place read) (place_low N sound N.header.day i l)

relation_there : (N : Night) → Promised N → (i : ℕ) → i < N.header.grants → (g : Grant) → g ≡ grant_of N i → g.relation < 16
relation_there N sound i l g read = rw read (relation_low N sound N.header.day i l)

pub loop-i-init : goal.loop-i-init
loop-i-init c = (held_none _ _ _ 32, held_none _ _ _ 32, held_none _ _ _ 16)

pub offset_bounds-clear-at : goal.offset_bounds-clear-at
unfolding night_in
offset_bounds-clear-at c = omega (arith, place_there (night_held c.args.file.now) c.requires c.loop-i.i (omega arith) _ _ c.grant-g.ensures c.place-at.ensures)

pub bounds-clear-at : goal.bounds-clear-at
unfolding night_in
bounds-clear-at c = place_there (night_held c.args.file.now) c.requires c.loop-i.i (omega arith) _ _ c.grant-g.ensures c.place-at.ensures

pub offset_bounds-clear-at-then-in_force : goal.offset_bounds-clear-at-then-in_force
unfolding night_in
offset_bounds-clear-at-then-in_force c = omega (arith, place_there (night_held c.args.file.now) c.requires c.loop-i.i (omega arith) _ _ c.grant-g.ensures c.place-at.ensures)

pub bounds-clear-at-then-in_force : goal.bounds-clear-at-then-in_force
unfolding night_in
bounds-clear-at-then-in_force c = place_there (night_held c.args.file.now) c.requires c.loop-i.i (omega arith) _ _ c.grant-g.ensures c.place-at.ensures

pub offset_bounds-sealed-at : goal.offset_bounds-sealed-at
unfolding night_in
offset_bounds-sealed-at c = omega (arith, place_there (night_held c.args.file.now) c.requires c.loop-i.i (omega arith) _ _ c.grant-g.ensures c.place-at.ensures)

pub bounds-sealed-at : goal.bounds-sealed-at
unfolding night_in
bounds-sealed-at c = place_there (night_held c.args.file.now) c.requires c.loop-i.i (omega arith) _ _ c.grant-g.ensures c.place-at.ensures

pub offset_bounds-sealed-at-then-in_force : goal.offset_bounds-sealed-at-then-in_force
unfolding night_in
offset_bounds-sealed-at-then-in_force c = omega (arith, place_there (night_held c.args.file.now) c.requires c.loop-i.i (omega arith) _ _ c.grant-g.ensures c.place-at.ensures)

pub bounds-sealed-at-then-in_force : goal.bounds-sealed-at-then-in_force
unfolding night_in
bounds-sealed-at-then-in_force c = place_there (night_held c.args.file.now) c.requires c.loop-i.i (omega arith) _ _ c.grant-g.ensures c.place-at.ensures

pub bounds-own-r : goal.bounds-own-r
unfolding night_in
bounds-own-r c = relation_there (night_held c.args.file.now) c.requires c.loop-i.i (omega arith) _ c.grant-g.ensures

pub bounds-own-r-then-in_force : goal.bounds-own-r-then-in_force
unfolding night_in
bounds-own-r-then-in_force c = relation_there (night_held c.args.file.now) c.requires c.loop-i.i (omega arith) _ c.grant-g.ensures

pub loop-i-preserved : goal.loop-i-preserved
unfolding night_in
loop-i-preserved c =
    let N = night_held c.args.file.now in
    let day = c.args.file.now.header.day in
    let b = c.loop-i in
    let read = c.grant-g.ensures in
    let g = c.grant-g.result in
    elim c.if-in_force.branch [
      | then-in_force w ↦
          let force = sym c.in_force.ensures ∙ w.if-in_force.true in
          let at = place_there N c.requires b.i (omega arith) _ _ read w.place-at.ensures in
          rw (w.clear-is, w.sealed-is, w.own-is) (
            held_turn place (when_in day (λ g. g.clear)) N 32 b.i b.clear read w.place-at.ensures at b.invariant.0 (rw force refl) w.union.ensures,
            held_turn place (when_in day (λ g. g.sealed)) N 32 b.i b.sealed read w.place-at.ensures at b.invariant.1 (rw force refl) w.union-then-in_force.ensures,
            held_turn (λ g. g.relation) (when_in day (λ g. single 16 g.subject)) N 16 b.i b.own read refl
                (relation_there N c.requires b.i (omega arith) _ read) b.invariant.2 (rw force w.single.ensures) w.union-then-in_force-2.ensures,
          )
      | else-in_force w ↦
          let force = sym c.in_force.ensures ∙ w.if-in_force.false in
          rw (w.clear-is, w.sealed-is, w.own-is) (
            held_kept place (when_in day (λ g. g.clear)) N 32 b.i b.clear read b.invariant.0 (rw force refl) refl,
            held_kept place (when_in day (λ g. g.sealed)) N 32 b.i b.sealed read b.invariant.1 (rw force refl) refl,
            held_kept (λ g. g.relation) (when_in day (λ g. single 16 g.subject)) N 16 b.i b.own read b.invariant.2 (rw force refl) refl,
          )
    ]

pub returns : goal.returns
unfolding clear_on sealed_on night_in
returns c =
    let N = night_held c.args.file.now in
    let b = c.loop-i in
    let e : b.i ≡ c.args.file.now.header.grants = omega arith in
    let clear = rw e at b.invariant.0 in
    let sealed = rw e at b.invariant.1 in
    let own = rw e at b.invariant.2 in (
      c.each_seen.ensures ∙ (λ k. each 16 (seen_from (clear k) (own k))) ∙ each_whole N c.requires c.args.file.now.header.day (λ v. v.clear) refl,
      c.each_seen-2.ensures ∙ (λ k. each 16 (seen_from (sealed k) (own k))) ∙ each_whole N c.requires c.args.file.now.header.day (λ v. v.sealed) refl,
    )
