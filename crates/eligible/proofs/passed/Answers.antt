-- The rooms that the walk leaves, whole.
use mathlib.Core.Path.{refl, ap}
use native.Mathlib.Omega.{arith}
use lib.ListN.{replicate}
use Rattle.format.specs.Layout.{night_in}
use Rattle.model.specs.Dp.{subjects_of}
use Rattle.eligible.specs.declared.walk.Walked.{Walked}
use Rattle.eligible.specs.Walk.{clear_at}
use Rattle.eligible.proofs.Passes.{subjects_past, room_whole, clear_past, root_open}
use Rattle.eligible.proofs.passed.Goals as goal

pub overflow_sub-root : goal.overflow_sub-root
unfolding night_in
overflow_sub-root c = c.requires.counts.nodes_some

pub walk-top-requires : goal.walk-top-requires
unfolding night_in
walk-top-requires c = (
  record { sound = c.requires; sees = record { in-clear = c.all_seen.ensures.0; in_sealed = c.all_seen.ensures.1 }; seals_long = refl; sets_long = refl },
  omega (arith, c.requires.counts.nodes_some),
  refl,
)

pub bounds-trail-root : goal.bounds-trail-root
unfolding night_in
bounds-trail-root c = omega (arith, c.requires.counts.nodes_most)

pub returns : goal.returns
unfolding night_in
returns c =
    let s = c.args.file.bytes.now in
    let h = c.args.file.header in
    let N = night_in s h in
    let w = c.walk-top.ensures in
    let past = subjects_past s h c.relation.result c.relation.ensures c.single.result c.single.ensures in (
      refl,
      room_whole N c.requires (subjects_of N) (replicate 64 c.single.result) _ past w.2.subjects,
      c.all_seen.ensures.0,
      record {
        seals_all = root_open N c.requires _ (room_whole N c.requires (clear_at N) (replicate 64 0) _ (clear_past N c.requires) w.2.in-clear);
        root_ties = w.1;
        root_sealed = ap (λ (x : Walked). x.columns.sealed) w.0;
      },
    )
