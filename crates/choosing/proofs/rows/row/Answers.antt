-- The array is the row so far, with nothing after it. Only a subject that may do the node has an entry.
use native.Mathlib.Omega.{arith}
use mathlib.Core.Bool.{true}
use mathlib.Core.Path.{◌≡◌, refl, sym, ◌∙◌}
use lib.ListN.{length-set}
use lib.Seq.{ext_get_or}
use Rattle.layout.specs.Held.{night_held}
use Rattle.format.specs.Layout.{night_in}
use Rattle.laws.specs.Upwards.{each}
use Rattle.laws.proofs.Cases.{yes_is, no_is}
use Rattle.laws.proofs.Upwards.{agrees_none, agrees_more, each_length}
use Rattle.sets.specs.Sets.{member}
use Rattle.sets.proofs.Members.{member_in}
use Rattle.model.specs.Dp.{subjects_of, row_step}
use Rattle.model.proofs.CostRows.{subject-there}
use Rattle.choosing.specs.Held.{entry_at}
use Rattle.choosing.proofs.Sets.{set_at}
use Rattle.choosing.proofs.Held.{entry_none}
use Rattle.choosing.proofs.rows.row.Goals as goal
use Rattle.choosing.proofs.rows.row.Goals.{then-has, else-has}

pub loop-s-init : goal.loop-s-init
loop-s-init c = (refl, agrees_none (λ before. entry_at (night_held c.args.who.now.file) c.args.i) 0 16)

pub row_entry-requires : goal.row_entry-requires
unfolding night_in
row_entry-requires c =
    let N = night_held c.args.who.now.file in
    let r = c.requires.0 in
    let e : member (subjects_of N c.args.i) c.loop-s.s ≡ true =
    rw (← set_at N _ c.args.i r.has (omega (arith, c.requires.1, r.sound.counts.nodes_most))) (sym c.has.ensures ∙ c.if-has.true)
    in
    (r, c.requires.1, c.requires.2, subject-there N r.sound c.args.i c.requires.1 c.loop-s.s (member_in _ _ e))

pub loop-s-preserved : goal.loop-s-preserved
unfolding night_in
loop-s-preserved c =
    let N = night_held c.args.who.now.file in
    let r = c.requires.0 in
    let b = c.loop-s in
    let f = entry_at N c.args.i in
    let here : member (subjects_of N c.args.i) b.s ≡ c.has.result =
    rw (← set_at N _ c.args.i r.has (omega (arith, c.requires.1, r.sound.counts.nodes_most))) (sym c.has.ensures)
    in
    elim c.if-has.branch [
      | then-has w ↦ rw w.made-is (simp length-set b.invariant.0, agrees_more (λ before. f) 0 b.s w.row_entry.result b.made (omega arith) b.invariant.1 (yes_is _ _ _ _ (here ∙ w.if-has.true) w.row_entry.ensures))
      | else-has w ↦ rw w.made-is (b.invariant.0, entry_none f b.s b.made b.invariant.1 (sym (no_is _ _ _ _ (here ∙ w.if-has.false) refl)))
    ]

pub returns : goal.returns
unfolding row_step
returns c =
    let b = c.loop-s in
    let f = entry_at (night_held c.args.who.now.file) c.args.i in
    let e : b.s ≡ 16 = omega arith in
    ext_get_or 0 b.made (each 16 f) (b.invariant.0 ∙ sym (each_length f 16)) (λ j l. rw e at (b.invariant.1 j))
