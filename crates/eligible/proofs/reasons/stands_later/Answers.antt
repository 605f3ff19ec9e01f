-- The right operand puts the subject out, or else the result over both stands as the walk leaves it.
use mathlib.Core.Path.{◌≡◌, ap, ◌∙◌}
use native.Mathlib.Omega.{arith}
use Prim.Native.Nat.{ℕ}
use mathlib.Core.Bool.{false}
use mathlib.Core.List.{List}
use lib.ListN.{length}
use Rattle.layout.specs.Held.{night_held}
use Rattle.night.specs.declared.Node.{Node}
use Rattle.night.specs.Night.{Night, node_of}
use Rattle.night.specs.Kinds.{uses_right}
use Rattle.format.specs.Layout.{night_in}
use Rattle.model.specs.Tables.{table_of}
use Rattle.verdicts.specs.Refusals.{no_step}
use Rattle.eligible.specs.Walk.{right_of, Walking}
use Rattle.eligible.proofs.Walks.{closed, tied_long, one_or_two}
use Rattle.eligible.proofs.Questions.{asked_step, asked_operands, out_right, by_result}
use Rattle.eligible.proofs.reasons.stands_later.Goals as goal

-- the left operand's tied sets are 64 entries
left_long : (N : Night) (clear sealed seals sets tied : List ℕ) (i : ℕ) (v : Node) → Walking N clear sealed seals sets → no_step N i ≡ false → v ≡ node_of N i
    → tied ≡ (table_of N v.left).tied → length tied ≡ 64
left_long N clear sealed seals sets tied i v w step is e = ap length e ∙ tied_long N w.sound clear sealed w.sees v.left (asked_operands N w.sound i step is).0

pub stands_right-r-requires : goal.stands_right-r-requires
unfolding night_in
stands_right-r-requires c =
    (c.requires.0, c.requires.1, c.requires.2, left_long (night_held c.args.seen.now.file) c.args.seen.now.clear c.args.seen.now.sealed _ _ c.args.tied.now c.args.i c.args.v c.requires.0 c.requires.1 c.requires.2 c.requires.4)

pub returns-in_default : goal.returns-in_default
unfolding night_in
returns-in_default c =
    out_right (night_held c.args.seen.now.file) c.args.i c.args.sees.clear c.args.sees.sealed c.requires.2 _ c.requires.5
    c.stands_right-r.ensures.2 c.in_default.is

pub close-made-requires : goal.close-made-requires
unfolding night_in
close-made-requires c =
    let N = night_held c.args.seen.now.file in
    let w = c.requires.0 in (
      w.sound.counts.subjects_most,
      omega (arith, (asked_step N c.args.i c.requires.1).0, w.sound.counts.nodes_most),
      ap length c.stands_right-r.ensures.1 ∙ one_or_two (uses_right c.args.v.kind) _ (right_of N c.args.i).tied (left_long (night_held c.args.seen.now.file) c.args.seen.now.clear c.args.seen.now.sealed _ _ c.args.tied.now c.args.i c.args.v c.requires.0 c.requires.1 c.requires.2 c.requires.4),
    )

pub returns : goal.returns
unfolding night_in
returns c =
    let N = night_held c.args.seen.now.file in
    let w = c.requires.0 in
    let there = asked_step N c.args.i c.requires.1 in
    let made =
    closed N w.sound c.args.seen.now.clear c.args.seen.now.sealed w.sees c.args.i there.0 there.1 c.requires.2 (rw c.requires.2 at c.requires.3)
    c.stands_right-r.ensures.0 (rw (c.requires.4, c.requires.2) at c.stands_right-r.ensures.1) c.close-made.ensures
    in
    by_result N c.args.i c.args.sees.clear c.args.sees.sealed c.requires.2 c.requires.5 c.stands_right-r.ensures.2 c.in-None.is made.0 made.1
    c.standing_by.ensures
