-- What the subject sees is its entry of what all see.
use mathlib.Core.Path.{refl, ◌∙◌}
use native.Mathlib.Omega.{arith}
use Rattle.layout.specs.Held.{night_held}
use Rattle.format.specs.Layout.{night_in}
use Rattle.eligible.specs.Asked.{Sees}
use Rattle.eligible.proofs.Asked.{clear-at, sealed_at}
use Rattle.eligible.proofs.reasons.stands.Goals as goal

pub bounds-clear-subject : goal.bounds-clear-subject
unfolding night_in
bounds-clear-subject c = omega (arith, c.requires.2, c.requires.0.counts.subjects_most)

pub bounds-sealed-subject : goal.bounds-sealed-subject
unfolding night_in
bounds-sealed-subject c = omega (arith, c.requires.2, c.requires.0.counts.subjects_most)

pub returns : goal.returns
unfolding night_in
returns c =
    let N = night_held c.args.file in
    let most = c.requires.0.counts.subjects_most in
    let all : Sees N c.all_seen.result.0 c.all_seen.result.1 = record { in-clear = c.all_seen.ensures.0; in_sealed = c.all_seen.ensures.1 } in
    c.stands_by.ensures
    ∙ rw (clear-at N most _ _ all c.args.subject c.requires.2, sealed_at N most _ _ all c.args.subject c.requires.2) refl
