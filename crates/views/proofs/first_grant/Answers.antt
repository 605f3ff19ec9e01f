-- Up to the next grant for the pair there is none; it is the one where it shares a day, and the search goes on behind it where not.
use Prim.Native.Nat.{ℕ}
use mathlib.Core.Path.{◌≡◌, sym, ap, ◌∙◌}
use mathlib.Core.Bool.{Bool, true, false}
use mathlib.Core.List.{List}
use native.Mathlib.Omega.{arith}
use Rattle.laws.proofs.First.{first_none, first_more, first_found, first_all}
use Rattle.night.specs.declared.Grant.{Grant}
use Rattle.night.specs.declared.Header.{Header}
use Rattle.night.specs.Night.{grant_of}
use Rattle.night.specs.Views.{shares_day, is_for_on}
use Rattle.format.specs.Layout.{night_in}
use Rattle.views.proofs.Next.{upto_next, at_next}
use Rattle.views.proofs.first_grant.Goals as goal

abbrev grants : List ℕ → Header → ℕ → Grant
grants s h = grant_of (night_in s h)

-- grant k is for the pair, on some of the days
abbrev test : List ℕ → Header → ℕ → ℕ → ℕ → ℕ → ℕ → Bool
test s h r p from to k = is_for_on (grants s h k) r p from to

pub loop-at-init : goal.loop-at-init
loop-at-init c = (omega arith, first_none _)

pub returns-then-n-j : goal.returns-then-n-j
returns-then-n-j c =
    let next = c.next_grant-j.ensures in
    let here = upto_next (grants c.args.file.now.bytes.now c.args.file.now.header) c.args.r c.args.p c.args.from c.args.to c.loop-at.at c.args.n c.next_grant-j.result c.loop-at.invariant.1 next in
    sym (first_all (test c.args.file.now.bytes.now c.args.file.now.header c.args.r c.args.p c.args.from c.args.to) c.next_grant-j.result c.args.n here (omega (arith, next.within)))

pub returns-then-shares_day : goal.returns-then-shares_day
returns-then-shares_day c =
    let next = c.next_grant-j.ensures in
    let j = c.next_grant-j.result in
    let g = grants c.args.file.now.bytes.now c.args.file.now.header in
    let here = upto_next g c.args.r c.args.p c.args.from c.args.to c.loop-at.at c.args.n j c.loop-at.invariant.1 next in
    let shares : shares_day (g j) c.args.from c.args.to ≡ true =
    ap (λ (x : Grant). shares_day x c.args.from c.args.to) (sym c.grant.ensures) ∙ sym c.shares_day.ensures ∙ c.if-shares_day.true in
    sym (first_found (test c.args.file.now.bytes.now c.args.file.now.header c.args.r c.args.p c.args.from c.args.to) j c.args.n here (at_next g c.args.r c.args.p c.args.from c.args.to c.loop-at.at c.args.n j next (omega arith) ∙ shares) (omega arith))

pub loop-at-preserved : goal.loop-at-preserved
loop-at-preserved c =
    let next = c.next_grant-j.ensures in
    let j = c.next_grant-j.result in
    let g = grants c.args.file.now.bytes.now c.args.file.now.header in
    let here = upto_next g c.args.r c.args.p c.args.from c.args.to c.loop-at.at c.args.n j c.loop-at.invariant.1 next in
    let apart : shares_day (g j) c.args.from c.args.to ≡ false =
    ap (λ (x : Grant). shares_day x c.args.from c.args.to) (sym c.grant.ensures) ∙ sym c.shares_day.ensures ∙ c.if-shares_day.false in
    (omega arith, first_more (test c.args.file.now.bytes.now c.args.file.now.header c.args.r c.args.p c.args.from c.args.to) j here (at_next g c.args.r c.args.p c.args.from c.args.to c.loop-at.at c.args.n j next (omega arith) ∙ apart))
