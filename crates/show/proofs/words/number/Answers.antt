-- The loop stops at the first byte that is no digit, or once the number is too high.
use Rattle.std.proofs.Common.{◌≡◌, length, arith, sym, refl, ◌∙◌}
use borrow.Author.Tests.{eqb-true, eqb-false}
use Rattle.laws.proofs.First.{first_none, first_more}
use Rattle.show.proofs.Decimal.{decimal_none, decimal_more, is_one, is_none, word_empty, word_broken, word_read, word_past}
use Rattle.show.proofs.words.number.Goals as goal
use Rattle.show.proofs.words.number.Goals.{Else-is_empty}

some : (c : Else-is_empty) → length c.args.word.now ≡ 0 → ⊥
some c = eqb-false _ _ (sym c.is_empty.ensures ∙ c.if-is_empty.false)

pub returns-then-is_empty : goal.returns-then-is_empty
returns-then-is_empty c = word_empty c.args.word.now (eqb-true _ _ (sym c.is_empty.ensures ∙ c.if-is_empty.true))

pub loop-digit-init : goal.loop-digit-init
loop-digit-init c = (omega arith, first_none _, sym (decimal_none _))

pub returns-then-not-is_ascii_digit : goal.returns-then-not-is_ascii_digit
returns-then-not-is_ascii_digit c =
    word_broken c.args.word.now c.loop-digit.digit-index c.loop-digit.invariant.1 (some (goal.at.returns-then-not-is_ascii_digit c).Else-is_empty)
    (omega arith) (is_none _ _ c.if-not-is_ascii_digit.ensures.cases)

pub returns-in_err-checked_mul : goal.returns-in_err-checked_mul
returns-in_err-checked_mul c =
    rw c.from_residual.ensures
    (word_past c.args.word.now c.loop-digit.digit-index c.loop-digit.number _ c.loop-digit.invariant.2
    (some (goal.at.returns-in_err-checked_mul c).Else-is_empty) (omega arith) refl (omega (arith, c.in_err-checked_mul.ensures)))

pub returns-in_err-number : goal.returns-in_err-number
returns-in_err-number c =
    rw c.from_residual-in_err-number.ensures
    (word_past c.args.word.now c.loop-digit.digit-index c.loop-digit.number _ c.loop-digit.invariant.2
    (some (goal.at.returns-in_err-number c).Else-is_empty) (omega arith) refl
    (omega (arith, c.in_ok-checked_mul.ensures, c.in_err-number.ensures, c.from.ensures)))

pub loop-digit-preserved : goal.loop-digit-preserved
loop-digit-preserved c =
    let word = c.args.word.now in
    let i = c.loop-digit.digit-index in
    let digit = c.if-not-is_ascii_digit.ensures.cases in
    let product = c.in_ok-checked_mul.ensures in
    let sum = c.in_ok-number.ensures in
    (omega arith, first_more _ i c.loop-digit.invariant.1 (is_one word i digit.0 digit.1), omega (arith, decimal_more word i, c.from.ensures))

pub returns : goal.returns
returns c =
    let i = c.loop-digit.digit-index in
    rw c.loop-digit.invariant.2
    (word_read c.args.word.now i c.loop-digit.invariant.1 (some (goal.at.returns c).Else-is_empty) (omega arith) (omega arith))
