-- `text::Page::number` meets its contract: one digit, two or three.
-- Assumes nothing.
use native.Mathlib.Omega.{arith}
use Rattle.text.proofs.Laws.{one-digit, two_digits, three-digits}
use Rattle.text.proofs.Page.number.Goals as goal

pub returns-then-number-lt10 : goal.returns-then-number-lt10
returns-then-number-lt10 c = (omega (arith, c.byte.ensures.laid.ends), one-digit _ _ _ _ c.if-number-lt10.true c.digit.ensures c.byte.ensures)

pub returns-then-few : goal.returns-then-few
returns-then-few c = (
  omega (arith, c.byte-then-few.ensures.laid.ends, c.byte-then-few-2.ensures.laid.ends),
  two_digits _ c.args.number _ _ _ _ c.if-number-lt10.false (omega (arith, c.if-few.true)) c.digit-then-few.ensures c.digit-then-few-2.ensures c.byte-then-few.ensures c.byte-then-few-2.ensures,
)

pub returns : goal.returns
returns c = (
  omega (arith, c.byte-2.ensures.laid.ends, c.byte-3.ensures.laid.ends, c.byte-4.ensures.laid.ends),
  three-digits _ c.args.number _ _ _ _ _ _ (omega (arith, c.if-few.false)) c.digit-2.ensures c.digit-3.ensures c.digit-4.ensures c.byte-2.ensures c.byte-3.ensures c.byte-4.ensures,
)
