-- `words::put_place` meets its contract: nothing, or one digit.
-- Assumes nothing.
use native.Mathlib.Omega.{arith}
use borrow.Author.Rules.{rules}
use Rattle.words.proofs.Laws.{no_digit, digit-put}
use Rattle.words.proofs.put_place.Goals as goal

pub returns-then-number-place : goal.returns-then-number-place
returns-then-number-place c = (search rules, no_digit _ _ _ c.if-number-place.true)

pub returns : goal.returns
returns c = (search rules, digit-put _ _ _ _ (omega arith) c.byte.ensures)
