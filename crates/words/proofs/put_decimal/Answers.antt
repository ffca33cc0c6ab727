-- `words::put_decimal` meets its contract: the high places, then the low ones.
-- Assumes nothing.
use borrow.Author.Rules.{rules}
use Rattle.text.specs.PageLaws.{followed}
use Rattle.words.specs.Numbers.{numeral}
use Rattle.words.proofs.put_decimal.Goals as goal

pub returns : goal.returns
unfolding numeral
returns c = (search rules, followed _ _ _ _ _ c.put_high.ensures.1 c.put_low.ensures.1)
