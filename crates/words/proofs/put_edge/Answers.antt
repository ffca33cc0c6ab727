-- `words::put_edge` meets its contract: a space, then a number.
-- Assumes nothing.
use borrow.Author.Rules.{rules}
use Rattle.text.specs.PageLaws.{followed}
use Rattle.words.proofs.put_edge.Goals as goal

pub returns : goal.returns
returns c = (search rules, followed _ _ _ _ _ c.byte.ensures c.put_decimal.ensures.1)
