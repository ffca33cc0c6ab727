-- `words::put_one` meets its contract: a word, then a number.
-- Assumes nothing.
use borrow.Author.Rules.{rules}
use Rattle.text.specs.PageLaws.{followed}
use Rattle.words.specs.Refusals.{one_text}
use Rattle.words.proofs.put_one.Goals as goal

pub returns : goal.returns
unfolding one_text
returns c = (search rules, followed _ _ _ _ _ c.word.ensures c.put_decimal.ensures.1)
