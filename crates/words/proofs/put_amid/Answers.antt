-- `words::put_amid` meets its contract: a word with a number, then a word.
-- Assumes nothing.
use borrow.Author.Rules.{rules}
use Rattle.text.specs.PageLaws.{followed}
use Rattle.words.proofs.put_amid.Goals as goal

pub returns : goal.returns
returns c = (search rules, followed _ _ _ _ _ c.put_one.ensures.1 c.word.ensures)
