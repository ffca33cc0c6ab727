-- `words::put_two` meets its contract: one word with its number, then another.
-- Assumes nothing.
use borrow.Author.Rules.{rules}
use Rattle.text.specs.PageLaws.{followed}
use Rattle.words.specs.Refusals.{two_text}
use Rattle.words.proofs.put_two.Goals as goal

pub returns : goal.returns
unfolding two_text
returns c = (search rules, followed _ _ _ _ _ c.put_one.ensures.1 c.put_one-2.ensures.1)
