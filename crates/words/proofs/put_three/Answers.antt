-- `words::put_three` meets its contract: two words with their numbers, then a third.
-- Assumes nothing.
use borrow.Author.Rules.{rules}
use Rattle.text.specs.PageLaws.{followed}
use Rattle.words.specs.Refusals.{three_text}
use Rattle.words.proofs.put_three.Goals as goal

pub returns : goal.returns
unfolding three_text
returns c = (search rules, followed _ _ _ _ _ c.put_two.ensures.1 c.put_one.ensures.1)
