-- `words::put_cycle` meets its contract: a word, then the edges.
-- Assumes nothing.
use borrow.Author.Rules.{rules}
use Rattle.text.specs.PageLaws.{followed}
use Rattle.words.specs.Refusals.{cycle_text}
use Rattle.words.proofs.put_cycle.Goals as goal

pub returns : goal.returns
unfolding cycle_text
returns c = (search rules, followed _ _ _ _ _ c.word.ensures c.put_edges.ensures.1)
