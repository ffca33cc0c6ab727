-- `words::put_offset` meets its contract: a name, then the offset.
-- Assumes nothing.
use borrow.Author.Rules.{rules}
use Rattle.text.specs.PageLaws.{followed}
use Rattle.words.specs.Words.{field_word}
use Rattle.words.specs.Refusals.{offset_text, one_text}
use Rattle.words.proofs.put_offset.Goals as goal

pub returns : goal.returns
unfolding offset_text one_text field_word
returns c = (search rules, followed _ _ _ _ _ c.word.ensures c.put_one.ensures.1)
