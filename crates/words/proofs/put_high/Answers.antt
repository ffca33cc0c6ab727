-- `words::put_high` meets its contract: five places.
-- Assumes nothing.
use borrow.Author.Rules.{rules}
use Rattle.text.specs.PageLaws.{followed}
use Rattle.words.specs.Numbers.{high_text}
use Rattle.words.proofs.put_high.Goals as goal

pub returns : goal.returns
unfolding high_text
returns c = (search rules, followed _ _ _ _ _ c.put_place.ensures.1 (followed _ _ _ _ _ c.put_place-2.ensures.1 (followed _ _ _ _ _ c.put_place-3.ensures.1 (followed _ _ _ _ _ c.put_place-4.ensures.1 c.put_place-5.ensures.1))))
