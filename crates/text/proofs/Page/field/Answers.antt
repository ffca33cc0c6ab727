-- `text::Page::field` meets its contract: a word, then a number.
-- Assumes nothing.
use native.Mathlib.Omega.{arith}
use Rattle.text.specs.PageLaws.{followed}
use Rattle.text.proofs.Page.field.Goals as goal

pub returns : goal.returns
returns c = (omega (arith, c.word.ensures.laid.ends, c.number.ensures.0), followed _ _ _ _ _ c.word.ensures c.number.ensures.1)
