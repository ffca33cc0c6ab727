-- `listing::put_refused` meets its contract: a field and the line's end.
-- Assumes nothing.
use native.Mathlib.Omega.{arith}
use Rattle.text.specs.PageLaws.{followed}
use Rattle.text.specs.Words.{refused_word}
use Rattle.listing.proofs.put_refused.Goals as goal

pub returns : goal.returns
unfolding refused_word
returns c = (omega (arith, c.field.ensures.0, c.byte.ensures.laid.ends), followed _ _ _ _ _ c.field.ensures.1 c.byte.ensures)
