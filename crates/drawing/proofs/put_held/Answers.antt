-- `drawing::put_held` meets its contract: blanks, then the number in brackets.
-- Assumes nothing.
use native.Mathlib.Omega.{arith}
use Rattle.text.specs.PageLaws.{followed}
use Rattle.drawing.proofs.Laws.{right-put, held-left}
use Rattle.drawing.proofs.put_held.Goals as goal

pub returns : goal.returns
returns c = (
  omega (arith, c.digits_of.ensures, c.digits_of.ensures.2 c.requires.1, c.put_blanks.ensures.0, c.field.ensures.0, c.byte.ensures.laid.ends),
  right-put _ _ _ _ _ (held-left _ _ c.digits_of.ensures.0) c.put_blanks.ensures.1 (followed _ _ _ _ _ c.field.ensures.1 c.byte.ensures),
)
