-- `drawing::put_right` meets its contract: blanks, then the number.
-- Assumes nothing.
use native.Mathlib.Omega.{arith}
use Rattle.drawing.proofs.Laws.{right-put, number-left}
use Rattle.drawing.proofs.put_right.Goals as goal

pub returns : goal.returns
returns c = (
  omega (arith, c.digits_of.ensures, c.put_blanks.ensures.0, c.number.ensures.1.laid.ends),
  right-put _ _ _ _ _ (number-left _ _ c.digits_of.ensures.0) c.put_blanks.ensures.1 c.number.ensures.1,
)
