-- `drawing::put_start` meets its contract: blanks, the number, the retiming.
-- Assumes nothing.
use native.Mathlib.Omega.{arith}
use Rattle.text.specs.PageLaws.{followed}
use Rattle.drawing.proofs.Laws.{right-put, start_left}
use Rattle.drawing.proofs.put_start.Goals as goal

pub returns : goal.returns
returns c = (
  omega (arith, c.digits_of.ensures, c.digits_of.ensures.2 c.requires.1, c.retiming_size.ensures, c.put_blanks.ensures.0, c.number.ensures.1.laid.ends, c.retiming.ensures.1.laid.ends),
  right-put _ _ _ _ _ (start_left _ _ _ _ c.digits_of.ensures.0 c.retiming_size.ensures.0) c.put_blanks.ensures.1 (followed _ _ _ _ _ c.number.ensures.1 c.retiming.ensures.1),
)
