-- `drawing::retiming_size` meets its contract: nothing, or a byte and the digits.
-- Assumes nothing.
use native.Mathlib.Omega.{arith}
use Rattle.drawing.proofs.Laws.{tests, retiming-none, retiming-some}
use Rattle.drawing.proofs.retiming_size.Goals as goal

pub returns-then-retiming-eq0 : goal.returns-then-retiming-eq0
returns-then-retiming-eq0 c = (retiming-none _ (omega arith), omega arith)

pub returns : goal.returns
returns c = (retiming-some _ _ c.if-retiming-eq0.false c.digits_of.ensures.0, search tests)
