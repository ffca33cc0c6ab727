-- `text::Page::retiming` meets its contract: nothing, or "+" and a number.
-- Assumes nothing.
use native.Mathlib.Omega.{arith}
use Rattle.text.proofs.Laws.{retiming-none, retiming-some}
use Rattle.text.proofs.Page.retiming.Goals as goal

pub returns-then-none : goal.returns-then-none
returns-then-none c = (omega arith, retiming-none _ _ (omega (arith, c.if-none.true)))

pub returns : goal.returns
returns c = (
  omega (arith, c.byte.ensures.laid.ends, c.number.ensures.0),
  retiming-some _ _ _ _ _ (λ e. omega (arith, e, c.if-none.false)) (omega arith) c.byte.ensures c.number.ensures.1,
)
