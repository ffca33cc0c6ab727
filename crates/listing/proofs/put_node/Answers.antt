-- `listing::put_node` meets its contract: nothing, or a space, a number and a retiming.
-- Assumes nothing.
use native.Mathlib.Omega.{arith}
use Rattle.listing.proofs.Laws.{node-elsewhere, node-here}
use Rattle.listing.proofs.put_node.Goals as goal

pub returns-then-start-step : goal.returns-then-start-step
returns-then-start-step c = (omega arith, node-elsewhere _ _ _ _ _ c.if-start-step.true)

pub returns : goal.returns
returns c = (
  omega (arith, c.byte.ensures.laid.ends, c.number.ensures.0, c.retiming.ensures.0),
  node-here _ _ _ _ _ _ _ _ c.if-start-step.false c.byte.ensures c.number.ensures.1 c.retiming.ensures.1,
)
