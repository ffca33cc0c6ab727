-- `listing::put_line` meets its contract: nodes were put where the place has moved on.
-- Assumes nothing.
use native.Mathlib.Omega.{arith}
use Rattle.listing.specs.Lines.{step_line}
use Rattle.listing.proofs.Laws.{idle-line, some-line}
use Rattle.listing.proofs.put_line.Goals as goal

pub returns-then-page-past : goal.returns-then-page-past
unfolding step_line
returns-then-page-past c = (
  omega (arith, c.number.ensures.0, c.byte.ensures.laid.ends, c.put_nodes.ensures.0, c.word.ensures.laid.ends),
  idle-line _ _ _ _ _ _ c.number.ensures.1 c.byte.ensures c.put_nodes.ensures.1 _ c.if-page-past.true c.word.ensures,
)

pub returns : goal.returns
unfolding step_line
returns c = (
  omega (arith, c.number.ensures.0, c.byte.ensures.laid.ends, c.put_nodes.ensures.0, c.byte-2.ensures.laid.ends),
  some-line _ _ _ _ _ _ c.number.ensures.1 c.byte.ensures c.put_nodes.ensures.1 _ c.if-page-past.false c.byte-2.ensures,
)
