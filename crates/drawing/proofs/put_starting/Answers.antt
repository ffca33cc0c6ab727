-- `drawing::put_starting` meets its contract: the loop's invariant is that the first nodes are put.
-- Assumes nothing.
use native.Mathlib.Omega.{arith}
use Rattle.text.specs.PageLaws.{no-row, row-put, rows-put}
use Rattle.drawing.proofs.put_starting.Goals as goal

pub loop-i-init : goal.loop-i-init
loop-i-init c = (omega arith, no-row _ _)

pub loop-i-preserved : goal.loop-i-preserved
loop-i-preserved c = (omega (arith, c.loop-i.invariant.0, c.put_starter.ensures.0), row-put _ _ _ _ _ c.loop-i.invariant.1 c.put_starter.ensures.1)

pub returns : goal.returns
returns c = (omega (arith, c.loop-i.invariant.0), rows-put _ _ _ _ _ c.loop-i.invariant.1 (omega arith))
