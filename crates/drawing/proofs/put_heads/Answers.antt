-- `drawing::put_heads` meets its contract: the loop's invariant is that the first heads are put.
-- Assumes nothing.
use native.Mathlib.Omega.{arith}
use Rattle.text.specs.PageLaws.{no-row, row-put, rows-put}
use Rattle.drawing.proofs.put_heads.Goals as goal

pub loop-c-init : goal.loop-c-init
loop-c-init c = (omega arith, no-row _ _)

pub put_head-requires : goal.put_head-requires
put_head-requires c = (omega (arith, c.loop-c.invariant.0, c.requires.1.few), c.requires.1.units _ c.loop-c-test.true)

pub loop-c-preserved : goal.loop-c-preserved
loop-c-preserved c = (omega (arith, c.loop-c.invariant.0, c.put_head.ensures.0), row-put _ _ _ _ _ c.loop-c.invariant.1 c.put_head.ensures.1)

pub returns : goal.returns
returns c = (omega (arith, c.loop-c.invariant.0), rows-put _ _ _ _ _ c.loop-c.invariant.1 (omega arith))
