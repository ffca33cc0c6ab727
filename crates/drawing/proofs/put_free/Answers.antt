-- `drawing::put_free` meets its contract: the loop's invariant is that the first places are put.
-- Assumes nothing.
use native.Mathlib.Omega.{arith}
use Rattle.text.specs.PageLaws.{no-row, row-put, rows-put}
use Rattle.drawing.specs.Words.{free_word}
use Rattle.drawing.proofs.put_free.Goals as goal

pub loop-i-init : goal.loop-i-init
loop-i-init c = (omega arith, no-row _ _)

pub loop-i-preserved : goal.loop-i-preserved
unfolding free_word
loop-i-preserved c = (omega (arith, c.loop-i.invariant.0, c.word.ensures.laid.ends), row-put _ _ _ _ _ c.loop-i.invariant.1 c.word.ensures)

pub returns : goal.returns
returns c = (omega (arith, c.loop-i.invariant.0), rows-put _ _ _ _ _ c.loop-i.invariant.1 (omega arith))
