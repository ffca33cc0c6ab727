-- `words::put_edges` meets its contract: the rows of the edges before i are put.
-- Assumes nothing.
use native.Mathlib.Omega.{arith}
use Rattle.text.specs.PageLaws.{no-row, row-put}
use Rattle.words.specs.Refusals.{edge_text}
use Rattle.words.proofs.Laws.{edges-whole}
use Rattle.words.proofs.put_edges.Goals as goal

pub loop-i-init : goal.loop-i-init
loop-i-init c = (omega arith, no-row _ _)

pub loop-i-preserved : goal.loop-i-preserved
unfolding edge_text
loop-i-preserved c = (omega (arith, c.loop-i.invariant.0, c.put_edge.ensures.0), row-put _ _ _ _ _ c.loop-i.invariant.1 c.put_edge.ensures.1)

pub returns : goal.returns
returns c = (omega (arith, c.loop-i.invariant.0), edges-whole _ _ _ _ c.loop-i.invariant.1 (omega arith))
