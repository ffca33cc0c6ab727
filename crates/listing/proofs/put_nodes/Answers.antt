-- `listing::put_nodes` meets its contract: the loop's invariant is that the first nodes of the step are laid.
-- Assumes nothing.
use native.Mathlib.Omega.{arith}
use Rattle.listing.proofs.Laws.{nodes-none, node-more, nodes-whole}
use Rattle.listing.proofs.put_nodes.Goals as goal

pub loop-i-init : goal.loop-i-init
loop-i-init c = (omega arith, nodes-none _ _ _ _)

pub loop-i-preserved : goal.loop-i-preserved
loop-i-preserved c = (omega (arith, c.loop-i.invariant.0, c.put_node.ensures.0), node-more _ _ _ _ _ _ _ c.loop-i.invariant.1 c.put_node.ensures.1)

pub returns : goal.returns
returns c = (omega (arith, c.loop-i.invariant.0), nodes-whole _ _ _ _ _ _ _ c.loop-i.invariant.1 (omega arith))
