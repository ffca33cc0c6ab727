-- `rules::node_spot` meets its contract: the start's spot, and step 1's where the operation runs over the end.
-- Assumes nothing.
use native.Mathlib.Omega.{arith}
use Rattle.rules.specs.Lowest.{node-inside, node_over}
use Rattle.rules.proofs.node_spot.Goals as goal

pub returns-then-end-last : goal.returns-then-end-last
returns-then-end-last c =
    node-inside _ _ _ _ _ _ _ _ _ c.lower_spot-lower.ensures (omega (arith, c.hold_of.ensures))

pub returns : goal.returns
returns c =
    node_over _ _ _ _ _ _ _ _ _ c.lower_spot-lower.ensures _ (omega (arith, c.hold_of.ensures)) c.lower_spot.ensures
