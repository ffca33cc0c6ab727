-- `reach::reach` ends: the levels that are left fall.
-- Assumes nothing.
use Rattle.reach.proofs.+reach.Given as goal

abbrev pub decreases-reach : goal.decreases-reach
decreases-reach l = l.left
