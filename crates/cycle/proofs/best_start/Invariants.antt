-- `cycle::best_start` meets its contract. The loop's invariant: the start is the best of the nodes passed.
-- Assumes nothing.
use Prim.Native.Nat.{◌+◌, ◌≤◌}
use Rattle.cycle.specs.Found.{wide_in, BestSoFar}
use Rattle.cycle.proofs.best_start.Given as goal

abbrev pub invariant-loop-node : goal.invariant-loop-node
invariant-loop-node l =
    (l.limit ≤ l.system.nodes + 1) × BestSoFar (wide_in l.system) l.system.nodes l.node l.limit l.best
