-- `cycle::fewest_at` meets its contract. The loop's invariant: the row is the one of k - 1 edges, and no closed walk of
-- fewer than k edges through the node loses.
-- Assumes nothing.
use Prim.Native.Nat.{◌-◌}
use Rattle.cycle.specs.Row.{Row}
use Rattle.cycle.specs.Found.{wide_in, NoneBelow}
use Rattle.cycle.proofs.fewest_at.Given as goal

abbrev pub invariant-loop-k : goal.invariant-loop-k
invariant-loop-k l = Row (wide_in l.system) l.node (l.k - 1) l.row × NoneBelow (wide_in l.system) l.node l.k
