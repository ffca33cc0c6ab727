-- `cycle::next_edge` meets its contract. The loop's invariant: no edge passed leaves the node and gives the value.
-- Assumes nothing.
use Prim.Native.Nat.{ℕ, ◌<◌}
use Rattle.cycle.specs.Found.{wide_in, Left}
use Rattle.cycle.proofs.next_edge.Given as goal

abbrev pub invariant-loop-e : goal.invariant-loop-e
invariant-loop-e l = (i : ℕ) → i < l.e → Left (wide_in l.system) l.row l.node l.value i
