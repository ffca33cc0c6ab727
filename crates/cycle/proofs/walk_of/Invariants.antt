-- `cycle::walk_of` meets its contract. The loop's invariant: the edges so far lead from the start to the node, and a walk
-- of the edges still to come leads back and is worth the value.
-- Assumes nothing.
use mathlib.Core.Path.{◌≡◌}
use Prim.Native.Nat.{◌≤◌, ◌-◌}
use lib.ListN.{length}
use Rattle.cycle.specs.Walked.{Walked}
use Rattle.cycle.specs.Row.{roof}
use Rattle.cycle.specs.Found.{wide_in}
use Rattle.cycle.proofs.walk_of.Given as goal

abbrev pub invariant-loop-i : goal.invariant-loop-i
invariant-loop-i l =
    (length l.edges ≡ 64) × (l.value ≤ roof) × Walked (wide_in l.system) l.start.node (l.start.count - l.i) l.i l.edges l.node l.value
