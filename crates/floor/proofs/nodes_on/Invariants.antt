-- `floor::nodes_on` meets its contract: the nodes passed are counted.
-- Assumes nothing.
use mathlib.Core.Path.{◌≡◌}
use Prim.Native.Nat.{◌≤◌}
use Rattle.floor.specs.Tables.{how_many}
use Rattle.floor.proofs.nodes_on.Given as goal

abbrev pub invariant-loop-v : goal.invariant-loop-v
invariant-loop-v l = (l.on ≤ l.v) × (l.on ≡ how_many l.runs l.class l.v)
