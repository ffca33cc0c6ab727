-- `turning::gained` meets its contract: the retimings passed are raised where they should be.
-- Assumes nothing.
use mathlib.Core.Path.{◌≡◌}
use Prim.Native.Nat.{◌≤◌, ◌+◌}
use lib.Dec.{leb}
use lib.ListN.{get_or}
use Rattle.lists.specs.Pick.{pick}
use Rattle.lists.specs.Filled.{filled}
use Rattle.turning.proofs.gained.Given as goal

abbrev pub invariant-loop-v : goal.invariant-loop-v
invariant-loop-v l =
    (l.v ≤ l.nodes) × (l.raised ≡ filled 64 (λ u. get_or l.retiming u 0 + pick (leb (get_or l.start u 0) l.steps) 1 0) l.v)
