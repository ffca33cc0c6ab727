-- `reach::spread` meets its contract: the edges out of the node from edge e on are late.
-- Assumes nothing.
use Prim.Native.Nat.{ℕ, ◌-◌, ◌≤◌}
use Rattle.legal.specs.Loop.{Loop}
use Rattle.reach.specs.Reached.{Marked}
use Rattle.reach.specs.Marking.{Queued, Marking, OutFrom}
use Rattle.reach.specs.Ways.{TightBy}
use Rattle.reach.proofs.Marks.{Halfway}
use Rattle.reach.proofs.spread.Given as goal

abbrev pub invariant-loop-e : goal.invariant-loop-e
invariant-loop-e l =
    (l.e ≤ l.ways.edges) × Queued l.marks l.queue l.end × (l.from ≤ l.end)
    × ((g : Loop) (r : ℕ → ℕ) (v f : ℕ) → TightBy g r l.ways → Marked l.initial.marks l.node → Marking g r v l.initial.marks l.initial.queue f l.from (OutFrom g l.node 0)
    → Halfway g r v l.node l.marks l.queue f l.end l.e)

abbrev pub decreases-loop-e : goal.decreases-loop-e
decreases-loop-e l = l.ways.edges - l.e
