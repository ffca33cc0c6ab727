-- `reach::level` meets its contract: the nodes from place i on still wait.
-- Assumes nothing.
use Prim.Native.Nat.{ℕ, ◌≤◌}
use Rattle.legal.specs.Loop.{Loop}
use Rattle.reach.specs.Marking.{Queued, Marking, None}
use Rattle.reach.specs.Ways.{TightBy}
use Rattle.reach.proofs.level.Given as goal

abbrev pub invariant-loop-i : goal.invariant-loop-i
invariant-loop-i l =
    Queued l.marks l.queue l.end × (l.to ≤ l.end)
    × ((g : Loop) (r : ℕ → ℕ) (v : ℕ) → TightBy g r l.ways → Marking g r v l.initial.marks l.initial.queue l.from l.to None → Marking g r v l.marks l.queue l.i l.end None)
