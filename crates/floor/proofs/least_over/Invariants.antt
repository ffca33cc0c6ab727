-- `floor::least_over` meets its contract: no length up to the short one is enough, and the long one is.
-- Assumes nothing.
use mathlib.Core.Path.{◌≡◌}
use mathlib.Core.Bool.{true, false}
use Prim.Native.Nat.{ℕ, ◌-◌, ◌≤◌}
use Rattle.legal.specs.Loop.{Loop}
use Rattle.floor.specs.Tables.{PacedBy}
use Rattle.floor.specs.Least.{enough}
use Rattle.floor.proofs.least_over.Given as goal

abbrev pub invariant-loop-short : goal.invariant-loop-short
invariant-loop-short l =
    (l.short ≤ l.long) × (l.long ≤ 512) × (1 ≤ l.long)
    × ((g : Loop) → PacedBy g l.nodes l.edges l.costs → enough g l.known ≡ false → (enough g l.long ≡ true) × ((k : ℕ) → 1 ≤ k → k ≤ l.short → enough g k ≡ false))

abbrev pub decreases-loop-short : goal.decreases-loop-short
decreases-loop-short l = l.long - l.short
