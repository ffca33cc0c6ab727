-- `search::halve` meets its contract: what is left to halve ends where the whole does.
-- Assumes nothing.
use mathlib.Core.Path.{◌≡◌}
use Prim.Native.Nat.{◌<◌}
use Rattle.search.specs.Search.{halved}
use Rattle.search.proofs.halve.Given as goal

abbrev pub invariant-loop-steps : goal.invariant-loop-steps
invariant-loop-steps l = (l.steps < 65536) × (halved 17 l.length l.steps ≡ halved 17 l.length l.size)

abbrev pub decreases-loop-steps : goal.decreases-loop-steps
decreases-loop-steps l = l.steps
