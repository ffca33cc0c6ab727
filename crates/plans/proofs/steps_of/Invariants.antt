-- `plans::steps_of` meets its contract: the numbers passed are steps.
-- Assumes nothing.
use mathlib.Core.Path.{◌≡◌}
use Prim.Native.Nat.{◌≤◌}
use Rattle.plans.proofs.Steps.{stepped}
use Rattle.plans.proofs.steps_of.Given as goal

abbrev pub invariant-loop-v : goal.invariant-loop-v
invariant-loop-v l = (l.v ≤ 64) × (l.steps ≡ stepped l.start l.v)
