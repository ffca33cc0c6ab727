-- `operands::value_of` meets its contract: the operands that are left finish the whole.
-- Assumes nothing.
use Prim.Native.Nat.{ℕ, ◌-◌, ◌≤◌}
use Rattle.legal.specs.Loop.{Loop}
use Rattle.machine.specs.Values.{buffer}
use Rattle.operands.specs.Tables.{TellsIn, FollowsIn}
use Rattle.operands.proofs.Laws.{Walking}
use Rattle.operands.proofs.value_of.Given as goal

abbrev pub invariant-loop-e : goal.invariant-loop-e
invariant-loop-e l =
    (l.e ≤ l.inputs.edges)
    × ((g : Loop) (v : ℕ) → TellsIn g l.inputs → FollowsIn g v l.operation l.first l.inputs → Walking g v l.operation l.starts (buffer g l.starts l.values) l.iteration.0 l.e l.total)

abbrev pub decreases-loop-e : goal.decreases-loop-e
decreases-loop-e l = l.inputs.edges - l.e
