-- `issue::late_edge` meets its contract: the first late edge from the walk's edge on is the first of all.
-- Assumes nothing.
use mathlib.Core.Path.{◌≡◌}
use mathlib.Core.List.{List}
use Prim.Native.Nat.{ℕ, ◌-◌, ◌≤◌}
use Rattle.form.specs.declared.Operation.{Operation}
use Rattle.legal.specs.Loop.{Loop, Pair}
use Rattle.operands.specs.Tables.{TellsIn, FollowsIn}
use Rattle.issue.specs.Late.{Seeking}
use Rattle.machine.specs.Run.{iteration as iterationIn}
use Rattle.issue.proofs.late_edge.Given as goal

abbrev pub invariant-loop-e : goal.invariant-loop-e
invariant-loop-e l =
    (l.e ≤ l.inputs.edges)
    × ((g : Loop) (p : Pair) (starts : List ℕ) (k v : ℕ) (o : Operation) → TellsIn g l.inputs → FollowsIn g v o l.first l.inputs → iterationIn g p starts k l.step.0 v ≡ l.iteration.0
    → Seeking g p starts k l.finish l.step.0 v l.e)

abbrev pub decreases-loop-e : goal.decreases-loop-e
decreases-loop-e l = l.inputs.edges - l.e
