-- `rules::broken_edge` meets its contract: the first broken edge of those that are left is the first of all.
-- Assumes nothing.
use mathlib.Core.Path.{◌≡◌}
use Prim.Native.Nat.{◌-◌}
use Rattle.lists.specs.First.{first_from}
use Rattle.legal.specs.Loop.{Loop, Pair}
use Rattle.legal.specs.Judging.{breaks, broken_edge}
use Rattle.tables.specs.Edges.{ToldBy}
use Rattle.tables.specs.Times.{Timed}
use Rattle.rules.proofs.broken_edge.Given as goal

abbrev pub invariant-loop-e : goal.invariant-loop-e
invariant-loop-e l =
    (g : Loop) (p : Pair) → ToldBy g l.times.nodes l.edges → Timed g p l.times → first_from (breaks g p) (l.edges.count - l.e) l.e ≡ broken_edge g p
