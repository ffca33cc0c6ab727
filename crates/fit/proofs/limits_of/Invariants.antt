-- `fit::limits_of` meets its contract: the places passed are filled.
-- Assumes nothing.
use mathlib.Core.Path.{◌≡◌}
use lib.ListN.{length}
use Rattle.legal.specs.Loop.{Loop, Pair}
use Rattle.tables.specs.Edges.{ToldBy}
use Rattle.tables.specs.Times.{Timed}
use Rattle.fit.specs.Tables.{Limited}
use Rattle.fit.proofs.limits_of.Given as goal

abbrev pub invariant-loop-e : goal.invariant-loop-e
invariant-loop-e l = (length l.gains ≡ 256) × (length l.costs ≡ 256) × ((g : Loop) (p : Pair) → ToldBy g l.times.nodes l.edges → Timed g p l.times → Limited g p l.e l.gains l.costs)
