-- `rules::crowded` meets its contract: the lowest that the nodes passed enter is kept, and the lowest of all is the lowest there is.
-- Assumes nothing.
use Rattle.legal.specs.Loop.{Loop, Pair}
use Rattle.tables.specs.Times.{Timed}
use Rattle.rules.specs.Busy.{Seated}
use Rattle.rules.specs.Crowded.{Entered}
use Rattle.rules.specs.Lowest.{Lowest}
use Rattle.rules.proofs.crowded.Given as goal

abbrev pub invariant-loop-v : goal.invariant-loop-v
invariant-loop-v l = (g : Loop) (p : Pair) → Timed g p l.times → Seated g p → Lowest g p (Entered g p l.v) l.lowest
