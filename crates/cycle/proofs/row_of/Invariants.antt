-- `cycle::row_of` meets its contract. The loop's invariant: the row is the one of so many edges as turns.
-- Assumes nothing.
use Rattle.cycle.specs.Row.{Row}
use Rattle.cycle.specs.Found.{wide_in}
use Rattle.cycle.proofs.row_of.Given as goal

abbrev pub invariant-loop-k : goal.invariant-loop-k
invariant-loop-k l = Row (wide_in l.system) l.target l._k l.row
