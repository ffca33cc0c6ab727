-- `cycle::next_row` meets its contract. The loop's invariant: the next row so far is what the edges passed bring.
-- Assumes nothing.
use mathlib.Core.Path.{◌≡◌}
use lib.ListN.{length}
use Rattle.cycle.specs.Row.{Carried}
use Rattle.cycle.specs.Found.{wide_in}
use Rattle.cycle.proofs.next_row.Given as goal

abbrev pub invariant-loop-e : goal.invariant-loop-e
invariant-loop-e l = (length l.next ≡ 64) × Carried (wide_in l.system) l.e l.row l.next
