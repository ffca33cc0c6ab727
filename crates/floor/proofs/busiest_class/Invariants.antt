-- `floor::busiest_class` meets its contract: the busiest of the classes passed is kept.
-- Assumes nothing.
use Prim.Native.Nat.{◌≤◌}
use Rattle.legal.specs.Loop.{Loop, Pair}
use Rattle.tables.specs.Times.{Timed}
use Rattle.floor.specs.Tables.{Busy}
use Rattle.floor.proofs.busiest_class.Given as goal

abbrev pub invariant-loop-c : goal.invariant-loop-c
invariant-loop-c l = ((g : Loop) (p : Pair) → Timed g p l.times → Busy g l.c l.part l.number) × (l.part ≤ 512)
