-- `writer::put_rows` meets its contract.
-- Assumes nothing.
use mathlib.Core.Path.{◌≡◌}
use Prim.Native.Nat.{◌+◌, ◌*◌}
use Rattle.laid.specs.Laid.{Laid}
use Rattle.laid.specs.Rows.{rows}
use Rattle.writer.proofs.put_rows.Given as goal

abbrev pub invariant-loop-i : goal.invariant-loop-i
invariant-loop-i g l =
    (l.next ≡ l.at + g.T.Table.width * l.i) × Laid l.initial.out l.at (rows (g.T.Table.row_bytes l.form) l.i) l.out l.next
