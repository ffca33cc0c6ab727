-- `reader::starts` meets its contract: each start and retiming is read in turn.
-- Assumes nothing.
use mathlib.Core.Path.{◌≡◌}
use lib.ListN.{length}
use Rattle.form.specs.declared.Form.{Form}
use Rattle.reader.specs.Outcome.{placed_table}
use Rattle.reader.specs.Tables.{start_step, with_start_rows, no_starts}
use Rattle.reader.proofs.Laws.{Going}
use Rattle.reader.proofs.starts.Given as goal

abbrev pub invariant-loop-i : goal.invariant-loop-i
invariant-loop-i l =
    (length l.start ≡ 64)
    × (length l.retiming ≡ 64)
    × ((f : Form) → f.header.length ≡ l.header.length → f.class ≡ l.class → f.node ≡ l.node → Going (start_step l.s) l.count 3 l.at (with_start_rows f) no_starts l.i (placed_table l.start l.retiming))
