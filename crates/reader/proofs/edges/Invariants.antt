-- `reader::edges` meets its contract: each edge is read in turn.
-- Assumes nothing.
use mathlib.Core.Path.{◌≡◌}
use lib.ListN.{length}
use Rattle.form.specs.declared.Form.{Form}
use Rattle.reader.specs.Outcome.{edge_table}
use Rattle.reader.specs.Tables.{edge_step, with_edge_rows, no_edges}
use Rattle.reader.proofs.Laws.{Going}
use Rattle.reader.proofs.edges.Given as goal

abbrev pub invariant-loop-i : goal.invariant-loop-i
invariant-loop-i l =
    (length l.from ≡ 256)
    × (length l.to ≡ 256)
    × (length l.delays ≡ 256)
    × ((f : Form) → f.header.nodes ≡ l.header.nodes → Going (edge_step l.s) l.i-end 3 l.at (with_edge_rows f) no_edges l.i (edge_table l.from l.to l.delays))
