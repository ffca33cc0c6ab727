-- `reader::nodes` meets its contract: each node is read in turn.
-- Assumes nothing.
use mathlib.Core.Path.{◌≡◌}
use lib.ListN.{length}
use Rattle.form.specs.declared.Form.{Form}
use Rattle.form.specs.Places.{with_nodes}
use Rattle.reader.specs.Tables.{node_step, no_nodes}
use Rattle.reader.proofs.Laws.{Going}
use Rattle.reader.proofs.nodes.Given as goal

abbrev pub invariant-loop-i : goal.invariant-loop-i
invariant-loop-i l =
    (length l.node ≡ 64)
    × ((f : Form) → f.header.classes ≡ l.classes → Going (node_step l.s) l.i-end 6 l.at (with_nodes f) no_nodes l.i l.node)
