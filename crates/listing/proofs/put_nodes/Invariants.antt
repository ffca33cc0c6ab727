-- `listing::put_nodes` meets its contract: the loop's invariant is that the first nodes of the step are put.
-- Assumes nothing.
use Prim.Native.Nat.{◌≤◌, ◌+◌, ◌*◌}
use Rattle.laid.specs.Rows.{rows}
use Rattle.text.specs.Page.{Puts}
use Rattle.listing.specs.Lines.{cell, node_text}
use Rattle.listing.proofs.put_nodes.Given as goal

abbrev pub invariant-loop-i : goal.invariant-loop-i
invariant-loop-i l = (l.page.at ≤ l.initial.page.at + 8 * l.i) × Puts l.initial.page l.page (rows (node_text (cell l.times.start) (cell l.times.retiming) l.step) l.i)
