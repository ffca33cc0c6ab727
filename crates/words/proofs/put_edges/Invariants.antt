-- `words::put_edges` meets its contract: the rows of the edges before i are put.
-- Assumes nothing.
use Prim.Native.Nat.{◌+◌, ◌*◌, ◌≤◌}
use Rattle.laid.specs.Rows.{rows}
use Rattle.text.specs.Page.{Puts}
use Rattle.words.specs.Refusals.{edge_text}
use Rattle.words.proofs.put_edges.Given as goal

abbrev pub invariant-loop-i : goal.invariant-loop-i
invariant-loop-i l = (l.page.at ≤ l.initial.page.at + 11 * l.i) × Puts l.initial.page l.page (rows (edge_text l.answer) l.i)
