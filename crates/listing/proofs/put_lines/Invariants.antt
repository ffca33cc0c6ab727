-- `listing::put_lines` meets its contract: the loop's invariant is that the first lines are put.
-- Assumes nothing.
use Prim.Native.Nat.{◌≤◌, ◌+◌, ◌*◌}
use Rattle.laid.specs.Rows.{rows}
use Rattle.text.specs.Page.{Puts}
use Rattle.listing.specs.Lines.{cell, step_line}
use Rattle.listing.proofs.put_lines.Given as goal

abbrev pub invariant-loop-i : goal.invariant-loop-i
invariant-loop-i l = (l.page.at ≤ l.initial.page.at + 517 * l.i) × Puts l.initial.page l.page (rows (λ k. step_line (cell l.times.start) (cell l.times.retiming) l.times.nodes (k + 1)) l.i)
