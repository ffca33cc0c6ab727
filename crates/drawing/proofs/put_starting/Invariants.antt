-- `drawing::put_starting` meets its contract: the loop's invariant is that the first nodes are put.
-- Assumes nothing.
use Prim.Native.Nat.{◌+◌, ◌*◌, ◌≤◌}
use Rattle.laid.specs.Rows.{rows}
use Rattle.text.specs.Page.{Puts}
use lib.ListN.{get_or}
use Rattle.drawing.specs.Table.{start_place}
use Rattle.drawing.proofs.put_starting.Given as goal

abbrev pub invariant-loop-i : goal.invariant-loop-i
invariant-loop-i l = (l.page.at ≤ l.initial.page.at + 6 * l.i) × Puts l.initial.page l.page (rows (λ v. start_place l.step l.class v (get_or l.times.runs v 0) (get_or l.times.start v 0) (get_or l.times.retiming v 0)) l.i)
