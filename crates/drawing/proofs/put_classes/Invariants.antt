-- `drawing::put_classes` meets its contract: the loop's invariant is that the first lines are put.
-- Assumes nothing.
use Prim.Native.Nat.{◌+◌, ◌*◌, ◌≤◌}
use Rattle.laid.specs.Rows.{rows}
use Rattle.text.specs.Page.{Puts}
use lib.ListN.{get_or}
use Rattle.form.specs.Places.{no_class}
use Rattle.drawing.specs.Table.{class_line}
use Rattle.drawing.proofs.put_classes.Given as goal

abbrev pub invariant-loop-c : goal.invariant-loop-c
invariant-loop-c l = (l.page.at ≤ l.initial.page.at + 45 * l.c) × Puts l.initial.page l.page (rows (λ i. class_line i (get_or l.times.class i no_class)) l.c)
