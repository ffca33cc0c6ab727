-- `drawing::put_columns` meets its contract: the loop's invariant is that the first columns are put.
-- Assumes nothing.
use mathlib.Core.Path.{◌≡◌}
use Prim.Native.Nat.{◌+◌, ◌*◌, ◌≤◌}
use Rattle.laid.specs.Rows.{rows}
use Rattle.form.specs.declared.Form.{Form}
use Rattle.text.specs.Page.{Puts}
use Rattle.drawing.specs.Table.{places_text}
use Rattle.drawing.specs.Noted.{NotedBy}
use Rattle.drawing.proofs.put_columns.Given as goal

abbrev pub invariant-loop-c : goal.invariant-loop-c
invariant-loop-c l = (l.page.at ≤ l.initial.page.at + 818 * l.c) × ((f : Form) → NotedBy f l.times → l.times.class ≡ f.class → Puts l.initial.page l.page (rows (places_text f l.step) l.c))
