-- `drawing::put_rows` meets its contract: the loop's invariant is that the first rows are put.
-- Assumes nothing.
use mathlib.Core.Path.{◌≡◌}
use Prim.Native.Nat.{◌+◌, ◌*◌, ◌≤◌}
use Rattle.laid.specs.Rows.{rows}
use Rattle.form.specs.declared.Form.{Form}
use Rattle.tables.specs.Times.{times_of}
use Rattle.text.specs.Page.{Puts}
use Rattle.drawing.specs.Table.{row_text}
use Rattle.drawing.proofs.put_rows.Given as goal

abbrev pub invariant-loop-i : goal.invariant-loop-i
invariant-loop-i l = (l.page.at ≤ l.initial.page.at + 3279 * l.i) × ((f : Form) → l.times ≡ times_of f → Puts l.initial.page l.page (rows (λ k. row_text f (k + 1)) l.i))
