-- `drawing::put_free` meets its contract: the loop's invariant is that the first places are put.
-- Assumes nothing.
use Prim.Native.Nat.{◌+◌, ◌*◌, ◌≤◌}
use Rattle.laid.specs.Rows.{rows}
use Rattle.text.specs.Page.{Puts}
use Rattle.drawing.specs.Words.{free_word}
use Rattle.drawing.proofs.put_free.Given as goal

abbrev pub invariant-loop-i : goal.invariant-loop-i
invariant-loop-i l = (l.page.at ≤ l.initial.page.at + 6 * l._i) × Puts l.initial.page l.page (rows (λ k. free_word) l._i)
