-- `drawing::put_blanks` meets its contract: a blank more each turn.
-- Assumes nothing.
use Rattle.text.specs.Page.{Puts}
use Rattle.drawing.specs.Table.{blanks}
use Rattle.drawing.proofs.put_blanks.Given as goal

abbrev pub invariant-loop-i : goal.invariant-loop-i
invariant-loop-i l = Puts l.initial.page l.page (blanks l._i)
