-- `reader::classes` meets its contract: each class is read in turn.
-- Assumes nothing.
use mathlib.Core.Path.{◌≡◌}
use lib.ListN.{length}
use Rattle.form.specs.declared.Form.{Form}
use Rattle.form.specs.Places.{with_classes}
use Rattle.reader.specs.Tables.{class_step, no_classes}
use Rattle.reader.proofs.Laws.{Going}
use Rattle.reader.proofs.classes.Given as goal

abbrev pub invariant-loop-i : goal.invariant-loop-i
invariant-loop-i l =
    (length l.class ≡ 4)
    × ((f : Form) → Going (class_step l.s) l.i-end 3 l.at (with_classes f) no_classes l.i l.class)
