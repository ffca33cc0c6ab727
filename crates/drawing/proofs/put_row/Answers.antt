-- `drawing::put_row` meets its contract: the step, the columns, the line's end.
-- Assumes nothing.
use native.Mathlib.Omega.{arith}
use Rattle.drawing.proofs.Whole.{row_put}
use Rattle.drawing.proofs.put_row.Goals as goal

pub put_columns-requires : goal.put_columns-requires
put_columns-requires c = (omega (arith, c.put_right.ensures.0), c.requires.2, c.requires.3, c.requires.4, c.requires.5, c.requires.6)

pub returns : goal.returns
returns c = (
  omega (arith, c.put_right.ensures.0, c.put_columns.ensures.0, c.byte.ensures.laid.ends),
  λ f t k e. row_put f _ _ e _ _ _ _ c.put_right.ensures.1 (c.put_columns.ensures.1 f t k) c.byte.ensures,
)
