-- `drawing::put_rows` meets its contract: the loop's invariant is that the first rows are put.
-- Assumes nothing.
use native.Mathlib.Omega.{arith}
use Rattle.text.specs.PageLaws.{no-row, row-put, rows-put}
use Rattle.drawing.proofs.Whole.{tabled-nodes, tabled-length, tabled-narrow, tabled-starts, times-noted, times-class, times-classes, times-length}
use Rattle.drawing.proofs.put_rows.Goals as goal

pub loop-i-init : goal.loop-i-init
loop-i-init c = (omega arith, λ f e. no-row _ _)

pub put_row-requires : goal.put_row-requires
put_row-requires c = (
  omega (arith, c.loop-i.invariant.0, tabled-length _ c.requires.1),
  omega (arith, tabled-length _ c.requires.1),
  tabled-nodes _ c.requires.1,
  omega arith,
  omega arith,
  tabled-starts _ c.requires.1 (λ e. omega arith),
  tabled-narrow _ c.requires.1,
)

pub loop-i-preserved : goal.loop-i-preserved
loop-i-preserved c = (
  omega (arith, c.loop-i.invariant.0, c.put_row.ensures.0),
  λ f e. row-put _ _ _ _ _ (c.loop-i.invariant.1 f e) (c.put_row.ensures.1 f (times-noted f _ e) (times-class f _ e) (times-classes f _ e)),
)

pub returns : goal.returns
returns c = (
  omega (arith, c.loop-i.invariant.0, tabled-length _ c.requires.1),
  λ f e. rows-put _ _ _ _ _ (c.loop-i.invariant.1 f e) (omega (arith, times-length f _ e)),
)
