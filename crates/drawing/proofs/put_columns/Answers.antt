-- `drawing::put_columns` meets its contract: the loop's invariant is that the first columns are put.
-- Assumes nothing.
use mathlib.Core.Path.{ap}
use native.Mathlib.Omega.{arith}
use lib.ListN.{get_or}
use Rattle.form.specs.Places.{no_class}
use Rattle.text.specs.PageLaws.{no-row, row-put, rows-put}
use Rattle.drawing.proofs.put_columns.Goals as goal

pub loop-c-init : goal.loop-c-init
loop-c-init c = (omega arith, λ f t k. no-row _ _)

pub put_places-requires : goal.put_places-requires
put_places-requires c = (omega (arith, c.loop-c.invariant.0, c.requires.5.few), c.requires.1, c.requires.2, c.requires.3, c.requires.4, c.requires.5.units _ c.loop-c-test.true)

pub loop-c-preserved : goal.loop-c-preserved
loop-c-preserved c = (
  omega (arith, c.loop-c.invariant.0, c.put_places.ensures.0),
  λ f t k. row-put _ _ _ _ _ (c.loop-c.invariant.1 f t k) (c.put_places.ensures.1 f t (ap (λ x. get_or x c.loop-c.c no_class) k)),
)

pub returns : goal.returns
returns c = (omega (arith, c.loop-c.invariant.0, c.requires.5.few), λ f t k. rows-put _ _ _ _ _ (c.loop-c.invariant.1 f t k) (omega arith))
