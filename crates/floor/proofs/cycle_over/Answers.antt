-- `floor::cycle_over` meets its contract: the length where it is enough, else the least that is.
-- Assumes nothing.
use mathlib.Core.Path.{sym, ◌∙◌}
use native.Mathlib.Omega.{arith}
use Rattle.legal.specs.Knots.{unknotted-free}
use Rattle.floor.specs.Least.{enough-over, over-short}
use Rattle.floor.proofs.cycle_over.Goals as goal

pub returns-then-is_enough : goal.returns-then-is_enough
returns-then-is_enough c g paced one =
    omega (arith, enough-over g _ one (sym (c.is_enough.ensures g paced.told paced.costed) ∙ c.if-is_enough.true))

pub returns : goal.returns
returns c g paced one =
    let short = sym (c.is_enough.ensures g paced.told paced.costed) ∙ c.if-is_enough.false in
    omega (arith, c.least_over.ensures g paced short, over-short g paced.sound (unknotted-free g paced.free) _ one short)
