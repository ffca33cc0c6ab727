-- `search::shorter_of` meets its contract.
-- Assumes nothing.
use native.Mathlib.Omega.{arith}
use Rattle.search.proofs.Going.{shorter-new, shorter-old}
use Rattle.search.proofs.shorter_of.Goals as goal

pub returns-then-new-old : goal.returns-then-new-old
returns-then-new-old c x y old new = shorter-new x y _ _ old new (omega (arith, c.if-new-old.true))

pub returns : goal.returns
returns c x y old new = shorter-old x y _ _ old new (omega (arith, c.if-new-old.false))
