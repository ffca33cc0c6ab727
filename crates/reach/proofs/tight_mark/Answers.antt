-- `reach::tight_mark` meets its contract.
-- Assumes nothing.
use Rattle.reach.proofs.Laws.{tight-one, tight-zero}
use Rattle.reach.proofs.tight_mark.Goals as goal

pub returns-then-wide : goal.returns-then-wide
returns-then-wide c = tight-one _ _ _ _ _ _ c.wide.ensures.0 c.wide-2.ensures.0 c.wide-3.ensures.0 c.if-wide.true

pub returns : goal.returns
returns c = tight-zero _ _ _ _ _ _ c.wide.ensures.0 c.wide-2.ensures.0 c.wide-3.ensures.0 c.if-wide.false
