-- `rotation::turns_by` meets its contract.
-- Assumes nothing.
use Rattle.rotation.proofs.Rotates.{turns-zero, turns-some}
use Rattle.rotation.proofs.turns_by.Goals as goal

-- src/lib.rt:237:9
pub returns-then-steps-eq0 : goal.returns-then-steps-eq0
returns-then-steps-eq0 c = turns-zero _ _ c.if-steps-eq0.true

-- src/lib.rt:233:1
pub returns : goal.returns
returns c = turns-some _ _ c.if-steps-eq0.false
