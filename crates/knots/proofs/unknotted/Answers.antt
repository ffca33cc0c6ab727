-- `knots::unknotted` meets its contract: ranks where there is no knot, else the knot found.
-- Assumes nothing.
use mathlib.Core.Path.{refl}
use Rattle.knots.proofs.unknotted.Goals as goal

pub returns-in-Ok : goal.returns-in-Ok
returns-in-Ok c g told = (c.in-Ok.ensures.found g told).found

pub returns-in-Err : goal.returns-in-Err
returns-in-Err c g told = (refl, (c.in-Err.ensures.found g told).found, c.in-Err.ensures.some)
