-- `floor::units_part` meets its contract.
-- Assumes nothing.
use native.Mathlib.Omega.{arith}
use Rattle.floor.specs.Busy.{rounded-up}
use Rattle.floor.proofs.units_part.Goals as goal

pub returns : goal.returns
returns c =
    (rw (c.busy_steps-busy.ensures.0, c.wide-units.ensures.0), rounded-up c.busy_steps-busy.result c.wide-units.result 512 (omega (arith, c.busy_steps-busy.ensures.1, c.wide-units.ensures.0, c.requires.good_class.units)))
