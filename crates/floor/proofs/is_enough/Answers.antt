-- `floor::is_enough` meets its contract: the tables hold the system of the length.
-- Assumes nothing.
use mathlib.Core.Path.{◌∙◌}
use native.Mathlib.Omega.{arith}
use Rattle.floor.proofs.Laws.{edged-bounds, held-joined, held-enough}
use Rattle.floor.proofs.is_enough.Goals as goal

pub settle-requires : goal.settle-requires
settle-requires c =
    let b = edged-bounds _ _ _ _ _ c.requires.0 in
    record { le_nodes = omega arith; joined = held-joined _ c.args.edges c.requires.0 _ _ _ c.paced.ensures.2 }

pub returns : goal.returns
returns c g told costed =
    c.is_ok.ensures.value ∙ held-enough _ c.args.edges c.requires.0 _ _ _ c.paced.ensures.2 c.args.length c.gains_of-gains.ensures g told costed _ c.settle.ensures
