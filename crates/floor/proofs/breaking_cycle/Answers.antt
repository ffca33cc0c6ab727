-- `floor::breaking_cycle` meets its contract: the tables hold the system of the length.
-- Assumes nothing.
use mathlib.Core.Bool.{true≢false}
use native.Mathlib.Omega.{arith}
use Rattle.floor.proofs.Laws.{edged-bounds, held-joined, held-breaks}
use Rattle.floor.proofs.breaking_cycle.Goals as goal

pub solve-requires : goal.solve-requires
solve-requires c =
    let b = edged-bounds _ _ _ _ _ c.requires.0 in
    record { le_nodes = omega arith; joined = held-joined _ c.args.edges c.requires.0 _ _ _ c.paced.ensures.2 }

pub returns-in-Ok : goal.returns-in-Ok
returns-in-Ok c g told costed short =
    absurd (true≢false (held-breaks _ c.args.edges c.requires.0 _ _ _ c.paced.ensures.2 c.args.length c.gains_of-gains.ensures g told costed _ c.in-Ok.ensures short).0)

pub returns-in-Err : goal.returns-in-Err
returns-in-Err c g told costed short =
    let breaks = held-breaks _ c.args.edges c.requires.0 _ _ _ c.paced.ensures.2 c.args.length c.gains_of-gains.ensures g told costed _ c.in-Err.ensures short in
    (breaks.1, breaks.2)
