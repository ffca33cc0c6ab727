-- `solve::solve` meets its contract.
-- Assumes nothing.
use mathlib.Core.Path.{refl}
use Rattle.std.proofs.lemmas.Option.{MatchOption-at_some}
use Rattle.system.specs.System.{system_of}
use Rattle.solve.proofs.Laws.{when-settled, cycle-found, when-unsettled}
use Rattle.solve.proofs.solve.Goals as goal

pub returns-in-Ok : goal.returns-in-Ok
returns-in-Ok c = when-settled _ _ c.in-Ok.ensures refl

pub unwrap-cycle-requires : goal.unwrap-cycle-requires
unfolding system_of
unwrap-cycle-requires c =
    cycle-found _ _ c.in-Err.ensures refl c.requires.joined c.requires.le_nodes.0 c.requires.le_nodes.1 _ c.shortest_cycle.ensures.cycle

pub returns-in-Err : goal.returns-in-Err
returns-in-Err c =
    when-unsettled _ _ c.in-Err.ensures refl _ (rw c.unwrap-cycle.ensures at c.shortest_cycle.ensures.cycle) (MatchOption-at_some _ _ _ c.unwrap-cycle.ensures c.shortest_cycle.ensures.some)
