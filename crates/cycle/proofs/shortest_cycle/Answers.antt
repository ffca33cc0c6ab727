-- `cycle::shortest_cycle` meets its contract: what the start and the walk tell of 64 nodes holds of the graph's own number.
-- Assumes nothing.
use Rattle.cycle.specs.Among.{tables, none_found, cycle-found}
use Rattle.cycle.proofs.shortest_cycle.Goals as goal

pub best_start-requires : goal.best_start-requires
best_start-requires c = (tables _ _ _ _ _ _ c.requires.0 c.requires.1 c.requires.2, c.requires.0)

pub returns-in_err-start-clause-cycle : goal.returns-in_err-start-clause-cycle
returns-in_err-start-clause-cycle c = rw c.from_residual.ensures (none_found _ _ _ _ _ _ _ c.requires.2 c.in_err-start.ensures)

pub walk_of-requires-clause-tables : goal.walk_of-requires-clause-tables
walk_of-requires-clause-tables c = tables _ _ _ _ _ _ c.requires.0 c.requires.1 c.requires.2

pub returns-clause-cycle : goal.returns-clause-cycle
returns-clause-cycle c =
    let b = c.in_ok-start.ensures in
    cycle-found _ _ _ _ _ _ _ c.requires.2 _ b.0 b.1.some b.1.within _ c.walk_of.ensures
