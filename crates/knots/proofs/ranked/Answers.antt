-- `knots::ranked` meets its contract: the tables hold the loop's system of knots, and its values are the ranks.
-- Assumes nothing.
use Rattle.knots.proofs.Laws.{ends-joined, ranks-found}
use Rattle.knots.proofs.ranked.Goals as goal

pub solve-requires-clause-joined : goal.solve-requires-clause-joined
solve-requires-clause-joined c =
    ends-joined _ _ c.args.edges.from.now c.args.edges.to.now c.args.edges.delays.now c.requires _ _

pub returns-in-Ok-clause-found : goal.returns-in-Ok-clause-found
returns-in-Ok-clause-found c g told =
    ranks-found _ _ c.args.edges.from.now c.args.edges.to.now c.args.edges.delays.now c.requires _ c.gains_of-gains.ensures g told _ c.in-Ok.ensures

pub returns-in-Err-clause-found : goal.returns-in-Err-clause-found
returns-in-Err-clause-found c g told =
    ranks-found _ _ c.args.edges.from.now c.args.edges.to.now c.args.edges.delays.now c.requires _ c.gains_of-gains.ensures g told _ c.in-Err.ensures
