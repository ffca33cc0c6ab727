-- `reach::tights_of` meets its contract: the places passed are filled.
-- Assumes nothing.
use native.Mathlib.Omega.{arith}
use borrow.Author.Rules.{rules}
use Rattle.reach.proofs.Laws.{tights-more}
use Rattle.reach.proofs.tights_of.Goals.{In-loop-e}
use Rattle.reach.proofs.tights_of.Goals as goal

pub loop-e-preserved : goal.loop-e-preserved
loop-e-preserved c =
    (search rules, tights-more c.args.edges.from.now c.args.edges.to.now c.args.edges.delays.now c.args.retiming.now c.loop-e.tights c.loop-e.e _ (omega arith) c.tight_mark.ensures c.loop-e.invariant.1)
