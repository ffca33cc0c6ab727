-- `rules::crowded` meets its contract: the lowest that the nodes passed enter is kept, and the lowest of all is the lowest there is.
-- Assumes nothing.
use native.Mathlib.Omega.{arith}
use Rattle.legal.specs.Loop.{Loop, Pair}
use Rattle.tables.specs.Times.{Timed}
use Rattle.rules.specs.Busy.{Seated}
use Rattle.rules.specs.Crowded.{Entered}
use Rattle.rules.specs.Lowest.{Lowest, lowest-fewer, lowest-node, lowest-units, lowest-fine}
use Rattle.rules.proofs.crowded.Goals.{After-loop-v}
use Rattle.rules.proofs.crowded.Goals as goal

pub loop-v-preserved : goal.loop-v-preserved
loop-v-preserved c =
    λ g p timed seated. lowest-node g p _ timed seated c.loop-v.v c.loop-v.lowest _ c.loop-v-test.true (c.loop-v.invariant g p timed seated) c.node_spot-lowest.ensures

-- the nodes passed are all
all-nodes : (c : After-loop-v) (g : Loop) (p : Pair) → Timed g p c.args.times → Seated g p → Lowest g p (Entered g p g.graph.nodes) c.loop-v.lowest
all-nodes c g p timed seated =
    lowest-fewer g p _ _ _ (λ q d u. (u.0, omega (arith, u.1, timed.all-nodes), u.2, u.3)) (c.loop-v.invariant g p timed seated)

pub returns-then-lowest-past : goal.returns-then-lowest-past
returns-then-lowest-past c = λ g p timed seated.
    lowest-units g p seated _ (all-nodes (goal.at.returns-then-lowest-past c).After-loop-v g p timed seated) (omega (arith, c.spot-past.ensures.0, c.if-lowest-past.true, timed.is_length))

pub returns : goal.returns
returns c = λ g p timed seated.
    lowest-fine g p seated _ (all-nodes (goal.at.returns c).After-loop-v g p timed seated) (omega (arith, c.spot-past.ensures.0, c.if-lowest-past.false, timed.is_length))
