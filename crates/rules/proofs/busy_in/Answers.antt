-- `rules::busy_in` meets its contract: the nodes passed are summed up.
-- Assumes nothing.
use native.Mathlib.Omega.{arith}
use Rattle.rules.proofs.Laws.{busy-none, busy-more}
use Rattle.rules.proofs.busy_in.Goals as goal

pub loop-v-init : goal.loop-v-init
loop-v-init c =
    omega (arith, busy-none c.args.length c.args.runs.now c.args.start.now c.args.class c.args.hold c.args.step)

pub loop-v-preserved : goal.loop-v-preserved
loop-v-preserved c =
    omega (arith, busy-more c.args.length c.args.runs.now c.args.start.now c.args.class c.args.hold c.args.step c.loop-v.v _ c.held_on-busy.ensures.0, c.held_on-busy.ensures.1)
