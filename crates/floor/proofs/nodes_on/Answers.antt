-- `floor::nodes_on` meets its contract: the nodes passed are counted.
-- Assumes nothing.
use native.Mathlib.Omega.{arith}
use Rattle.floor.proofs.Laws.{many-none, many-here, many-past}
use Rattle.floor.proofs.nodes_on.Goals.{else-runs-v, then-runs-v}
use Rattle.floor.proofs.nodes_on.Goals as goal

pub loop-v-init : goal.loop-v-init
loop-v-init c = omega (arith, many-none c.args.runs.now c.args.class)

pub loop-v-preserved : goal.loop-v-preserved
loop-v-preserved c =
    elim c.if-runs-v.branch [ then-runs-v w ↦ omega (arith, many-here c.args.runs.now c.args.class c.loop-v.v w.if-runs-v.true) | else-runs-v w ↦ omega (arith, many-past c.args.runs.now c.args.class c.loop-v.v w.if-runs-v.false) ]
