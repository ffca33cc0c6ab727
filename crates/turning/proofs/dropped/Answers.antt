-- `turning::dropped` meets its contract: the starts passed are lowered.
-- Assumes nothing.
use mathlib.Core.Path.{◌≡◌}
use native.Mathlib.Omega.{arith}
use Rattle.lists.specs.Filled.{fill_none, fill_more}
use Rattle.turning.proofs.dropped.Goals as goal

pub loop-v-init : goal.loop-v-init
loop-v-init c = (omega arith, fill_none _ _)

pub loop-v-preserved : goal.loop-v-preserved
loop-v-preserved c =
    (omega arith, fill_more _ _ c.loop-v.v _ _ (omega arith) c.saturating_sub.ensures c.loop-v.invariant.1)

pub returns : goal.returns
returns c =
    let e : c.loop-v.v ≡ c.args.nodes = omega arith in
    rw (← e) c.loop-v.invariant.1
