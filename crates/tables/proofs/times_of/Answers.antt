-- `tables::times_of` meets its contract: the places passed are filled.
-- Assumes nothing.
use native.Mathlib.Omega.{arith}
use Rattle.lists.specs.Filled.{fill_none, fill_more}
use Rattle.tables.specs.Times.{times-are}
use Rattle.tables.proofs.times_of.Goals as goal

pub loop-v-init : goal.loop-v-init
loop-v-init c = (fill_none _ _, fill_none _ _, fill_none _ _)

pub loop-v-preserved : goal.loop-v-preserved
loop-v-preserved c =
    (fill_more _ _ c.loop-v.v _ _ (omega arith) (omega arith) c.loop-v.invariant.0, fill_more _ _ c.loop-v.v _ _ (omega arith) (omega arith) c.loop-v.invariant.1, fill_more _ _ c.loop-v.v _ _ (omega arith) (omega arith) c.loop-v.invariant.2)

pub returns : goal.returns
returns c =
    times-are _ c.loop-v.v _ _ _ (omega arith) c.loop-v.invariant.0 c.loop-v.invariant.1 c.loop-v.invariant.2
