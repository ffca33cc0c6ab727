-- `fit::turned` meets its contract: the places passed are filled.
-- Assumes nothing.
use mathlib.Core.Path.{refl}
use native.Mathlib.Omega.{arith}
use Rattle.lists.specs.Filled.{fill_none, fill_more}
use Rattle.fit.specs.Tables.{turned_over}
use Rattle.fit.proofs.turned.Goals as goal

pub loop-v-init : goal.loop-v-init
unfolding turned_over
loop-v-init c = fill_none _ _

pub loop-v-preserved : goal.loop-v-preserved
unfolding turned_over
loop-v-preserved c =
    fill_more _ _ c.loop-v.v _ _ (omega arith) refl c.loop-v.invariant
