-- `plans::steps_of` meets its contract: the numbers passed are steps.
-- Assumes nothing.
use mathlib.Core.Path.{refl, ◌∙◌}
use native.Mathlib.Omega.{arith}
use borrow.Author.Rules.{rules}
use Rattle.plans.proofs.Steps.{stepped-none, stepped-more, stepped-all}
use Rattle.plans.proofs.steps_of.Goals as goal

pub loop-v-init : goal.loop-v-init
loop-v-init c = (omega arith, stepped-none _ _ refl)

pub loop-v-preserved : goal.loop-v-preserved
loop-v-preserved c =
    (omega arith, stepped-more _ c.loop-v.v _ (omega arith) c.loop-v.invariant.1)

pub returns : goal.returns
returns c =
    c.loop-v.invariant.1 ∙ stepped-all _ c.loop-v.v (omega arith) (search rules)
