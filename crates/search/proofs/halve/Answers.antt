-- `search::halve` meets its contract: what is left to halve ends where the whole does.
-- Assumes nothing.
use mathlib.Core.Path.{refl, ◌∙◌}
use native.Mathlib.Omega.{arith}
use borrow.Author.Rules.{rules}
use Rattle.search.specs.Halved.{halved-turn, halved-stays}
use Rattle.search.proofs.halve.Goals as goal

pub loop-steps-init : goal.loop-steps-init
loop-steps-init c = (search rules, refl)

pub loop-steps-smaller : goal.loop-steps-smaller
loop-steps-smaller c = omega (arith, c.requires)

pub loop-steps-preserved : goal.loop-steps-preserved
loop-steps-preserved c =
    (omega arith, halved-turn c.args.length c.requires c.loop-steps.steps _ c.loop-steps.invariant.0 (omega (arith, c.loop-steps-test.true)) (omega arith) ∙ c.loop-steps.invariant.1)

pub returns : goal.returns
returns c =
    halved-stays c.args.length c.requires c.loop-steps.steps (omega (arith, c.loop-steps-test.false)) ∙ c.loop-steps.invariant.1
