-- `turning::length_of` meets its contract: the last step of the nodes passed is kept.
-- Assumes nothing.
use mathlib.Core.Path.{sym, ◌∙◌}
use native.Mathlib.Omega.{arith}
use borrow.Author.Rules.{rules}
use Rattle.turning.proofs.Laws.{last_none, last_more, last-all}
use Rattle.turning.proofs.length_of.Goals as goal

pub loop-v-init : goal.loop-v-init
loop-v-init c = (search rules, λ g takes. sym (last_none g _))

pub overflow_cast-end : goal.overflow_cast-end
overflow_cast-end c =
    omega (arith, c.requires.short c.loop-v.v (omega arith))

pub overflow_add-end : goal.overflow_add-end
overflow_add-end c =
    omega (arith, c.requires.short c.loop-v.v (omega arith), c.requires.soon c.loop-v.v (omega arith))

pub overflow_sub-end : goal.overflow_sub-end
overflow_sub-end c =
    omega (arith, c.requires.some c.loop-v.v (omega arith))

pub loop-v-preserved : goal.loop-v-preserved
loop-v-preserved c = (
  search rules,
  λ g takes. omega (arith, c.max-last.ensures, last_more g c.args.start.now c.loop-v.v, c.loop-v.invariant.1 g takes, takes c.loop-v.v (omega (arith, c.loop-v-test.true))),
)

pub returns : goal.returns
returns c =
    λ g all takes. c.loop-v.invariant.1 g takes ∙ last-all g c.args.start.now c.loop-v.v (omega (arith, all))
