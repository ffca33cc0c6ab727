-- `reach::weights` meets its contract: the places passed are filled.
-- Assumes nothing.
use native.Mathlib.Omega.{arith}
use borrow.Author.Rules.{rules}
use Rattle.lists.specs.Filled.{fill_none, fill_more}
use Rattle.reach.proofs.Laws.{heads-linked, tells-tight, weights-all}
use Rattle.reach.proofs.weights.Goals as goal

pub loop-v-init : goal.loop-v-init
loop-v-init c = (search rules, λ g r told retimed. fill_none _ _)

pub weight_of-requires : goal.weight_of-requires
weight_of-requires c =
    (search rules, c.requires.most, heads-linked _ _ _ _ c.requires _ _ c.links_of-out.ensures.chains)

pub loop-v-preserved : goal.loop-v-preserved
loop-v-preserved c = (
  search rules,
  λ g r told retimed. fill_more _ _ c.loop-v.v _ _ (omega (arith, c.loop-v-test.true, c.requires.most))
      (c.weight_of.ensures g r told.all-nodes (tells-tight _ _ _ _ c.requires _ _ c.links_of-out.ensures.chains g r _ c.args.retiming.now _ told retimed c.tights_of-tights.ensures))
      (c.loop-v.invariant.1 g r told retimed),
)

pub returns : goal.returns
returns c g r told retimed = weights-all g r _ _ (omega (arith, told.all-nodes)) (c.loop-v.invariant.1 g r told retimed)
