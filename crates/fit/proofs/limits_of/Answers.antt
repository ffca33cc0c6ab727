-- `fit::limits_of` meets its contract: the places passed are filled.
-- Assumes nothing.
use Prim.Native.Nat.{◌<◌}
use native.Mathlib.Omega.{arith}
use borrow.Author.Rules.{rules}
use Rattle.fit.proofs.Laws.{limited-more, limited-all, gain-is, cost-is}
use Rattle.fit.proofs.limits_of.Goals as goal

pub loop-e-preserved : goal.loop-e-preserved
loop-e-preserved c =
    let e-in : c.loop-e.e < c.args.edges.count = omega arith in (
      search rules,
      search rules,
      λ g p told timed. limited-more g p c.loop-e.e _ _ _ _ (omega arith) (omega arith)
          (gain-is g p _ _ _ _ _ c.requires.0 told timed c.loop-e.e _ e-in c.wide-gain.ensures.0)
          (cost-is g p _ _ _ _ _ c.requires.0 told timed c.loop-e.e _ e-in c.late-cost.ensures)
          (c.loop-e.invariant.2 g p told timed),
    )

pub returns : goal.returns
returns c = λ g p told timed. limited-all g p _ _ _ _ c.loop-e-test.false (c.loop-e.invariant.2 g p told timed)
