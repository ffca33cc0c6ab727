-- `cycle::best_start` meets its contract. The loop's invariant: the start is the best of the nodes passed.
-- Assumes nothing.
use mathlib.Core.Path.{◌≡◌}
use native.Mathlib.Omega.{arith}
use Rattle.cycle.specs.Found.{best_none, best-better, best-kept, best-all}
use Rattle.cycle.proofs.best_start.Goals.{in-Some, in_default}
use Rattle.cycle.proofs.best_start.Goals as goal

pub loop-node-init : goal.loop-node-init
loop-node-init c = (omega arith, best_none _ _ _ (omega arith))

pub loop-node-preserved : goal.loop-node-preserved
loop-node-preserved c =
    elim c.match-fewest_at.branch [
      | in-Some w ↦
          let f = w.in-Some.ensures in
          rw (w.limit-is, w.best-is) (omega (arith, f.within), best-better _ _ _ _ _ c.loop-node.invariant.1 c.loop-node.invariant.0 _ f)
      | in_default w ↦
          rw (w.limit-is, w.best-is) (omega arith, best-kept _ _ _ _ _ c.loop-node.invariant.1 w.in_default.ensures)
    ]

pub returns : goal.returns
returns c =
    let whole : c.loop-node.node ≡ c.args.system.nodes = omega arith in
    best-all _ _ _ _ (rw whole at c.loop-node.invariant.1)
