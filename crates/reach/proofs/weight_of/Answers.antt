-- `reach::weight_of` meets its contract: the node itself waits first, so there is one to take off.
-- Assumes nothing.
use Prim.Native.Nat.{◌<◌}
use native.Mathlib.Omega.{arith}
use Rattle.reach.proofs.Marks.{queued-start, marking-start, weight_is}
use Rattle.reach.proofs.weight_of.Goals as goal

pub reach-reached-requires : goal.reach-reached-requires
reach-reached-requires c =
    (c.requires.2, queued-start c.args.v (omega arith), omega arith)

pub returns : goal.returns
returns c g r n told =
    let inside : c.args.v < g.graph.nodes = omega arith in
    omega (arith, weight_is g r _ _ _ _ _ _ _ _ told _ c.reach-reached.ensures.queued (c.reach-reached.ensures.reaches g r _ told (λ l. omega (arith, n)) (marking-start c.args.v (omega arith) g r inside)))
