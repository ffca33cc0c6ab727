-- `reach::spread` meets its contract: the edges out of the node from edge e on are late.
-- Assumes nothing.
use Prim.Native.Nat.{◌<◌}
use native.Mathlib.Omega.{arith}
use Rattle.reach.proofs.Marks.{half-first, half-next, half-end}
use Rattle.reach.proofs.spread.Goals as goal

pub loop-e-init : goal.loop-e-init
loop-e-init c =
    (c.requires.0.begins _ c.requires.2, c.requires.1, omega arith, λ g r v f t h k. half-first g r _ _ _ _ _ t v _ _ _ f _ c.requires.2 h k)

pub loop-e-preserved : goal.loop-e-preserved
loop-e-preserved c =
    let inside : c.loop-e.e < c.args.ways.now.edges = omega arith in (
      c.requires.0.leads-in c.loop-e.e inside,
      c.mark-end.ensures.queued,
      omega (arith, c.mark-end.ensures.grows),
      λ g r v f t h k. half-next g r _ _ _ _ _ t v _ _ _ _ _ f _ _ c.loop-e.e inside c.mark-end.ensures (c.loop-e.invariant.3 g r v f t h k),
    )

pub returns : goal.returns
returns c =
    record {
      queued = c.loop-e.invariant.1;
      grows = c.loop-e.invariant.2;
      spreads = λ g r v f t h k. half-end g r _ _ _ _ _ t v _ _ _ f _ c.loop-e.e (omega arith) (c.loop-e.invariant.3 g r v f t h k);
    }
