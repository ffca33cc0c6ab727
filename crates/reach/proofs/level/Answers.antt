-- `reach::level` meets its contract: the nodes from place i on still wait.
-- Assumes nothing.
use mathlib.Core.Path.{◌≡◌, subst}
use Prim.Native.Nat.{ℕ}
use native.Mathlib.Omega.{arith}
use Rattle.reach.specs.Marking.{Marking, None}
use Rattle.reach.proofs.Marks.{queued-few, leaves-queue}
use Rattle.reach.proofs.level.Goals as goal

pub bounds-queue-i : goal.bounds-queue-i
bounds-queue-i c =
    omega (arith, queued-few c.loop-i.marks c.loop-i.queue c.loop-i.end c.loop-i.invariant.0)

pub loop-i-preserved : goal.loop-i-preserved
loop-i-preserved c = (
  c.spread-end.ensures.queued,
  omega (arith, c.spread-end.ensures.grows),
  λ g r v t k. c.spread-end.ensures.spreads g r v _ t (c.loop-i.invariant.0.node_marked c.loop-i.i (omega arith)) (leaves-queue g r v _ _ c.loop-i.i _ (omega arith) (c.loop-i.invariant.2 g r v t k)),
)

pub returns : goal.returns
returns c =
    record {
      queued = c.loop-i.invariant.0;
      grows = c.loop-i.invariant.1;
      levels = λ g r v t k. let end : c.loop-i.i ≡ c.args.to = omega arith in subst (λ (b : ℕ). Marking g r v c.loop-i.marks c.loop-i.queue b c.loop-i.end None) end (c.loop-i.invariant.2 g r v t k);
    }
