-- `cycle::next_edge` meets its contract. The loop's invariant: no edge passed leaves the node and gives the value.
-- Assumes nothing.
use mathlib.Core.Path.{sym, ◌∙◌}
use Prim.Native.Nat.{◌<◌}
use lib.ListN.{get_or}
use native.Mathlib.Nat.{not-le_of_lt}
use native.Mathlib.Omega.{arith}
use borrow.Author.Tests.{leb-true, leb-false}
use borrow.Author.Count.{below_more}
use Rattle.system.specs.System.{system_of}
use Rattle.cycle.proofs.next_edge.Goals.{In-loop-e, else-system-i-via-then-system-i+else-gives, else-system-i-via-else-system-i}
use Rattle.cycle.proofs.next_edge.Goals as goal

-- the edge's head is among the 64 nodes
ahead : (c : In-loop-e) → get_or c.args.system.heads.now c.loop-e.e 0 < 64
unfolding system_of
ahead c = c.requires.0.joined.heads c.loop-e.e c.loop-e-test.true

pub bounds-row-v : goal.bounds-row-v
bounds-row-v c = omega (arith, ahead (goal.at.bounds-row-v c).In-loop-e)

pub returns-then-gives : goal.returns-then-gives
unfolding system_of
returns-then-gives c =
    record {
      within = omega arith;
      first = c.loop-e.invariant;
      out = c.if-system-i.true;
      given = leb-true _ _ (sym c.gives.ensures.0 ∙ c.if-gives.true);
      near = c.gives.ensures.1 c.if-gives.true;
    }

pub loop-e-preserved : goal.loop-e-preserved
unfolding system_of
loop-e-preserved c =
    below_more _ _ c.loop-e.invariant (elim c.else-system-i.branch [ else-system-i-via-then-system-i+else-gives w ↦ λ t g. not-le_of_lt (leb-false _ _ (sym w.gives.ensures.0 ∙ w.if-gives.false)) g | else-system-i-via-else-system-i w ↦ λ t g. w.if-system-i.false t ])

pub returns : goal.returns
unfolding system_of
returns c = λ e l. c.loop-e.invariant e (omega arith)
