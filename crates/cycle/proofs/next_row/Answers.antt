-- `cycle::next_row` meets its contract. The loop's invariant: the next row so far is what the edges passed bring.
-- Assumes nothing.
use Prim.Native.Nat.{◌<◌}
use lib.ListN.{get_or, length-set}
use native.Mathlib.Omega.{arith}
use borrow.Author.Rules.{rules}
use Rattle.system.specs.System.{system_of}
use Rattle.cycle.specs.Row.{carried_none, carried-more}
use Rattle.cycle.specs.Found.{wide_in}
use Rattle.cycle.proofs.next_row.Goals.{In-loop-e}
use Rattle.cycle.proofs.next_row.Goals as goal

pub loop-e-init : goal.loop-e-init
loop-e-init c = (search rules, carried_none _ _ 64)

-- the edge's ends are among the 64 nodes
ends : (c : In-loop-e)
    → (get_or c.args.system.tails.now c.loop-e.e 0 < 64) × (get_or c.args.system.heads.now c.loop-e.e 0 < 64)
unfolding system_of
ends c =
    (c.requires.0.joined.tails c.loop-e.e c.loop-e-test.true, c.requires.0.joined.heads c.loop-e.e c.loop-e-test.true)

pub bounds-next-u : goal.bounds-next-u
bounds-next-u c = omega (arith, ends (goal.at.bounds-next-u c).In-loop-e)

pub bounds-row-v : goal.bounds-row-v
bounds-row-v c = omega (arith, ends (goal.at.bounds-row-v c).In-loop-e)

pub bounds-next-u-in-loop-e : goal.bounds-next-u-in-loop-e
bounds-next-u-in-loop-e c =
    omega (arith, ends (goal.at.bounds-next-u-in-loop-e c).In-loop-e)

pub loop-e-preserved : goal.loop-e-preserved
unfolding system_of
loop-e-preserved c = (
  simp length-set (omega arith),
  rw (c.max.ensures, c.carried.ensures.0)
      (carried-more (wide_in c.args.system) c.loop-e.e c.args.row.now c.loop-e.next (omega (arith, ends (goal.at.loop-e-preserved c).In-loop-e)) (omega arith) c.loop-e.invariant.1),
)
