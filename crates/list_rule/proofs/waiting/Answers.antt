-- `list_rule::waiting` meets its contract: the edges passed are counted at their heads.
-- Assumes nothing.
use Prim.Native.Nat.{◌<◌}
use native.Mathlib.Omega.{arith}
use lib.ListN.{get_or}
use borrow.Author.Rules.{rules}
use Rattle.list_rule.proofs.Waits.{waits-none, waits-more, waits-all, waits-fits}
use Rattle.list_rule.proofs.waiting.Goals.{In-loop-e}
use Rattle.list_rule.proofs.waiting.Goals as goal

pub loop-e-init : goal.loop-e-init
loop-e-init c = (search rules, waits-none _ _ _ _ _ _ _)

-- an edge's nodes are places of the tables
tail-in : (c : In-loop-e) → get_or c.args.edges.from.now c.loop-e.e 0 < 64
tail-in c = c.requires.tail-in _ c.loop-e-test.true

head_in : (c : In-loop-e) → get_or c.args.edges.to.now c.loop-e.e 0 < 64
head_in c = c.requires.head_in _ c.loop-e-test.true

pub overflow_cast-tail : goal.overflow_cast-tail
overflow_cast-tail c = omega (arith, tail-in (goal.at.overflow_cast-tail c).In-loop-e)

pub overflow_cast-head : goal.overflow_cast-head
overflow_cast-head c = omega (arith, head_in (goal.at.overflow_cast-head c).In-loop-e)

pub bounds-retiming-tail : goal.bounds-retiming-tail
bounds-retiming-tail c = omega (arith, tail-in (goal.at.bounds-retiming-tail c).In-loop-e)

pub bounds-retiming-head : goal.bounds-retiming-head
bounds-retiming-head c =
    omega (arith, head_in (goal.at.bounds-retiming-head c).In-loop-e)

pub offset_bounds-start-tail : goal.offset_bounds-start-tail
offset_bounds-start-tail c =
    omega (arith, tail-in (goal.at.offset_bounds-start-tail c).In-loop-e)

pub bounds-start-tail : goal.bounds-start-tail
bounds-start-tail c =
    omega (arith, tail-in (goal.at.bounds-start-tail c).In-loop-e)

pub bounds-latency-tail : goal.bounds-latency-tail
bounds-latency-tail c =
    omega (arith, tail-in (goal.at.bounds-latency-tail c).In-loop-e)

pub offset_bounds-waits-head : goal.offset_bounds-waits-head
offset_bounds-waits-head c = omega (arith, head_in (goal.at.offset_bounds-waits-head c).In-loop-e)

pub bounds-waits-head : goal.bounds-waits-head
bounds-waits-head c = omega (arith, head_in (goal.at.bounds-waits-head c).In-loop-e)

pub overflow_add-waits : goal.overflow_add-waits
overflow_add-waits c =
    omega (arith, waits-fits _ _ _ _ _ _ _ _ _ c.loop-e.invariant.1 _ c.blocked.ensures (head_in (goal.at.overflow_add-waits c).In-loop-e), c.requires.few)

pub bounds-waits-head-in-loop-e : goal.bounds-waits-head-in-loop-e
bounds-waits-head-in-loop-e c = omega (arith, head_in (goal.at.bounds-waits-head-in-loop-e c).In-loop-e)

pub loop-e-preserved : goal.loop-e-preserved
loop-e-preserved c =
    (search rules, waits-more _ _ _ _ _ _ _ _ _ c.loop-e.invariant.1 _ c.blocked.ensures (head_in (goal.at.loop-e-preserved c).In-loop-e))

pub returns : goal.returns
returns c = waits-all _ _ _ _ _ _ _ _ _ _ (omega arith) c.loop-e.invariant.1
