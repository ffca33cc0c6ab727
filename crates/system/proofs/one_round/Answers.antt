-- `system::one_round` meets its contract: what is left of the round gives what the whole round gives.
-- Assumes nothing.
use Prim.Native.Nat.{ℕ, ◌≤◌, ◌<◌}
use mathlib.Core.List.{List}
use lib.ListN.{get_or}
use native.Mathlib.Omega.{arith}
use Rattle.system.specs.System.{system_of}
use Rattle.system.proofs.Laws.{sofar-none, sofar-asks, sofar-holds, sofar-all}
use Rattle.system.proofs.one_round.Goals.{In-loop-e, else-have-want, then-have-want}
use Rattle.system.proofs.one_round.Goals as goal

-- an edge's nodes are places of the values, which have room for one edge more in a u32
record Ends (values : List ℕ) (u v : ℕ) : Type 0 where
  tail-in : u < 64
  head_in : v < 64
  tail_low : get_or values u 0 ≤ 1073725440
  head_low : get_or values v 0 ≤ 1073725440

ends : (c : In-loop-e) → Ends c.loop-e.values (get_or c.args.system.tails.now c.loop-e.e 0) (get_or c.args.system.heads.now c.loop-e.e 0)
unfolding system_of
ends c =
    let low = c.loop-e.invariant.bound 1056948480 c.requires.by_index in
    record {
      tail-in = omega (arith, c.requires.joined.tails c.loop-e.e c.loop-e-test.true);
      head_in = omega (arith, c.requires.joined.heads c.loop-e.e c.loop-e-test.true);
      tail_low = omega (arith, low (get_or c.args.system.tails.now c.loop-e.e 0));
      head_low = omega (arith, low (get_or c.args.system.heads.now c.loop-e.e 0));
    }

pub loop-e-init : goal.loop-e-init
loop-e-init c = sofar-none _ _

pub bounds-values-head : goal.bounds-values-head
bounds-values-head c =
    omega (arith, ends (goal.at.bounds-values-head c).In-loop-e)

pub overflow_add-have : goal.overflow_add-have
overflow_add-have c =
    omega (arith, ends (goal.at.overflow_add-have c).In-loop-e)

pub bounds-values-tail : goal.bounds-values-tail
bounds-values-tail c =
    omega (arith, ends (goal.at.bounds-values-tail c).In-loop-e)

pub overflow_add-want : goal.overflow_add-want
overflow_add-want c =
    omega (arith, ends (goal.at.overflow_add-want c).In-loop-e)

pub bounds-values-head-then-have-want : goal.bounds-values-head-then-have-want
bounds-values-head-then-have-want c =
    omega (arith, ends (goal.at.bounds-values-head-then-have-want c).In-loop-e)

pub loop-e-preserved : goal.loop-e-preserved
unfolding system_of
loop-e-preserved c =
    elim c.if-have-want.branch [ then-have-want w ↦ sofar-asks _ _ _ _ _ c.loop-e.invariant c.loop-e-test.true _ _ _ _ c.from-gain.ensures c.from.ensures (omega arith) w.if-have-want.true w.values-is w.raised-is | else-have-want w ↦ sofar-holds _ _ _ _ _ c.loop-e.invariant c.loop-e-test.true _ _ _ _ c.from-gain.ensures c.from.ensures w.if-have-want.false w.values-is w.raised-is ]

pub returns : goal.returns
unfolding system_of
returns c =
    let a = sofar-all _ _ _ _ _ c.loop-e.invariant c.loop-e-test.false in
    record { is_raised = a.0; is_round = a.1; bound = λ b h v. omega (arith, c.loop-e.invariant.bound b h v) }
