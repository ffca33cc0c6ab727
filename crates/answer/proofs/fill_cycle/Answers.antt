-- `answer::fill_cycle` meets its contract.
-- Assumes nothing.
use mathlib.Core.Path.{◌≡◌, refl}
use native.Mathlib.Omega.{arith}
use Rattle.lists.specs.Span.{span}
use Rattle.answer.specs.Outcome.{cycle_edge, cycle_list}
use Rattle.answer.proofs.Laws.{place-more}
use Rattle.answer.proofs.fill_cycle.Goals as goal

pub loop-i-init : goal.loop-i-init
unfolding span
loop-i-init c = refl

pub loop-i-preserved : goal.loop-i-preserved
unfolding cycle_edge
loop-i-preserved c = place-more _ _ _ _ _ _ c.loop-i.invariant c.edge_within.ensures

pub returns : goal.returns
unfolding cycle_list
returns c =
    let e : c.loop-i.i ≡ 64 = omega arith in
    rw e at c.loop-i.invariant
