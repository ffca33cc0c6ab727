-- `rules::broken_edge` meets its contract: the first broken edge of those that are left is the first of all.
-- Assumes nothing.
use native.Mathlib.Omega.{arith}
use native.Mathlib.Nat.{sub-zero}
use Rattle.lists.specs.First.{first_next, first-here, first-end}
use Rattle.legal.specs.Loop.{Loop, Pair}
use Rattle.legal.specs.Judging.{broken_edge}
use Rattle.tables.specs.Edges.{ToldBy}
use Rattle.tables.specs.Times.{Timed}
use Rattle.rules.proofs.Laws.{Sides, sides-are, edge-breaks, edge-keeps}
use Rattle.rules.proofs.broken_edge.Goals.{After-from-works}
use Rattle.rules.proofs.broken_edge.Goals as goal

pub loop-e-init : goal.loop-e-init
unfolding broken_edge
loop-e-init c = λ g p told timed. rw (sub-zero, told.all_edges)

-- what the code compares of an edge
sides : (c : After-from-works) (g : Loop) (p : Pair) → ToldBy g c.args.times.nodes c.args.edges → Timed g p c.args.times
    → Sides g p c.loop-e.e c.later-head_begins.result c.later-tail_begins.result c.from-works.result
sides c g p told timed =
    sides-are g p _ _ _ _ _ c.requires.ends told timed _ c.from.result c.from-in-loop-e.result c.from-taken.result _ _ _ c.loop-e-test.true c.from.ensures c.from-in-loop-e.ensures c.from-taken.ensures c.later-head_begins.ensures.0 c.later-tail_begins.ensures.0 c.from-works.ensures

pub returns-then-head_begins-tail_begins-clause-first : goal.returns-then-head_begins-tail_begins-clause-first
returns-then-head_begins-tail_begins-clause-first c =
    λ g p told timed. first-here _ _ _ _ (omega (arith, told.all_edges)) (edge-breaks _ _ _ _ _ _ (sides (goal.at.returns-then-head_begins-tail_begins-clause-first c).After-from-works g p told timed) (omega (arith, c.if-head_begins-tail_begins.true))) (c.loop-e.invariant g p told timed)

pub loop-e-preserved : goal.loop-e-preserved
loop-e-preserved c =
    λ g p told timed. first_next _ _ _ _ c.loop-e-test.true (edge-keeps _ _ _ _ _ _ (sides (goal.at.loop-e-preserved c).After-from-works g p told timed) (omega (arith, c.if-head_begins-tail_begins.false))) (c.loop-e.invariant g p told timed)

pub returns-clause-first : goal.returns-clause-first
returns-clause-first c = λ g p told timed. omega (arith, first-end _ _ _ _ (omega (arith, told.all_edges)) (c.loop-e.invariant g p told timed))
