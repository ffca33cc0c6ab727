-- `answer::edge_within` meets its contract.
-- Assumes nothing.
use native.Mathlib.Omega.{arith}
use Rattle.lists.specs.Pick.{pick}
use borrow.Author.Tests.{lt-ltb, le-ltb}
use Rattle.answer.proofs.edge_within.Goals as goal

pub returns-then-place-count : goal.returns-then-place-count
unfolding pick
returns-then-place-count c = rw (lt-ltb c.args.place c.args.count (omega (arith, c.if-place-count.true)))

pub returns : goal.returns
unfolding pick
returns c = rw (le-ltb _ _ c.if-place-count.false)
