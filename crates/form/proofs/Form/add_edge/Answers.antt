-- `form::Form::add_edge` meets its contract.
-- Assumes nothing.
use native.Mathlib.Omega.{arith}
use borrow.Author.Tests.{le-ltb, lt-ltb}
use Rattle.lists.specs.Pick.{pick}
use Rattle.form.specs.Adding.{added_to, edge_added}
use Rattle.form.proofs.Form.add_edge.Goals as goal

pub returns-then-full : goal.returns-then-full
unfolding edge_added added_to pick
returns-then-full c = simp (le-ltb c.args.self.header.edges 256 (omega (arith, c.if-full.true)))

pub returns : goal.returns
unfolding edge_added added_to pick
returns c = simp (lt-ltb c.args.self.header.edges 256 (omega (arith, c.if-full.false)))
