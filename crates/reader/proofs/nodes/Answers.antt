-- `reader::nodes` meets its contract: each node is read in turn.
-- Assumes nothing.
use native.Mathlib.Omega.{arith}
use borrow.Author.Rules.{rules}
use Rattle.answer.specs.Outcome.{err-is}
use Rattle.reader.specs.Tables.{node_step}
use Rattle.reader.proofs.Laws.{begin, turn, stop, finish}
use Rattle.reader.proofs.nodes.Goals as goal

pub loop-i-init : goal.loop-i-init
loop-i-init c = (search rules, λ f k. rw c.requires.none begin)

pub returns-in_err-node : goal.returns-in_err-node
unfolding node_step
returns-in_err-node c =
    rw (err-is _ _ c.from_residual.ensures.1) (λ f k. stop (c.loop-i.invariant.1 f k) c.loop-i-test.true _ (rw k c.in_err-node.ensures))

pub loop-i-preserved : goal.loop-i-preserved
unfolding node_step
loop-i-preserved c = (search rules, λ f k. turn (c.loop-i.invariant.1 f k) c.loop-i-test.true _ (rw (k, ← c.in_ok-node.ensures)))

pub returns : goal.returns
returns c f k = finish (c.loop-i.invariant.1 f k) (omega arith)
