-- `reader::edges` meets its contract: each edge is read in turn.
-- Assumes nothing.
use native.Mathlib.Omega.{arith}
use borrow.Author.Rules.{rules}
use Rattle.answer.specs.Outcome.{err-is}
use Rattle.reader.specs.Tables.{edge_step}
use Rattle.reader.proofs.Laws.{begin, turn, stop, finish}
use Rattle.reader.proofs.edges.Goals as goal

pub loop-i-init : goal.loop-i-init
loop-i-init c = (search rules, search rules, search rules, λ f k. rw c.requires.none begin)

pub returns-in_err-edge : goal.returns-in_err-edge
unfolding edge_step
returns-in_err-edge c =
    rw (err-is _ _ c.from_residual.ensures.1) (λ f k. stop (c.loop-i.invariant.3 f k) c.loop-i-test.true _ (rw k c.in_err-edge.ensures))

pub loop-i-preserved : goal.loop-i-preserved
unfolding edge_step
loop-i-preserved c = (search rules, search rules, search rules, λ f k. turn (c.loop-i.invariant.3 f k) c.loop-i-test.true _ (rw (k, ← c.in_ok-edge.ensures)))

pub returns : goal.returns
returns c f k = finish (c.loop-i.invariant.3 f k) (omega arith)
