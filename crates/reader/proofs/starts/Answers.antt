-- `reader::starts` meets its contract: each start and retiming is read in turn.
-- Assumes nothing.
use native.Mathlib.Omega.{arith}
use borrow.Author.Rules.{rules}
use Rattle.answer.specs.Outcome.{err-is}
use Rattle.reader.specs.Tables.{start_step}
use Rattle.reader.proofs.Laws.{begin, turn, stop, finish}
use Rattle.reader.proofs.starts.Goals as goal

pub loop-i-init : goal.loop-i-init
loop-i-init c = (search rules, search rules, λ f k m n. rw c.requires.none begin)

pub returns-in_err-row : goal.returns-in_err-row
unfolding start_step
returns-in_err-row c =
    rw (err-is _ _ c.from_residual.ensures.1, ← c.scheduled_nodes-count.ensures.0) (λ f k m n. stop (c.loop-i.invariant.2 f k m n) c.loop-i-test.true _ (rw (k, m, n, ← c.latency_of-latency.ensures) c.in_err-row.ensures))

pub loop-i-preserved : goal.loop-i-preserved
unfolding start_step
loop-i-preserved c = (search rules, search rules, λ f k m n. turn (c.loop-i.invariant.2 f k m n) c.loop-i-test.true _ (rw (k, m, n, ← c.latency_of-latency.ensures, ← c.in_ok-row.ensures)))

pub returns : goal.returns
returns c =
    rw (← c.scheduled_nodes-count.ensures.0) (λ f k m n. finish (c.loop-i.invariant.2 f k m n) (omega arith))
