-- `reader::classes` meets its contract: each class is read in turn.
-- Assumes nothing.
use native.Mathlib.Omega.{arith}
use borrow.Author.Rules.{rules}
use Rattle.answer.specs.Outcome.{err-is}
use Rattle.reader.specs.Tables.{class_step}
use Rattle.reader.proofs.Laws.{begin, turn, stop, finish}
use Rattle.reader.proofs.classes.Goals as goal

pub loop-i-init : goal.loop-i-init
loop-i-init c = (search rules, λ f. rw c.requires.none begin)

pub returns-in_err-class : goal.returns-in_err-class
unfolding class_step
returns-in_err-class c =
    rw (err-is _ _ c.from_residual.ensures.1) (λ f. stop (c.loop-i.invariant.1 f) c.loop-i-test.true _ (c.in_err-class.ensures))

pub loop-i-preserved : goal.loop-i-preserved
unfolding class_step
loop-i-preserved c = (search rules, λ f. turn (c.loop-i.invariant.1 f) c.loop-i-test.true _ (rw (← c.in_ok-class.ensures)))

pub returns : goal.returns
returns c f = finish (c.loop-i.invariant.1 f) (omega arith)
