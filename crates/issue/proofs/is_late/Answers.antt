-- `issue::is_late` meets its contract: the place lies among the finish steps.
-- Assumes nothing.
use native.Mathlib.Omega.{arith}
use Rattle.issue.proofs.Laws.{missing-before, missing-none, missing-some}
use Rattle.issue.proofs.is_late.Goals as goal

pub returns-then-i-back : goal.returns-then-i-back
returns-then-i-back c =
    missing-before c.args.nodes c.args.finish.now c.args.iteration.0 c.args.step.0 c.args.from c.args.delays (omega arith)

pub returns-then-done-eq0 : goal.returns-then-done-eq0
returns-then-done-eq0 c =
    missing-none c.args.nodes c.args.finish.now c.args.iteration.0 c.args.step.0 c.args.from c.args.delays (omega arith) (omega arith)

pub returns : goal.returns
returns c =
    missing-some c.args.nodes c.args.finish.now c.args.iteration.0 c.args.step.0 c.args.from c.args.delays (omega arith) c.if-done-eq0.false
