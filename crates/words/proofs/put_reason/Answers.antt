-- `words::put_reason` meets its contract: a field of the record, a rule of schedules, or a limit.
-- Assumes nothing.
use native.Mathlib.Omega.{arith}
use Rattle.words.proofs.Laws.{shape-reason, rule-reason}
use Rattle.words.proofs.put_reason.Goals as goal

pub returns-then-number-lt11 : goal.returns-then-number-lt11
returns-then-number-lt11 c = (omega arith, shape-reason _ _ _ _ _ (omega arith) (rw c.requires.1 at c.put_shape.ensures.1))

pub returns-then-number-lt16 : goal.returns-then-number-lt16
returns-then-number-lt16 c = (omega arith, rule-reason _ _ _ _ _ (omega arith) (rw c.requires.1 at c.put_rule.ensures.1))

pub returns : goal.returns
returns c = (omega arith, rule-reason _ _ _ _ _ (omega arith) (rw c.requires.1 at c.put_limit.ensures.1))
