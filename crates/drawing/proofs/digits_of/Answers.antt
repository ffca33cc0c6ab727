-- `drawing::digits_of` meets its contract: one, two or three digits.
-- Assumes nothing.
use native.Mathlib.Omega.{arith}
use Rattle.drawing.proofs.Laws.{one-long, two-long, three-long}
use Rattle.drawing.proofs.digits_of.Goals as goal

pub returns-then-number-lt10 : goal.returns-then-number-lt10
returns-then-number-lt10 c = (one-long _ (omega arith), omega arith, λ h. omega arith)

pub returns-then-number-lt100 : goal.returns-then-number-lt100
returns-then-number-lt100 c = (two-long _ (omega arith) (omega arith), omega arith, λ h. omega arith)

pub returns : goal.returns
returns c = (three-long _ (omega arith), omega arith, λ h. omega arith)
