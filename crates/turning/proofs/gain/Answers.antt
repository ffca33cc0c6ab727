-- `turning::gain` meets its contract.
-- Assumes nothing.
use native.Mathlib.Omega.{arith}
use borrow.Author.Tests.{le-leb, lt-leb}
use Rattle.list_rule.proofs.Laws.{adds_one, adds_none}
use Rattle.turning.proofs.gain.Goals as goal

pub returns-then-start-steps : goal.returns-then-start-steps
returns-then-start-steps c = omega (arith, adds_one _ (le-leb c.args.start c.args.steps (omega arith)))

pub returns : goal.returns
returns c = omega (arith, adds_none _ (lt-leb c.args.start c.args.steps (omega arith)))
