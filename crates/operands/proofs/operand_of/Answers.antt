-- `operands::operand_of` meets its contract: the place lies in the start table or among the values.
-- Assumes nothing.
use native.Mathlib.Omega.{arith}
use lib.ListN.{length}
use borrow.Author.Tests.{le-ltb, lt-ltb}
use Rattle.lists.specs.Pick.{pick}
use Rattle.operands.specs.Tables.{handed}
use Rattle.operands.proofs.Laws.{back-small, back_in}
use Rattle.operands.proofs.operand_of.Goals as goal

pub returns-then-i-back : goal.returns-then-i-back
unfolding handed pick
returns-then-i-back c =
    rw (lt-ltb c.args.iteration.0 c.args.delays (omega arith))

pub returns : goal.returns
unfolding handed pick
returns c =
    rw (le-ltb c.args.iteration.0 c.args.delays (omega arith))
