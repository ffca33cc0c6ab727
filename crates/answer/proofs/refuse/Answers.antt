-- `answer::refuse` meets its contract: the refusal's details are told, whatever the numbers.
-- Assumes nothing.
use Rattle.std.specs.Prelude.{Some}
use Rattle.answer.proofs.Laws.{told-refused}
use Rattle.answer.proofs.refuse.Goals as goal

pub returns-clause-all : goal.returns-clause-all
returns-clause-all c numbers =
    rw (told-refused c.args.refusal numbers, ← c.details.ensures) (c.lay.ensures (Some c.args.refusal) c.number-number.ensures)
