-- `answer::tell` meets its contract: nothing is refused, so the numbers are told.
-- Assumes nothing.
use Rattle.std.specs.Prelude.{None}
use mathlib.Core.Path.{refl}
use Rattle.answer.proofs.Laws.{told-fine}
use Rattle.answer.proofs.tell.Goals as goal

pub returns : goal.returns
returns c = (refl, rw (told-fine c.args.numbers) (c.lay.ensures None refl))
