-- What an answer tells, as the definitions speak of it.
-- Assumes nothing.
use Rattle.answer.specs.Refused.{Verdict}
use Rattle.answer.specs.declared.Cycle.{Cycle}
use Rattle.std.specs.Prelude.{Result, Ok, Err, None, Some}
use Rattle.answer.specs.declared.Refused.{Refused}
use Rattle.answer.specs.Outcome.{no_cycle, cycle_or}

-- what is refused, if anything, and the cycle that proves a knot
pub record Ruling : Type 0 where
  pub refusal : Verdict
  pub cycle : Cycle

abbrev pub judged_in : Result Unit Refused → Ruling
judged_in (Ok done) = record { refusal = None; cycle = no_cycle }
judged_in (Err e) = record { refusal = Some e.refusal; cycle = cycle_or e.cycle }
