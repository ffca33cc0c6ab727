-- What an outcome refuses, if anything, and the cycle handed over with it.
-- Assumes nothing.
use Rattle.std.specs.Prelude.{Result, Ok, Err, None, Some}
use Rattle.answer.specs.Refused.{Verdict}
use Rattle.answer.specs.Outcome.{no_cycle, cycle_or}
use Rattle.answer.specs.declared.Refused.{Refused}
use Rattle.answer.specs.declared.Cycle.{Cycle}

module _ {T : Type 0} where
  abbrev pub refused_in : Result T Refused → Verdict
  refused_in (Ok value) = None
  refused_in (Err e) = Some e.refusal

  abbrev pub handed_in : Result T Refused → Cycle
  handed_in (Ok value) = no_cycle
  handed_in (Err e) = cycle_or e.cycle
