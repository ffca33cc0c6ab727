-- What an answer tells, as the definitions speak of it.
-- Assumes nothing.
use Rattle.std.specs.Prelude.{ℕ, Result, Ok, Err, None, Some}
use Rattle.answer.specs.Refused.{Verdict}
use Rattle.answer.specs.Outcome.{cycle_or}
use Rattle.answer.specs.declared.Cycle.{Cycle}
use Rattle.answer.specs.declared.Refused.{Refused}
use Rattle.floor_part.specs.Parts.{Part}
use Rattle.floor_part.specs.Parts as part
use Rattle.floor_part.specs.Numbers.{kind_of, part_cycle}
use Rattle.floor.specs.declared.Attained.{Attained}

-- the floor and the part that attains it first; refused, 0 and no part
pub record Floored : Type 0 where
  pub refusal : Verdict
  pub floor : ℕ
  pub part : Part
  pub cycle : Cycle

abbrev pub floored_in : Result Attained Refused → Floored
floored_in (Ok a) = record { refusal = None; floor = a.floor; part = kind_of a.part; cycle = part_cycle a.part }
floored_in (Err e) = record { refusal = Some e.refusal; floor = 0; part = part.None; cycle = cycle_or e.cycle }
