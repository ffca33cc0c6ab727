-- What an answer tells, as the definitions speak of it.
-- Assumes nothing.
use Rattle.std.specs.Prelude.{ℕ, Result, Ok, Err, None, Some}
use Rattle.answer.specs.Refused.{Verdict}
use Rattle.answer.specs.declared.Cycle.{Cycle}
use Rattle.tables.specs.declared.Timetable.{Timetable}
use Rattle.answer.specs.declared.Refused.{Refused}
use Rattle.answer.specs.Outcome.{no_cycle, cycle_or}
use Rattle.plans.specs.declared.Rewritten.{Rewritten}
use Rattle.plans.specs.declared.Turned.{Turned}

-- what a fit, a first schedule, a rotation and a search answer: the size of the record written and the rotations completed, or the refusal with 0
pub record Scheduled : Type 0 where
  pub refusal : Verdict
  pub size : ℕ
  pub rotations : ℕ
  pub cycle : Cycle

-- a timetable with a form's new pair and the rotations that it took, or what is refused of the form with its cycle
pub record Plan : Type 0 where
  pub refusal : Verdict
  pub rotations : ℕ
  pub cycle : Cycle
  pub times : Timetable

abbrev pub scheduled_in : Result Rewritten Refused → Scheduled
scheduled_in (Ok r) = record { refusal = None; size = r.size; rotations = r.rotations; cycle = no_cycle }
scheduled_in (Err e) = record { refusal = Some e.refusal; size = 0; rotations = 0; cycle = cycle_or e.cycle }

-- a plan that is refused keeps the timetable as it was
abbrev pub plan_in : Timetable → Result Turned Refused → Plan
plan_in before (Ok t) = record { refusal = None; rotations = t.rotations; cycle = no_cycle; times = t.times }
plan_in before (Err e) = record { refusal = Some e.refusal; rotations = 0; cycle = cycle_or e.cycle; times = before }
