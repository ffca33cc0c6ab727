-- What an answer tells, as the definitions speak of it.
-- Assumes nothing.
use Rattle.std.specs.Prelude.{Bool, List, ℕ, Result, Ok, Err, true, false}
use Rattle.answer.specs.declared.Cycle.{Cycle}
use Rattle.answer.specs.Outcome.{no_cycle}
use Rattle.solve.specs.declared.Unsettled.{Unsettled}

-- the values of the last round, the least ones where the system is settled, and else a losing cycle; the cycle is empty where it is settled
pub record Solution : Type 0 where
  pub settled : Bool
  pub values : List ℕ
  pub cycle : Cycle

abbrev pub solution_in : Result (List ℕ) Unsettled → Solution
solution_in (Ok values) = record { settled = true; values = values; cycle = no_cycle }
solution_in (Err u) = record { settled = false; values = u.values; cycle = u.cycle }
