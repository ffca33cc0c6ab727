-- What an answer tells, as the definitions speak of it.
-- Assumes nothing.
use Rattle.std.specs.Prelude.{Bool, List, ℕ, Result, Ok, Err, true, false, replicate}
use Rattle.answer.specs.declared.Cycle.{Cycle}
use Rattle.answer.specs.Outcome.{no_cycle}

-- the retiming where one fits, all 0 else; the cycle that proves that none does
pub record Fitting : Type 0 where
  pub fits : Bool
  pub retiming : List ℕ
  pub cycle : Cycle

abbrev pub fitting_in : Result (List ℕ) Cycle → Fitting
fitting_in (Ok retiming) = record { fits = true; retiming = retiming; cycle = no_cycle }
fitting_in (Err cycle) = record { fits = false; retiming = replicate 64 0; cycle = cycle }
