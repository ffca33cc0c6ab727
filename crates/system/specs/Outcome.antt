-- What an answer tells, as the definitions speak of it.
-- Assumes nothing.
use Rattle.std.specs.Prelude.{Bool, List, ℕ, Result, Ok, Err, true, false}

-- values that solve the system, if settled; else those of the last round
pub record Settled : Type 0 where
  pub settled : Bool
  pub values : List ℕ

abbrev pub settled_in : Result (List ℕ) (List ℕ) → Settled
settled_in (Ok values) = record { settled = true; values = values }
settled_in (Err values) = record { settled = false; values = values }
