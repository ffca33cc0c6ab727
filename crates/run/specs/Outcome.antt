-- What an answer tells, as the definitions speak of it.
-- Assumes nothing.
use Rattle.std.specs.Prelude.{ℕ, Result, Ok, Err, None, Some}
use Rattle.answer.specs.Refused.{Verdict}
use Rattle.answer.specs.declared.Refusal.{Refusal}

-- what a run answers: the number of its run steps, or the refusal with 0
pub record Stepped : Type 0 where
  pub refusal : Verdict
  pub steps : ℕ

abbrev pub ran_in : Result ℕ Refusal → Stepped
ran_in (Ok steps) = record { refusal = None; steps = steps }
ran_in (Err refusal) = record { refusal = Some refusal; steps = 0 }
