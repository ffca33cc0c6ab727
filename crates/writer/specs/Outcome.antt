-- What an answer tells, as the definitions speak of it.
-- Assumes nothing.
use Rattle.std.specs.Prelude.{ℕ, Result, Ok, Err, None, Some}
use Rattle.answer.specs.Refused.{Verdict}
use Rattle.answer.specs.declared.Refusal.{Refusal}

-- what writing a form answers: the record's size, or the refusal and 0
pub record Written : Type 0 where
  pub refusal : Verdict
  pub size : ℕ

abbrev pub written_in : Result ℕ Refusal → Written
written_in (Ok size) = record { refusal = None; size = size }
written_in (Err refusal) = record { refusal = Some refusal; size = 0 }
