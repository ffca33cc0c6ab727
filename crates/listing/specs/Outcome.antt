-- What an answer tells, as the definitions speak of it.
-- Assumes nothing.
use Rattle.std.specs.Prelude.{ℕ, Result, Ok, Err, None, Some}
use Rattle.answer.specs.Refused.{Verdict}
use Rattle.answer.specs.declared.Refusal.{Refusal}

-- the listing's size, or Room and 0
pub record Listed : Type 0 where
  pub refusal : Verdict
  pub size : ℕ

abbrev pub listed_in : Result ℕ Refusal → Listed
listed_in (Ok size) = record { refusal = None; size = size }
listed_in (Err refusal) = record { refusal = Some refusal; size = 0 }
