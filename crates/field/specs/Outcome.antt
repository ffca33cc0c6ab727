-- What an answer tells, as the definitions speak of it.
-- Assumes nothing.
use Rattle.std.specs.Prelude.{◌≡◌, ℕ, Result, Ok, Err, None, Some, ◌+◌}
use Rattle.answer.specs.Refused.{Verdict}
use Rattle.answer.specs.declared.Refusal.{Refusal}

-- the offset of the next field; once something is refused, of the field that was
pub record Cursor : Type 0 where
  pub at : ℕ
  pub refusal : Verdict

-- a field's value, 0 if it was refused, and where to go on
pub record Taken : Type 0 where
  pub value : ℕ
  pub next : Cursor

-- a field taken at an offset, or refused there
abbrev pub taken_in : ℕ → ℕ → Result ℕ Refusal → Taken
taken_in at width (Ok value) = record { value = value; next = record { at = at + width; refusal = None } }
taken_in at width (Err refusal) = record { value = 0; next = record { at = at; refusal = Some refusal } }

-- what an outcome says of a definition that goes from cursor to cursor: its value with the cursor past it is all that the definition makes,
-- or the definition ends with the same refusal
module _ {A R : Type 0} (read : A → R) (next : R → Cursor) (whole : R) where
  abbrev pub Reads : Result A Refusal → Type 0
  Reads (Ok a) = read a ≡ whole
  Reads (Err e) = (next whole).refusal ≡ Some e
