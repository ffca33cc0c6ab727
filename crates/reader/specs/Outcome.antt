-- What an answer tells, as the definitions speak of it.
-- Assumes nothing.
use Rattle.std.specs.Prelude.{List, ℕ, Result, Ok, Err, None, Some}
use Rattle.answer.specs.Refused.{Verdict}
use Rattle.form.specs.declared.Form.{Form}
use Rattle.form.specs.declared.BodyStep.{BodyStep}
use Rattle.field.specs.Outcome.{Cursor}
use Rattle.answer.specs.declared.Refusal.{Refusal}
use Rattle.form.specs.Places.{empty_form}
use Rattle.reader.specs.declared.Front.{Front}

-- the form as far as it is read, and the cursor
pub record Reading : Type 0 where
  pub form : Form
  pub next : Cursor

-- the edges' rows, a table for each of their fields
pub record EdgeTable : Type 0 where
  pub from : List ℕ
  pub to : List ℕ
  pub delays : List ℕ

abbrev pub edge_table : List ℕ → List ℕ → List ℕ → EdgeTable
edge_table ts hs ds = record { from = ts; to = hs; delays = ds }

-- the starts and retimings
pub record PlacedTable : Type 0 where
  pub start : List BodyStep
  pub retiming : List ℕ

abbrev pub placed_table : List BodyStep → List ℕ → PlacedTable
placed_table ss rs = record { start = ss; retiming = rs }

-- what a stage tells: the table that it filled, or its refusal
abbrev pub table_in : {A : Type 0} → Result Unit Refusal → A → Result A Refusal
table_in (Ok done) a = Ok a
table_in (Err refusal) a = Err refusal

-- what the stages tell: the form that they filled and where its record ends, or the refusal
abbrev pub front_in : Result ℕ Refusal → Form → Result Front Refusal
front_in (Ok size) f = Ok (record { size = size; form = f })
front_in (Err refusal) f = Err refusal

-- what reading the record at the front answers: its form and where it ends, or the refusal, the empty form and 0
pub record Prefix : Type 0 where
  pub refusal : Verdict
  pub size : ℕ
  pub form : Form

-- what reading a record answers: its form, or the refusal and the empty form
pub record Record : Type 0 where
  pub refusal : Verdict
  pub form : Form

abbrev pub prefix_in : Result Front Refusal → Prefix
prefix_in (Ok front) = record { refusal = None; size = front.size; form = front.form }
prefix_in (Err refusal) = record { refusal = Some refusal; size = 0; form = empty_form }

abbrev pub record_in : Result Form Refusal → Record
record_in (Ok form) = record { refusal = None; form = form }
record_in (Err refusal) = record { refusal = Some refusal; form = empty_form }
