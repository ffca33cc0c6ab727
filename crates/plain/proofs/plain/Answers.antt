-- `plain::plain` meets its contract: the reader's refusal, else the form's.
-- Assumes nothing.
use Rattle.reader.specs.Outcome.{record_in}
use Rattle.reader.specs.Reading.{read_form}
use Rattle.std.specs.Prelude.{◌≡◌, Ok}
use mathlib.Core.Path.{refl}
use native.Mathlib.Omega.{arith}
use Rattle.answer.specs.Refused.{fine}
use Rattle.record.specs.ReadFirst.{read-as, well-read}
use Rattle.plain.proofs.Answers.{record-unread, record-looped}
use Rattle.plain.proofs.plain.Goals.{In-Ok}
use Rattle.plain.proofs.plain.Goals as goal

-- the form that was read, in the arm that has it
held : (c : In-Ok) → record_in (Ok c.in-Ok.form) ≡ read_form c.args.«record».now
held c = read-as c.args.«record».now _ _ c.in-Ok.is c.read.ensures

pub returns-in-Err : goal.returns-in-Err
returns-in-Err c = record-unread _ _ _ _ c.into.result _ c.into.ensures (read-as _ _ _ c.in-Err.is c.read.ensures)

pub plain_form-requires : goal.plain_form-requires
unfolding fine
plain_form-requires c = (well-read c.args.«record».now _ (held (goal.at.plain_form-requires c).In-Ok) (λ i. omega (arith, c.type_inv.«record» i)) refl).good

pub returns-in-Ok : goal.returns-in-Ok
returns-in-Ok c = record-looped _ _ _ _ _ _ _ (held (goal.at.returns-in-Ok c).In-Ok) c.plain_form.ensures
