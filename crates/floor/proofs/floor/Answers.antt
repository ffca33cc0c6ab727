-- `floor::floor` meets its contract: the reader's refusal, else the floor of the form.
-- Assumes nothing.
use Rattle.reader.specs.Outcome.{record_in}
use Rattle.reader.specs.Reading.{read_form}
use Rattle.std.specs.Prelude.{◌≡◌, Ok}
use native.Mathlib.Omega.{arith}
use Rattle.answer.specs.Refused.{none_fine}
use Rattle.form.specs.Ranges.{WellFormed}
use Rattle.record.specs.ReadFirst.{read-as, well-read}
use Rattle.tables.specs.Lent.{LentBy, lent-edges}
use Rattle.floor.proofs.Answers.{record-unread, record-floored}
use Rattle.floor.proofs.floor.Goals.{In-Ok, After-times_of}
use Rattle.floor.proofs.floor.Goals as goal

-- the form that was read, in the arm that has it
held : (c : In-Ok) → record_in (Ok c.in-Ok.form) ≡ read_form c.args.«record».now
held c = read-as c.args.«record».now _ _ c.in-Ok.is c.read.ensures

pub returns-in-Err : goal.returns-in-Err
returns-in-Err c = record-unread _ c.into.result _ c.into.ensures (read-as _ _ _ c.in-Err.is c.read.ensures)

-- a form that was read is in its ranges, and lent
good : (p : In-Ok) → WellFormed p.in-Ok.form
good p = (well-read p.args.«record».now _ (held p) (λ i. omega (arith, p.type_inv.«record» i)) none_fine).good

lent : (p : After-times_of) → WellFormed p.in-Ok.form → LentBy p.in-Ok.form p.edges.result p.times_of.result
lent p w = lent-edges _ p.edges.result _ p.edges.ensures.count p.edges.ensures.tables w p.times_of.ensures

pub times_of-requires : goal.times_of-requires
times_of-requires c = good (goal.at.times_of-requires c).In-Ok

pub floor_tables-requires : goal.floor_tables-requires
floor_tables-requires c = let at = goal.at.floor_tables-requires c in (c.in-Ok.form, lent at.After-times_of (good at.In-Ok))

pub returns-in-Ok : goal.returns-in-Ok
returns-in-Ok c = let at = goal.at.returns-in-Ok c in record-floored _ _ _ (held at.In-Ok) (c.floor_tables.ensures _ (lent at.After-times_of (good at.In-Ok)))
