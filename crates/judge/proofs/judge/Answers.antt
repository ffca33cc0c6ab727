-- `judge::judge` meets its contract: the reader's refusal, then what is refused of the form.
-- Assumes nothing.
use Rattle.std.specs.Prelude.{Ok}
use mathlib.Core.Path.{◌≡◌}
use native.Mathlib.Omega.{arith}
use Rattle.reader.specs.Outcome.{record_in}
use Rattle.reader.specs.Reading.{read_form}
use Rattle.answer.specs.Refused.{none_fine}
use Rattle.form.specs.Ranges.{WellFormed}
use Rattle.record.specs.Read.{read-good}
use Rattle.record.specs.ReadFirst.{read-as}
use Rattle.tables.specs.Lent.{LentBy, lent-edges}
use Rattle.judge.proofs.Laws.{record-unread, record-judged}
use Rattle.judge.proofs.judge.Goals.{In-Ok, After-times_of}
use Rattle.judge.proofs.judge.Goals as goal

-- the form that was read, in the arm that has it
held : (c : In-Ok) → record_in (Ok c.in-Ok.form) ≡ read_form c.args.«record».now
held c = read-as c.args.«record».now _ _ c.in-Ok.is c.read.ensures

pub returns-in-Err : goal.returns-in-Err
returns-in-Err c = record-unread _ c.into.result _ c.into.ensures (read-as _ _ _ c.in-Err.is c.read.ensures)

-- the form that was read
read : (c : In-Ok) → WellFormed c.in-Ok.form
read c = read-good c.args.«record».now _ (held c) (λ i. omega (arith, c.type_inv.«record» i)) none_fine

pub times_of-requires : goal.times_of-requires
times_of-requires c = read (goal.at.times_of-requires c).In-Ok

lent : (c : After-times_of) → WellFormed c.in-Ok.form → LentBy c.in-Ok.form c.edges.result c.times_of.result
lent c w = lent-edges _ c.edges.result _ c.edges.ensures.count c.edges.ensures.tables w c.times_of.ensures

pub judge_tables-requires : goal.judge_tables-requires
judge_tables-requires c = (c.in-Ok.form, lent c (read (goal.at.judge_tables-requires c).In-Ok))

pub returns-in-Ok : goal.returns-in-Ok
returns-in-Ok c =
    let w = read (goal.at.returns-in-Ok c).In-Ok in
    record-judged _ _ (held (goal.at.returns-in-Ok c).In-Ok) none_fine _ (c.judge_tables.ensures _ (lent (goal.at.returns-in-Ok c).After-times_of w))
