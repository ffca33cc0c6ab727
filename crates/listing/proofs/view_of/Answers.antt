-- `listing::view_of` meets its contract: the reader's refusal, the judge's, else a form whose numbers are small, with its loop's floor.
-- Assumes nothing.
use Rattle.std.specs.Prelude.{◌≡◌, Ok}
use Rattle.std.proofs.lemmas.Result.{err_from_is_err_and}
use mathlib.Core.Path.{refl}
use native.Mathlib.Omega.{arith}
use Rattle.answer.specs.Refused.{fine}
use Rattle.form.specs.Ranges.{WellFormed}
use Rattle.reader.specs.Outcome.{record_in}
use Rattle.reader.specs.Reading.{read_form}
use Rattle.record.specs.Read.{read-good}
use Rattle.record.specs.ReadFirst.{read-as}
use Rattle.tables.specs.Lent.{LentBy, lent-form}
use Rattle.listing.proofs.Accepted.{read-viewed, judged-viewed, floor-viewed, form-viewed}
use Rattle.listing.proofs.view_of.Goals.{In-Ok, After-times_of-times}
use Rattle.listing.proofs.view_of.Goals as goal

-- the form that was read, in the arm that has it
held : (c : In-Ok) → record_in (Ok c.in-Ok.form) ≡ read_form c.args.«record».now
held c = read-as c.args.«record».now _ _ c.in-Ok.is c.read.ensures

pub returns-in-Err : goal.returns-in-Err
returns-in-Err c = read-viewed _ c.into.result (rw c.into.ensures.0 (read-as _ _ _ c.in-Err.is c.read.ensures))

-- a form that was read is in its ranges, and lent
good : (p : In-Ok) → WellFormed p.in-Ok.form
unfolding fine
good p = read-good p.args.«record».now _ (held p) (λ i. omega (arith, p.type_inv.«record» i)) refl

lent : (p : After-times_of-times) → WellFormed p.in-Ok.form → LentBy p.in-Ok.form p.edges-edges.result p.times_of-times.result
lent p w =
    let e = p.edges-edges.ensures in
    rw (e.count, e.tables.0, e.tables.1, e.tables.2) (lent-form _ _ w p.times_of-times.ensures)

pub times_of-times-requires : goal.times_of-times-requires
times_of-times-requires c = good (goal.at.times_of-times-requires c).In-Ok

pub judge_tables-requires : goal.judge_tables-requires
judge_tables-requires c = let at = goal.at.judge_tables-requires c in (c.in-Ok.form, lent at.After-times_of-times (good at.In-Ok))

pub returns-in_err-judge_tables-in-Ok : goal.returns-in_err-judge_tables-in-Ok
returns-in_err-judge_tables-in-Ok c =
    let at = goal.at.returns-in_err-judge_tables-in-Ok c in
    let p = err_from_is_err_and c.from_residual.result c.from_residual.ensures.1 in
    rw (p.1, p.2) (judged-viewed _ _ (held at.In-Ok) _ (c.in_err-judge_tables-in-Ok.ensures _ (lent at.After-times_of-times (good at.In-Ok))).refusal)

pub floor_tables-requires : goal.floor_tables-requires
floor_tables-requires c = let at = goal.at.floor_tables-requires c in (c.in-Ok.form, lent at.After-times_of-times (good at.In-Ok))

pub returns-in_err-attained-in-Ok : goal.returns-in_err-attained-in-Ok
returns-in_err-attained-in-Ok c =
    let at = goal.at.returns-in_err-attained-in-Ok c in
    let w = good at.In-Ok in
    let l = lent at.After-times_of-times w in
    let p = err_from_is_err_and c.from_residual-in_err-attained-in-Ok.result c.from_residual-in_err-attained-in-Ok.ensures.1 in
    rw (p.1, p.2) (floor-viewed _ _ (held at.In-Ok) w (c.in_ok-judge_tables-in-Ok.ensures _ l).refusal _ (c.in_err-attained-in-Ok.ensures _ l))

pub returns-in_ok-attained-in-Ok : goal.returns-in_ok-attained-in-Ok
returns-in_ok-attained-in-Ok c =
    let at = goal.at.returns-in_ok-attained-in-Ok c in
    let w = good at.In-Ok in
    let l = lent at.After-times_of-times w in
    form-viewed _ _ (held at.In-Ok) w (c.in_ok-judge_tables-in-Ok.ensures _ l).refusal _ (c.in_ok-attained-in-Ok.ensures _ l)
