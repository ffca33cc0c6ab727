-- `fit::fit` meets its contract: the reader's refusal, else what becomes of the plan.
-- Assumes nothing.
use Rattle.record.specs.ReadFirst.{read-as}
use Rattle.answer.specs.Refused.{none_fine}
use Rattle.std.specs.Prelude.{◌≡◌, Ok, Err}
use native.Mathlib.Omega.{arith}
use Rattle.form.specs.Ranges.{WellFormed}
use Rattle.field.specs.Number.{Bytes}
use Rattle.reader.specs.Outcome.{record_in}
use Rattle.reader.specs.Reading.{read_form}
use Rattle.record.specs.Read.{read-good}
use Rattle.plans.specs.Pairs.{SameButPair}
use Rattle.plans.specs.Tabled.{TabledBy, tabled-edges}
use Rattle.plans.specs.Kept.{read_kept}
use Rattle.plans.specs.Scheduling.{unturned}
use Rattle.plans.proofs.Entries.{entry-unread, plan-taken, entry-refused, entry-planned}
use Rattle.fit.specs.Retimed.{fitted_form}
use Rattle.fit.specs.Fitting.{fit_of}
use Rattle.fit.proofs.Plans.{fit-writes}
use Rattle.fit.proofs.fit.Goals.{In-Ok, After-times_of}
use Rattle.fit.proofs.fit.Goals as goal

-- the form that was read, and its tables
back : (c : In-Ok) → record_in (Ok c.in-Ok.form) ≡ read_form c.args.«record».now
back c = read-as c.args.«record».now _ _ c.in-Ok.is c.read.ensures

bytes : (c : In-Ok) → Bytes c.args.«record».now
bytes c i = omega (arith, c.type_inv.«record» i)

good : (c : In-Ok) → WellFormed c.in-Ok.form
good c = read-good _ _ (back c) (bytes c) none_fine

kept : (c : In-Ok) → SameButPair c.in-Ok.form c.in-Ok.form
kept c = read_kept _ _ (back c) (bytes c) none_fine

tabled : (c : After-times_of) → WellFormed c.in-Ok.form → TabledBy c.in-Ok.form c.edges.result c.times_of.result
tabled c w = tabled-edges _ c.edges.result _ c.edges.ensures.count c.edges.ensures.tables w c.times_of.ensures

pub times_of-requires : goal.times_of-requires
times_of-requires c = good (goal.at.times_of-requires c).In-Ok

pub plan_tables-requires : goal.plan_tables-requires
plan_tables-requires c =
    let at = goal.at.plan_tables-requires c in
    (c.in-Ok.form, (tabled at.After-times_of (good at.In-Ok)).lent)

pub returns-in_err-plan-in-Ok : goal.returns-in_err-plan-in-Ok
returns-in_err-plan-in-Ok c =
    let at = goal.at.returns-in_err-plan-in-Ok c in
    entry-refused fit_of fitted_form unturned _ _ _ (back at.In-Ok) (bytes at.In-Ok) fit-writes _ c.in_err-plan-in-Ok.field-0.0
    (c.in_err-plan-in-Ok.ensures _ (tabled at.After-times_of (good at.In-Ok)) (kept at.In-Ok)) _ c.from_residual.ensures.1

pub write_plan-requires : goal.write_plan-requires
write_plan-requires c =
    let at = goal.at.write_plan-requires c in
    plan-taken fit_of fitted_form unturned _ c.args.out.now _ (back at.In-Ok) (bytes at.In-Ok) fit-writes _
    (c.in_ok-plan-in-Ok.ensures _ (tabled at.After-times_of (good at.In-Ok)) (kept at.In-Ok)) none_fine

pub returns-in_ok-plan-in-Ok : goal.returns-in_ok-plan-in-Ok
returns-in_ok-plan-in-Ok c =
    let at = goal.at.returns-in_ok-plan-in-Ok c in
    entry-planned fit_of fitted_form unturned _ _ _ (back at.In-Ok) (bytes at.In-Ok) fit-writes _
    (c.in_ok-plan-in-Ok.ensures _ (tabled at.After-times_of (good at.In-Ok)) (kept at.In-Ok)) _ _ c.write_plan.ensures

pub returns-in-Err : goal.returns-in-Err
returns-in-Err c = entry-unread _ _ _ _ _ _ (read-as _ _ _ c.in-Err.is c.read.ensures) (Err c.into.result) c.into.ensures
