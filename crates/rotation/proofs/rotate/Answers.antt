-- `rotation::rotate` meets its contract: the reader's refusal, the plan's, else what becomes of the plan.
-- Assumes nothing.
use Rattle.record.specs.ReadFirst.{read-as}
use Rattle.reader.specs.Outcome.{record_in}
use Rattle.reader.specs.Reading.{read_form}
use Rattle.std.specs.Prelude.{◌≡◌, Ok, Err}
use native.Mathlib.Omega.{arith}
use Rattle.answer.specs.Refused.{none_fine}
use Rattle.form.specs.Ranges.{WellFormed}
use Rattle.record.specs.Read.{read-good}
use Rattle.plans.specs.Tabled.{TabledBy, tabled-edges}
use Rattle.plans.specs.Scheduling.{unturned}
use Rattle.plans.proofs.Entries.{entry-unread, plan-taken, entry-planned, entry-refused}
use Rattle.rotation.specs.Rotating.{rotate_asked, rotated_by}
use Rattle.rotation.proofs.Rotates.{rotate-writes}
use Rattle.rotation.proofs.rotate.Goals.{In-Ok, After-times_of}
use Rattle.rotation.proofs.rotate.Goals as goal

-- the form that was read, in the arm that has it
held : (c : In-Ok) → record_in (Ok c.in-Ok.form) ≡ read_form c.args.«record».now
held c = read-as c.args.«record».now _ _ c.in-Ok.is c.read.ensures

good : (c : In-Ok) → WellFormed c.in-Ok.form
good c = read-good c.args.«record».now _ (held c) (λ i. omega (arith, c.type_inv.«record» i)) none_fine

pub returns-in-Err : goal.returns-in-Err
returns-in-Err c = entry-unread _ _ _ _ _ _ (read-as _ _ _ c.in-Err.is c.read.ensures) (Err c.into.result) c.into.ensures

pub times_of-requires : goal.times_of-requires
times_of-requires c = good (goal.at.times_of-requires c).In-Ok

tabled : (p : After-times_of) → WellFormed p.in-Ok.form → TabledBy p.in-Ok.form p.edges.result p.times_of.result
tabled p w = tabled-edges _ p.edges.result _ p.edges.ensures.count p.edges.ensures.tables w p.times_of.ensures

pub rotate_plan-requires : goal.rotate_plan-requires
rotate_plan-requires c = let at = goal.at.rotate_plan-requires c in (c.in-Ok.form, tabled at.After-times_of (good at.In-Ok))

pub returns-in_err-plan-in-Ok : goal.returns-in_err-plan-in-Ok
returns-in_err-plan-in-Ok c =
    let at = goal.at.returns-in_err-plan-in-Ok c in
    entry-refused (rotate_asked c.args.steps) (rotated_by c.args.steps) unturned c.args.«record».now c.args.out.now _ (held at.In-Ok) (λ i. omega (arith, c.type_inv.«record» i)) (rotate-writes c.args.steps) _ c.in_err-plan-in-Ok.field-0.0
    (c.in_err-plan-in-Ok.ensures _ (tabled at.After-times_of (good at.In-Ok))) _ c.from_residual.ensures.1

pub write_plan-requires : goal.write_plan-requires
write_plan-requires c =
    let at = goal.at.write_plan-requires c in
    plan-taken (rotate_asked c.args.steps) (rotated_by c.args.steps) unturned c.args.«record».now c.args.out.now _ (held at.In-Ok) (λ i. omega (arith, c.type_inv.«record» i)) (rotate-writes c.args.steps) _
    (c.in_ok-plan-in-Ok.ensures _ (tabled at.After-times_of (good at.In-Ok))) none_fine

pub returns-in_ok-plan-in-Ok : goal.returns-in_ok-plan-in-Ok
returns-in_ok-plan-in-Ok c =
    let at = goal.at.returns-in_ok-plan-in-Ok c in
    entry-planned (rotate_asked c.args.steps) (rotated_by c.args.steps) unturned c.args.«record».now c.args.out.now _ (held at.In-Ok) (λ i. omega (arith, c.type_inv.«record» i)) (rotate-writes c.args.steps) _
    (c.in_ok-plan-in-Ok.ensures _ (tabled at.After-times_of (good at.In-Ok))) _ _ c.write_plan.ensures
