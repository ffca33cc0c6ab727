-- `search::search` meets its contract: the reader's refusal, the plan's, else what becomes of the plan.
-- Assumes nothing.
use Rattle.record.specs.ReadFirst.{read-as}
use Rattle.reader.specs.Outcome.{record_in}
use Rattle.reader.specs.Reading.{read_form}
use Rattle.std.specs.Prelude.{◌≡◌, Ok, Err}
use Prim.Native.Nat.{◌<◌}
use native.Mathlib.Omega.{arith}
use borrow.Author.Rules.{rules}
use Rattle.answer.specs.Refused.{none_fine}
use Rattle.form.specs.Ranges.{WellFormed}
use Rattle.record.specs.Read.{read-good}
use Rattle.plans.specs.Tabled.{TabledBy, tabled-edges}
use Rattle.plans.proofs.Entries.{entry-unread, plan-taken, entry-planned, entry-refused}
use Rattle.search.specs.Searching.{search_asked, search_form, search_turns}
use Rattle.search.proofs.Plans.{search-writes}
use Rattle.search.proofs.search.Goals.{Start, In-Ok, After-times_of}
use Rattle.search.proofs.search.Goals as goal

-- the form that was read, in the arm that has it
held : (c : In-Ok) → record_in (Ok c.in-Ok.form) ≡ read_form c.args.«record».now
held c = read-as c.args.«record».now _ _ c.in-Ok.is c.read.ensures

small : (c : Start) → c.args.size < 65536
small c = search rules

good : (c : In-Ok) → WellFormed c.in-Ok.form
good c = read-good c.args.«record».now _ (held c) (λ i. omega (arith, c.type_inv.«record» i)) none_fine

pub returns-in-Err : goal.returns-in-Err
returns-in-Err c = entry-unread _ _ _ _ _ _ (read-as _ _ _ c.in-Err.is c.read.ensures) (Err c.into.result) c.into.ensures

pub times_of-requires : goal.times_of-requires
times_of-requires c = good (goal.at.times_of-requires c).In-Ok

tabled : (p : After-times_of) → WellFormed p.in-Ok.form → TabledBy p.in-Ok.form p.edges.result p.times_of.result
tabled p w = tabled-edges _ p.edges.result _ p.edges.ensures.count p.edges.ensures.tables w p.times_of.ensures

pub search_plan-requires : goal.search_plan-requires
search_plan-requires c = let at = goal.at.search_plan-requires c in (c.in-Ok.form, tabled at.After-times_of (good at.In-Ok))

pub returns-in_err-plan-in-Ok : goal.returns-in_err-plan-in-Ok
returns-in_err-plan-in-Ok c =
    let at = goal.at.returns-in_err-plan-in-Ok c in
    entry-refused (search_asked c.args.size) (search_form c.args.count c.args.size) (search_turns c.args.count c.args.size) c.args.«record».now c.args.out.now _ (held at.In-Ok) (λ i. omega (arith, c.type_inv.«record» i)) (search-writes c.args.count c.args.size (small at.Start)) _ c.in_err-plan-in-Ok.field-0.0
    (c.in_err-plan-in-Ok.ensures _ (tabled at.After-times_of (good at.In-Ok))) _ c.from_residual.ensures.1

pub write_plan-requires : goal.write_plan-requires
write_plan-requires c =
    let at = goal.at.write_plan-requires c in
    plan-taken (search_asked c.args.size) (search_form c.args.count c.args.size) (search_turns c.args.count c.args.size) c.args.«record».now c.args.out.now _ (held at.In-Ok) (λ i. omega (arith, c.type_inv.«record» i)) (search-writes c.args.count c.args.size (small at.Start)) _
    (c.in_ok-plan-in-Ok.ensures _ (tabled at.After-times_of (good at.In-Ok))) none_fine

pub returns-in_ok-plan-in-Ok : goal.returns-in_ok-plan-in-Ok
returns-in_ok-plan-in-Ok c =
    let at = goal.at.returns-in_ok-plan-in-Ok c in
    entry-planned (search_asked c.args.size) (search_form c.args.count c.args.size) (search_turns c.args.count c.args.size) c.args.«record».now c.args.out.now _ (held at.In-Ok) (λ i. omega (arith, c.type_inv.«record» i)) (search-writes c.args.count c.args.size (small at.Start)) _
    (c.in_ok-plan-in-Ok.ensures _ (tabled at.After-times_of (good at.In-Ok))) _ _ c.write_plan.ensures
