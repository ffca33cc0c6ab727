-- `rotation::rotate_plan` meets its contract: what the judge refuses, Size, then Long, else the form rotated.
-- Assumes nothing.
use mathlib.Core.Path.{refl, ◌∙◌}
use native.Mathlib.Omega.{arith}
use Rattle.std.proofs.lemmas.Result.{err_from_is_err_and}
use Rattle.answer.specs.Outcome.{no_cycle}
use Rattle.rotation.proofs.Rotates.{turns-here, judge-accepted, rotate-unjudged, rotate-turnable, rotate-size, rotate-too-long, rotate-planned}
use borrow.Author.Rules.{rules}
use Rattle.plans.proofs.Entries.{plan-alone}
use Rattle.rotation.proofs.rotate_plan.Goals as goal

pub judge_tables-requires : goal.judge_tables-requires
judge_tables-requires c = (c.requires.0, c.requires.1.lent)

pub returns-in_err-judge_tables : goal.returns-in_err-judge_tables
returns-in_err-judge_tables c f k =
    let told = err_from_is_err_and c.from_residual.result c.from_residual.ensures.1 in
    rw (told.1, told.2) (rotate-unjudged f c.in_err-judge_tables.field-0.0 (c.in_err-judge_tables.ensures f k.lent) c.args.steps _)

pub returns-then-not-turns_by : goal.returns-then-not-turns_by
returns-then-not-turns_by c f k =
    let accepted = judge-accepted f _ (c.in_ok-judge_tables.ensures f k.lent) in
    rotate-size f k.lent.good c.args.steps accepted (turns-here f _ _ _ _ _ k c.args.steps _ c.turns_by.ensures ∙ c.if-not-turns_by.true) _ refl no_cycle refl c.args.times _ (search (rules, plan-alone))

pub rotate_times-turned-requires : goal.rotate_times-turned-requires
rotate_times-turned-requires c =
    let accepted = judge-accepted c.requires.0 _ (c.in_ok-judge_tables.ensures c.requires.0 c.requires.1.lent) in
    (c.requires.0, rotate-turnable c.requires.0 c.requires.1.lent.good c.args.steps accepted (turns-here c.requires.0 _ _ _ _ _ c.requires.1 c.args.steps _ c.turns_by.ensures ∙ c.if-not-turns_by.false) _ _ _ _ _ c.requires.1)

pub returns-then-turned-gt512 : goal.returns-then-turned-gt512
returns-then-turned-gt512 c f k =
    let w = k.lent.good in
    let turns = turns-here f _ _ _ _ _ k c.args.steps _ c.turns_by.ensures ∙ c.if-not-turns_by.false in
    let accepted = judge-accepted f _ (c.in_ok-judge_tables.ensures f k.lent) in
    rotate-too-long f w c.args.steps accepted turns _ (c.rotate_times-turned.ensures f (rotate-turnable f w c.args.steps accepted turns _ _ _ _ _ k)) no_cycle refl (omega (arith, c.if-turned-gt512.true)) c.args.times _ (search (rules, plan-alone))

pub returns : goal.returns
returns c f k =
    let w = k.lent.good in
    let turns = turns-here f _ _ _ _ _ k c.args.steps _ c.turns_by.ensures ∙ c.if-not-turns_by.false in
    let accepted = judge-accepted f _ (c.in_ok-judge_tables.ensures f k.lent) in
    rw c.uncounted.ensures
    (rotate-planned f w c.args.steps accepted turns _ (c.rotate_times-turned.ensures f (rotate-turnable f w c.args.steps accepted turns _ _ _ _ _ k)) no_cycle refl (omega (arith, c.if-turned-gt512.false)))
