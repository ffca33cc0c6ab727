-- `fit::plan_tables` meets its contract: each refusal in turn, else the retiming that fits.
-- Assumes nothing.
use native.Mathlib.Omega.{arith}
use Rattle.std.proofs.lemmas.Result.{err_from_is_err_and}
use Rattle.legal.specs.Loop.{loop_of, pair_of}
use Rattle.tables.specs.Times.{no_length, some-length}
use Rattle.tables.specs.Lent.{lent-ends, lent-sound}
use Rattle.rules.specs.Busy.{seated-form}
use Rattle.plans.specs.Pairs.{times_with}
use Rattle.fit.proofs.Plans.{plan-bare, plan-knot, plan-unfit, plan-units, plan-fits, unfit-from, fit-from}
use borrow.Author.Rules.{rules}
use Rattle.plans.proofs.Entries.{plan-alone}
use Rattle.fit.proofs.plan_tables.Goals as goal

pub returns-then-bare : goal.returns-then-bare
returns-then-bare c f tabled same =
    plan-bare f c.args.times (no_length f _ tabled.lent.timed (omega (arith, c.if-bare.true))) _ (search (rules, plan-alone))

pub unknotted-requires : goal.unknotted-requires
unknotted-requires c = lent-ends c.requires.0 _ _ _ _ _ c.requires.1

pub returns-in_err-unknotted : goal.returns-in_err-unknotted
returns-in_err-unknotted c f tabled same =
    let told = err_from_is_err_and c.from_residual.result c.from_residual.ensures.1 in
    rw (told.1, told.2) (plan-knot f _ (some-length f _ tabled.lent.timed c.if-bare.false) c.in_err-unknotted.field-0.0 (c.in_err-unknotted.ensures _ tabled.lent.told))

pub returns-in_err-retiming : goal.returns-in_err-retiming
returns-in_err-retiming c f tabled same =
    let told = err_from_is_err_and c.from_residual-in_err-retiming.result c.from_residual-in_err-retiming.ensures.1 in
    rw (told.1, told.2) (plan-unfit f _ (some-length f _ tabled.lent.timed c.if-bare.false) (c.in_ok-unknotted.ensures _ tabled.lent.told) _ (c.fit_starts.ensures _ tabled.lent) c.in_err-retiming.field-0.0
    (unfit-from _ _ c.in_err-retiming.ensures.cases))

pub crowded-requires : goal.crowded-requires
crowded-requires c =
    record { sound_times = lent-sound c.requires.0 _ _ _ _ _ c.requires.1; timed = (loop_of c.requires.0, (pair_of c.requires.0, c.requires.1.timed, seated-form c.requires.0 c.requires.1.good (some-length c.requires.0 _ c.requires.1.timed c.if-bare.false))) }

pub returns-in_err-crowded : goal.returns-in_err-crowded
returns-in_err-crowded c f tabled same =
    let lent = tabled.lent in
    let some = some-length f _ lent.timed c.if-bare.false in
    let fits = rw (fit-from _ _ c.in_ok-retiming.ensures.cases) at (c.fit_starts.ensures _ lent) in
    let told = err_from_is_err_and c.from_residual-in_err-crowded.result c.from_residual-in_err-crowded.ensures.1 in
    rw (told.1, told.2.0, told.2.1) (plan-units f _ some (c.in_ok-unknotted.ensures _ lent.told) _ fits _ (c.in_err-crowded.ensures _ _ lent.timed (seated-form f lent.good some)))

pub returns : goal.returns
unfolding times_with
returns c f tabled same =
    let lent = tabled.lent in
    let some = some-length f _ lent.timed c.if-bare.false in
    let fits = rw (fit-from _ _ c.in_ok-retiming.ensures.cases) at (c.fit_starts.ensures _ lent) in
    rw c.uncounted.ensures (plan-fits f _ some (c.in_ok-unknotted.ensures _ lent.told) _ fits same tabled.is (c.in_ok-crowded.ensures _ _ lent.timed (seated-form f lent.good some)))
