-- `search::search_plan` meets its contract: the knot, then the size, else the search.
-- Assumes nothing.
use native.Mathlib.Omega.{arith}
use Rattle.std.proofs.lemmas.Result.{err_from_is_err_and}
use Rattle.answer.specs.Outcome.{no_cycle}
use Rattle.tables.specs.Lent.{lent-ends}
use Rattle.search.proofs.Plans.{search-tied, search-size, search-planned}
use borrow.Author.Rules.{rules}
use Rattle.plans.proofs.Entries.{plan-alone}
use Rattle.search.proofs.search_plan.Goals as goal

pub unknotted-requires : goal.unknotted-requires
unknotted-requires c = lent-ends c.requires.0 _ _ _ _ _ c.requires.1.lent

pub returns-in_err-unknotted : goal.returns-in_err-unknotted
returns-in_err-unknotted c f k =
    let told = err_from_is_err_and c.from_residual.result c.from_residual.ensures.1 in
    rw (told.1, told.2) (search-tied f _ _ _ c.in_err-unknotted.field-0.0 (c.in_err-unknotted.ensures _ k.lent.told))

pub returns-then-size-eq0 : goal.returns-then-size-eq0
returns-then-size-eq0 c f k =
    search-size f _ _ no_cycle (c.in_ok-unknotted.ensures _ k.lent.told) (omega arith) (omega (arith, c.if-size-eq0.true)) c.args.times _ (search (rules, plan-alone))

pub search_times-requires : goal.search_times-requires
search_times-requires c =
    (c.requires.0, record { tabled = c.requires.1; free = (c.in_ok-unknotted.ensures _ c.requires.1.lent.told).free (omega arith) })

pub returns : goal.returns
returns c f k =
    let found = c.in_ok-unknotted.ensures _ k.lent.told in
    search-planned f _ _ no_cycle found (omega arith) (λ e. omega (arith, e, c.if-size-eq0.false)) _ _ (c.search_times.ensures f (record { tabled = k; free = found.free (omega arith) }))
