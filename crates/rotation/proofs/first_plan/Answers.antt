-- `rotation::first_plan` meets its contract: the knot, else the first schedule.
-- Assumes nothing.
use mathlib.Core.Path.{◌≡◌}
use native.Mathlib.Omega.{arith}
use borrow.Author.Rules.{rules}
use Rattle.std.specs.Prelude.{Ok}
use Rattle.std.proofs.lemmas.Result.{err_from_is_err_and}
use Rattle.answer.specs.Outcome.{no_cycle}
use Rattle.legal.specs.Loop.{Loop}
use Rattle.tables.specs.Edges.{ToldBy}
use Rattle.tables.specs.Lent.{lent-ends}
use Rattle.knots.specs.Found.{KnotFound}
use Rattle.rotation.proofs.FirstPlans.{first-tied, first-planned}
use Rattle.rotation.proofs.first_plan.Goals.{In_ok-unknotted}
use Rattle.rotation.proofs.first_plan.Goals as goal

pub unknotted-requires : goal.unknotted-requires
unknotted-requires c = lent-ends c.requires.0 _ _ _ _ _ c.requires.1.lent

-- what is not refused has no knot
untied : (c : In_ok-unknotted) (g : Loop) → ToldBy g c.args.times.nodes c.args.edges → KnotFound g no_cycle
untied c g told =
    let passed : c.unknotted.result ≡ Ok c.in_ok-unknotted.field-0 = search rules in
    rw passed at (c.unknotted.ensures g told)

pub returns-in_err-unknotted : goal.returns-in_err-unknotted
returns-in_err-unknotted c f k =
    let told = err_from_is_err_and c.from_residual.result c.from_residual.ensures.1 in
    rw (told.1, told.2) (first-tied f _ c.in_err-unknotted.field-0.0 (c.in_err-unknotted.ensures _ k.lent.told))

pub first_times-requires : goal.first_times-requires
first_times-requires c =
    (c.requires.0, record { tabled = c.requires.1; free = (untied (goal.at.first_times-requires c).In_ok-unknotted _ c.requires.1.lent.told).free (omega arith) })

pub returns : goal.returns
returns c f k =
    let found = untied (goal.at.returns c).In_ok-unknotted _ k.lent.told in
    rw c.uncounted.ensures
    (first-planned f no_cycle found k.lent.good (omega arith) _ (c.first_times.ensures f (record { tabled = k; free = found.free (omega arith) })))
