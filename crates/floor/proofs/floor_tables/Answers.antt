-- `floor::floor_tables` meets its contract: the knot, else the floor of a loop without one.
-- Assumes nothing.
use Rattle.std.specs.Prelude.{◌≡◌, Ok}
use Rattle.std.proofs.lemmas.Result.{err_from_is_err_and}
use borrow.Author.Rules.{rules}
use Rattle.answer.specs.Outcome.{no_cycle}
use Rattle.legal.specs.Loop.{Loop}
use Rattle.tables.specs.Edges.{ToldBy}
use Rattle.tables.specs.Lent.{lent-ends}
use Rattle.knots.specs.Found.{KnotFound}
use Rattle.floor.proofs.Answers.{free-lent, floored-knot}
use Rattle.floor.proofs.floor_tables.Goals.{In_ok-unknotted}
use Rattle.floor.proofs.floor_tables.Goals as goal

pub unknotted-requires : goal.unknotted-requires
unknotted-requires c = lent-ends c.requires.0 _ _ _ _ _ c.requires.1

-- what is not refused has no knot
untied : (c : In_ok-unknotted) (g : Loop) → ToldBy g c.args.times.nodes c.args.edges → KnotFound g no_cycle
untied c g told =
    let passed : c.unknotted.result ≡ Ok c.in_ok-unknotted.field-0 = search rules in
    rw passed at (c.unknotted.ensures g told)

pub returns-in_err-unknotted : goal.returns-in_err-unknotted
returns-in_err-unknotted c f lent =
    let p = err_from_is_err_and c.from_residual.result c.from_residual.ensures.1 in
    rw (p.1, p.2) (floored-knot f c.in_err-unknotted.field-0.0 (c.in_err-unknotted.ensures _ lent.told))

pub free_floor-requires : goal.free_floor-requires
free_floor-requires c =
    (c.requires.0, c.requires.1, free-lent c.requires.0 c.args.edges c.args.times c.requires.1 (untied (goal.at.free_floor-requires c).In_ok-unknotted))

pub returns : goal.returns
returns c f lent = c.free_floor.ensures f lent (free-lent f c.args.edges c.args.times lent (untied (goal.at.returns c).In_ok-unknotted))
