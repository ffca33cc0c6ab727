-- `judge::judge_tables` meets its contract: no schedule, a knot, then the rules.
-- Assumes nothing.
use mathlib.Core.Path.{◌≡◌}
use native.Mathlib.Omega.{arith}
use Rattle.std.specs.Prelude.{Ok}
use Rattle.answer.specs.Outcome.{no_cycle}
use Rattle.legal.specs.Loop.{Loop, loop_of, pair_of}
use Rattle.tables.specs.Edges.{ToldBy}
use Rattle.tables.specs.Times.{no_length, some-length}
use Rattle.tables.specs.Lent.{lent-ends, lent-sound}
use Rattle.rules.specs.Busy.{seated-form}
use Rattle.knots.specs.Found.{KnotFound}
use Rattle.std.proofs.lemmas.Result.{err_from_is_err_and}
use borrow.Author.Rules.{rules}
use Rattle.judge.proofs.Laws.{edge-refused, edges-kept, told-alone, judged-bare, judged-knot, judged-rules}
use Rattle.judge.proofs.judge_tables.Goals.{In_ok-unknotted}
use Rattle.judge.proofs.judge_tables.Goals as goal

pub returns-then-times-eq0 : goal.returns-then-times-eq0
returns-then-times-eq0 c = λ f lent. judged-bare f _ (no_length f _ lent.timed c.if-times-eq0.true) (search (rules, told-alone))

-- what is not refused has no knot
untied : (c : In_ok-unknotted) (g : Loop) → ToldBy g c.args.times.nodes c.args.edges → KnotFound g no_cycle
untied c g told =
    let passed : c.unknotted.result ≡ Ok c.in_ok-unknotted.field-0 = search rules in
    rw passed at (c.unknotted.ensures g told)

pub returns-in_err-unknotted : goal.returns-in_err-unknotted
returns-in_err-unknotted c =
    let e = err_from_is_err_and c.from_residual.result c.from_residual.ensures.1 in
    λ f lent. rw (e.1, e.2) (judged-knot f (some-length f _ lent.timed c.if-times-eq0.false) c.in_err-unknotted.field-0.0 (c.in_err-unknotted.ensures _ lent.told))

pub returns-in-Some : goal.returns-in-Some
returns-in-Some c = λ f lent.
    rw (c.into-in-Some.ensures.0, c.into-in-Some.ensures.1, c.from.ensures)
    (judged-rules f (some-length f _ lent.timed c.if-times-eq0.false) (untied (goal.at.returns-in-Some c).In_ok-unknotted _ lent.told) _
    (edge-refused _ _ _ _ lent.told.all_edges (c.in-Some.ensures.first _ _ lent.told lent.timed) c.in-Some.ensures.within))

pub returns-in_err-crowded : goal.returns-in_err-crowded
returns-in_err-crowded c =
    let e = err_from_is_err_and c.from_residual-in_err-crowded.result c.from_residual-in_err-crowded.ensures.1 in
    λ f lent.
    let some = some-length f _ lent.timed c.if-times-eq0.false in
    rw (e.1, e.2.0, e.2.1)
    (judged-rules f some (untied (goal.at.returns-in_err-crowded c).In_ok-unknotted _ lent.told) _
    (edges-kept _ _ _ _ lent.told.all_edges (c.in_default.ensures.first _ _ lent.told lent.timed) (omega arith) _ (c.in_err-crowded.ensures _ _ lent.timed (seated-form f lent.good some))))

pub returns : goal.returns
returns c = λ f lent.
    let some = some-length f _ lent.timed c.if-times-eq0.false in
    judged-rules f some (untied (goal.at.returns c).In_ok-unknotted _ lent.told) _
    (edges-kept _ _ _ _ lent.told.all_edges (c.in_default.ensures.first _ _ lent.told lent.timed) (omega arith) _ (c.in_ok-crowded.ensures _ _ lent.timed (seated-form f lent.good some)))

-- what the calls ask

pub unknotted-requires : goal.unknotted-requires
unknotted-requires c = lent-ends c.requires.0 _ _ _ _ _ c.requires.1

pub broken_edge-requires-clause-ends : goal.broken_edge-requires-clause-ends
broken_edge-requires-clause-ends c = lent-ends c.requires.0 _ _ _ _ _ c.requires.1

pub crowded-requires : goal.crowded-requires
crowded-requires c =
    let some = some-length c.requires.0 _ c.requires.1.timed c.if-times-eq0.false in
    record { sound_times = lent-sound c.requires.0 _ _ _ _ _ c.requires.1; timed = (loop_of c.requires.0, (pair_of c.requires.0, c.requires.1.timed, seated-form c.requires.0 c.requires.1.good some)) }
