-- `floor::free_floor` meets its contract: the floor, and the first part that attains it.
-- Assumes nothing.
use Rattle.std.specs.Prelude.{Option, IsSomeAnd}
use mathlib.Core.Path.{◌≡◌}
use mathlib.Core.Bool.{false}
use mathlib.Core.List.{List}
use Prim.Native.Nat.{ℕ, ◌<◌}
use native.Mathlib.Omega.{arith}
use Rattle.answer.specs.Outcome.{edges_of}
use Rattle.answer.specs.Tally.{Tallies}
use Rattle.answer.specs.declared.Cycle.{Cycle}
use Rattle.form.specs.declared.Edges.{Edges}
use Rattle.form.specs.declared.Form.{Form}
use Rattle.system.specs.System.{Losing}
use Rattle.legal.specs.Loop.{Loop, loop_of}
use Rattle.legal.specs.Systems.{knotted, paces}
use Rattle.tables.specs.Edges.{ToldBy}
use Rattle.tables.specs.Lent.{LentBy, lent-ends, lent-sound}
use Rattle.floor_part.specs.Parts as part
use Rattle.floor.specs.Tables.{Costed, Measured}
use Rattle.floor.specs.Least.{enough}
use Rattle.floor.specs.Named.{Attains}
use Rattle.floor.proofs.Laws.{lent-edged, lent-costed, lent-paced}
use Rattle.floor.proofs.Answers.{attains-latency, attains-units, attains-cycle, floored-alone, floored-cycle, Below, below-short, some-of}
use Rattle.floor.proofs.free_floor.Goals.{After-parts_of-parts}
use Rattle.floor.proofs.free_floor.Goals as goal

pub costs_of-costs-requires : goal.costs_of-costs-requires
costs_of-costs-requires c =
    let ends = lent-ends c.requires.0 _ _ _ _ _ c.requires.1 in
    record { edges_bound = ends.few; by_index = λ e l. omega (arith, ends.tail-in e l, ends.most) }

pub parts_of-parts-requires : goal.parts_of-parts-requires
parts_of-parts-requires c = (lent-edged c.requires.0 c.args.edges _ c.requires.1, lent-sound c.requires.0 _ _ _ _ _ c.requires.1)

-- the form is one that is lent, without a knot
abbrev Here : After-parts_of-parts → Form → Type 0
Here p f = LentBy f p.args.edges p.args.times × (knotted (loop_of f) ≡ false)

-- the parts are measured
measured : (p : After-parts_of-parts) (f : Form) → Here p f → Measured (loop_of f) p.parts_of-parts.result.latency p.parts_of-parts.result.units p.parts_of-parts.result.class p.parts_of-parts.result.floor
measured p f here = p.parts_of-parts.ensures _ _ (lent-paced f p.args.edges _ here.0 _ p.costs_of-costs.ensures here.1) here.0.timed

pub returns-then-parts : goal.returns-then-parts
returns-then-parts c f lent free =
    let m = measured (goal.at.returns-then-parts c).After-parts_of-parts f (lent, free) in
    floored-alone f free part.Latency _ (omega arith) (attains-latency _ _ _ _ _ m (omega (arith, c.if-parts.true))) m.floor-is

pub returns-then-parts-2 : goal.returns-then-parts-2
returns-then-parts-2 c f lent free =
    let m = measured (goal.at.returns-then-parts-2 c).After-parts_of-parts f (lent, free) in
    floored-alone f free (part.Units c.parts_of-parts.result.class) _ (omega arith) (attains-units _ _ _ _ _ m (omega (arith, c.if-parts.false)) (omega (arith, c.if-parts-2.true))) m.floor-is

-- where neither of the others attains it, the cycle does
by-cycle : (p : After-parts_of-parts) (f : Form) → Here p f → p.parts_of-parts.result.latency < p.parts_of-parts.result.floor → p.parts_of-parts.result.units < p.parts_of-parts.result.floor → Attains (loop_of f) part.Cycle
by-cycle p f here l m = attains-cycle _ _ _ _ _ (measured p f here) l m

-- and no length below it is enough
below : (p : After-parts_of-parts) (f : Form) → Here p f → p.parts_of-parts.result.latency < p.parts_of-parts.result.floor → p.parts_of-parts.result.units < p.parts_of-parts.result.floor → Below f p.parts_of-parts.result.floor
below p f here l m = below-short f here.1 here.0.good _ (by-cycle p f here l m) (measured p f here).floor-is

pub overflow_sub-short : goal.overflow_sub-short
overflow_sub-short c =
    omega (arith, (below (goal.at.overflow_sub-short c).After-parts_of-parts c.requires.0 (c.requires.1, c.requires.2) (omega (arith, c.if-parts.false)) (omega (arith, c.if-parts-2.false))).0)

pub breaking_cycle-requires : goal.breaking_cycle-requires
breaking_cycle-requires c =
    let b = below (goal.at.breaking_cycle-requires c).After-parts_of-parts c.requires.0 (c.requires.1, c.requires.2) (omega (arith, c.if-parts.false)) (omega (arith, c.if-parts-2.false)) in
    (lent-edged c.requires.0 c.args.edges _ c.requires.1, omega (arith, b.0, b.1))

-- what the search for a cycle that breaks a length promises
abbrev Breaks : ℕ → Edges → List ℕ → ℕ → Option Cycle → Type 0
Breaks nodes edges costs l r = (g : Loop) → ToldBy g nodes edges → Costed g edges.count costs → enough g l ≡ false → IsSomeAnd r (λ c. Losing (paces g l) (edges_of c) × Tallies c)

-- so one is found that breaks a length below the floor
broken : (p : After-parts_of-parts) (f : Form) → Here p f → p.parts_of-parts.result.latency < p.parts_of-parts.result.floor → p.parts_of-parts.result.units < p.parts_of-parts.result.floor
    → (short : ℕ) → short < p.parts_of-parts.result.floor → (r : Option Cycle) → Breaks p.args.times.nodes p.args.edges p.costs_of-costs.result short r
    → IsSomeAnd r (λ c. Losing (paces (loop_of f) short) (edges_of c) × Tallies c)
broken p f here l m short less r breaks =
    breaks _ here.0.told (lent-costed f p.args.edges _ here.0 p.costs_of-costs.result p.costs_of-costs.ensures) ((below p f here l m).2 short less)

pub unwrap-requires : goal.unwrap-requires
unwrap-requires c =
    let p = (goal.at.unwrap-requires c).After-parts_of-parts in
    let b = below p c.requires.0 (c.requires.1, c.requires.2) (omega (arith, c.if-parts.false)) (omega (arith, c.if-parts-2.false)) in
    some-of _ _ (broken p c.requires.0 (c.requires.1, c.requires.2) (omega (arith, c.if-parts.false)) (omega (arith, c.if-parts-2.false)) _ (omega (arith, b.0)) _ c.breaking_cycle.ensures)

pub returns : goal.returns
returns c f lent free =
    let p = (goal.at.returns c).After-parts_of-parts in
    let b = below p f (lent, free) (omega (arith, c.if-parts.false)) (omega (arith, c.if-parts-2.false)) in
    let found = broken p f (lent, free) (omega (arith, c.if-parts.false)) (omega (arith, c.if-parts-2.false)) _ (omega (arith, b.0)) _ c.breaking_cycle.ensures in
    floored-cycle f free _ _ _ (by-cycle p f (lent, free) (omega (arith, c.if-parts.false)) (omega (arith, c.if-parts-2.false))) (measured p f (lent, free)).floor-is
    (omega (arith, b.0)) (rw c.unwrap.ensures at found)
