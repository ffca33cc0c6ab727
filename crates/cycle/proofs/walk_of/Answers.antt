-- `cycle::walk_of` meets its contract. The loop's invariant: the edges so far lead from the start to the node, and a walk
-- of the edges still to come leads back and is worth the value.
-- Assumes nothing.
use mathlib.Core.Path.{◌≡◌, refl}
use Prim.Native.Nat.{◌<◌, ◌+◌, ◌-◌}
use lib.ListN.{get_or, length-set}
use native.Mathlib.Omega.{arith}
use borrow.Author.Rules.{rules}
use Rattle.std.proofs.lemmas.Option.{MatchOption-at_some}
use Rattle.answer.specs.Tally.{within-tallies}
use Rattle.system.specs.System.{system_of}
use Rattle.cycle.specs.Walked.{Walked, walked_none, walked_all, walked_more, edge_found}
use Rattle.cycle.specs.Found.{wide_in, KeepsValue}
use Rattle.cycle.proofs.walk_of.Goals.{After-unwrap-e, In-loop-i}
use Rattle.cycle.proofs.walk_of.Goals as goal

pub loop-i-init : goal.loop-i-init
loop-i-init c =
    let all : c.args.start.count ≡ c.args.start.count - 0 = omega arith in
    (search rules, omega arith, rw all at (walked_none _ 64 _ _ c.requires.start.1 c.requires.start.2))

-- what is still to come, as one edge more than the row is for
here : (c : In-loop-i)
    → Walked (wide_in c.args.system) c.args.start.node (c.args.start.count - c.loop-i.i - 1 + 1) c.loop-i.i c.loop-i.edges c.loop-i.node c.loop-i.value
here c =
    let more : c.args.start.count - c.loop-i.i ≡ c.args.start.count - c.loop-i.i - 1 + 1 = omega arith in
    rw more at c.loop-i.invariant.2

pub unwrap-e-requires : goal.unwrap-e-requires
unwrap-e-requires c = edge_found _ _ _ _ _ _ (here (goal.at.unwrap-e-requires c).In-loop-i).onward c.row_of-row.ensures _ c.next_edge.ensures

-- the edge keeps the value, and its head is among the 64 nodes
kept : (c : After-unwrap-e) → KeepsValue (wide_in c.args.system) c.row_of-row.result c.loop-i.node c.loop-i.value c.unwrap-e.result
kept c = MatchOption-at_some _ _ _ c.unwrap-e.ensures c.next_edge.ensures

ahead : (c : After-unwrap-e) → (c.unwrap-e.result < c.args.system.edges) × (get_or c.args.system.heads.now c.unwrap-e.result 0 < 64)
unfolding system_of
ahead c = ((kept c).within, c.requires.tables.joined.heads c.unwrap-e.result (kept c).within)

pub bounds-system-e : goal.bounds-system-e
bounds-system-e c = omega (arith, ahead (goal.at.bounds-system-e c).After-unwrap-e)

pub bounds-row-node : goal.bounds-row-node
bounds-row-node c = omega (arith, ahead (goal.at.bounds-row-node c).After-unwrap-e)

pub loop-i-preserved : goal.loop-i-preserved
unfolding system_of
loop-i-preserved c =
    let fewer : c.args.start.count - c.loop-i.i - 1 ≡ c.args.start.count - (c.loop-i.i + 1) = omega arith in (
      simp length-set (omega arith),
      omega (arith, c.row_of-row.ensures.cap (get_or c.args.system.heads.now c.unwrap-e.result 0)),
      rw fewer at (walked_more _ _ _ _ _ _ _ _ _ (omega arith) (here (goal.at.loop-i-preserved c).In-loop-i) c.row_of-row.ensures (kept (goal.at.loop-i-preserved c).After-unwrap-e)),
    )

pub returns : goal.returns
returns c =
    let whole : c.loop-i.i ≡ c.args.start.count = omega arith in
    let none : c.args.start.count - c.loop-i.i ≡ 0 = omega arith in
    record {
      size = refl;
      losing = rw whole at (walked_all _ _ _ _ _ _ (rw none at c.loop-i.invariant.2));
      tallies = within-tallies _ (omega arith) c.loop-i.invariant.0 (λ p q. c.loop-i.invariant.2.rest p (omega arith));
    }
