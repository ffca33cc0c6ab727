-- `cycle::fewest_at` meets its contract. The loop's invariant: the row is the one of k - 1 edges, and no closed walk of
-- fewer than k edges through the node loses.
-- Assumes nothing.
use mathlib.Core.Path.{◌≡◌}
use Prim.Native.Nat.{◌+◌, ◌-◌}
use native.Mathlib.Omega.{arith}
use Rattle.system.specs.System.{system_of}
use Rattle.cycle.specs.Row.{Row, row-none, row_more}
use Rattle.cycle.specs.Found.{wide_in, none_below_one, none-below-more, loses}
use Rattle.cycle.proofs.fewest_at.Goals.{After-next_row-row}
use Rattle.cycle.proofs.fewest_at.Goals as goal

pub loop-k-init : goal.loop-k-init
loop-k-init c = (rw c.first_row-row.ensures (row-none _ 64 _ c.requires.1), none_below_one _ _)

pub next_row-row-requires : goal.next_row-row-requires
next_row-row-requires c = (c.requires.0, λ v. omega (arith, c.loop-k.invariant.0.cap v))

-- the row of one edge more
next : (c : After-next_row-row) → Row (wide_in c.args.system) c.args.node c.loop-k.k c.next_row-row.result
unfolding system_of
next c =
    let same : (c.loop-k.k - 1) + 1 ≡ c.loop-k.k = omega arith in
    rw same at (row_more _ _ _ _ _ c.loop-k.invariant.0 c.next_row-row.ensures)

pub returns-then-row-node-gt-BASE : goal.returns-then-row-node-gt-BASE
returns-then-row-node-gt-BASE c =
    record { some = omega arith; within = omega arith; fewer = c.loop-k.invariant.1; found = loses _ _ _ _ (next (goal.at.returns-then-row-node-gt-BASE c).After-next_row-row) c.if-row-node-gt-BASE.true (omega arith) }

pub loop-k-preserved : goal.loop-k-preserved
loop-k-preserved c =
    let r = next (goal.at.loop-k-preserved c).After-next_row-row in
    let same : c.loop-k.k ≡ (c.loop-k.k + 1) - 1 = omega arith in
    (rw same at r, none-below-more _ _ _ _ r c.if-row-node-gt-BASE.false c.loop-k.invariant.1)

pub returns : goal.returns
returns c = λ es w l. c.loop-k.invariant.1 es w (omega arith)
