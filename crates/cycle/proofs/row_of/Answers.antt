-- `cycle::row_of` meets its contract. The loop's invariant: the row is the one of so many edges as turns.
-- Assumes nothing.
use mathlib.Core.Path.{◌≡◌}
use native.Mathlib.Omega.{arith}
use Rattle.system.specs.System.{system_of}
use Rattle.cycle.specs.Row.{row-none, row_more}
use Rattle.cycle.proofs.row_of.Goals as goal

pub loop-k-init : goal.loop-k-init
loop-k-init c = (rw c.first_row-row.ensures (row-none _ 64 _ c.requires.1))

pub next_row-row-requires : goal.next_row-row-requires
next_row-row-requires c = (c.requires.0, λ v. omega (arith, c.loop-k.invariant.cap v))

pub loop-k-preserved : goal.loop-k-preserved
unfolding system_of
loop-k-preserved c =
    row_more _ _ _ _ _ c.loop-k.invariant c.next_row-row.ensures

pub returns : goal.returns
returns c =
    let whole : c.loop-k._k ≡ c.args.count = omega arith in
    rw whole at c.loop-k.invariant
