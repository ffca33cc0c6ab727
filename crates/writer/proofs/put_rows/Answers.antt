-- `writer::put_rows` meets its contract.
-- Assumes nothing.
use mathlib.Core.Path.{◌≡◌}
use Prim.Native.Nat.{ℕ, ◌+◌, ◌*◌, ◌≤◌}
use native.Mathlib.Nat.{mul-le-mul_left, mul-suc}
use native.Mathlib.Numerals.{add-one}
use native.Mathlib.Omega.{arith}
use Rattle.laid.specs.Rows.{rows}
use Rattle.laid.specs.Laws.{nothing, row_more}
use Rattle.writer.proofs.put_rows.Goals as goal

pub loop-i-init : goal.loop-i-init
unfolding rows
loop-i-init g c = (omega arith, nothing _ _)

pub loop-i-preserved : goal.loop-i-preserved
loop-i-preserved g c =
    let w : ℕ = g.T.Table.width in
    (rw (add-one, mul-suc) (omega arith), row_more _ _ _ _ _ _ _ _ c.loop-i.invariant.1 c.put-next.ensures.1)

pub put-next-requires : goal.put-next-requires
put-next-requires g c =
    let w : ℕ = g.T.Table.width in
    let h : w * (c.loop-i.i + 1) ≤ w * c.args.count = mul-le-mul_left w (omega arith) in
    let e : w * (c.loop-i.i + 1) ≡ w * c.loop-i.i + w = rw (add-one, mul-suc) (omega arith) in
    (omega arith, omega arith)

pub returns : goal.returns
returns g c =
    let e : c.loop-i.i ≡ c.args.count = omega arith in
    (rw e at c.loop-i.invariant.0, rw e at c.loop-i.invariant.1)
