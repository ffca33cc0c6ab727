-- `floor::busy_steps` meets its contract.
-- Assumes nothing.
use native.Mathlib.Omega.{arith}
use native.Mathlib.Nat.{mul-one}
use Rattle.floor.proofs.Laws.{product, hold-plain, hold-piped}
use Rattle.floor.proofs.busy_steps.Goals as goal

pub returns-then-plain : goal.returns-then-plain
returns-then-plain c =
    let p = product c.wide.result c.wide-then-plain.result 64 8 (omega (arith, c.wide.ensures.0)) (omega (arith, c.wide-then-plain.ensures.0)) in
    (rw (c.wide.ensures.0, c.wide-then-plain.ensures.0, hold-plain c.args.class (omega (arith, c.if-plain.true))), omega arith)

pub returns : goal.returns
returns c = (rw (c.wide-2.ensures.0, hold-piped c.args.class c.if-plain.false, mul-one), omega (arith, c.wide-2.ensures.0))
