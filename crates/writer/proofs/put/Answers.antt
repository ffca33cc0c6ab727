-- `writer::put` meets its contract: Room, or all of the bytes.
-- Assumes nothing.
use native.Mathlib.Omega.{arith}
use Rattle.writer.proofs.Laws.{cramped, fits}
use Rattle.writer.proofs.put.Goals as goal

pub returns-then-out-size : goal.returns-then-out-size
returns-then-out-size c f is good =
    cramped f c.args.bytes.now c.args.out.now is good (omega (arith, c.if-out-size.true))

pub returns : goal.returns
returns c f is good =
    fits f c.args.bytes.now c.args.out.now is good (omega (arith, c.if-out-size.false)) _ (cc)
