-- `plain::room_of` meets its contract: one test after the other.
-- Assumes nothing.
use native.Mathlib.Omega.{arith}
use native.Mathlib.Nat.{mul-le-mul_right}
use borrow.Author.Tests.{le-ltb, lt-ltb}
use Rattle.lists.specs.Pick.{pick}
use Rattle.plain.specs.Answer.{room_of}
use Rattle.plain.proofs.room_of.Goals as goal

pub returns-then-starts-nodes : goal.returns-then-starts-nodes
unfolding room_of pick
returns-then-starts-nodes c = rw (lt-ltb _ _ c.if-starts-nodes.true)

pub overflow_mul-iterations : goal.overflow_mul-iterations
overflow_mul-iterations c =
    omega (arith, mul-le-mul_right {m = c.args.iterations} {n = 65535} c.args.nodes (omega arith))

pub returns-then-values-iterations : goal.returns-then-values-iterations
unfolding room_of pick
returns-then-values-iterations c = rw (le-ltb _ _ c.if-starts-nodes.false, lt-ltb _ _ c.if-values-iterations.true)

pub returns : goal.returns
unfolding room_of pick
returns c = rw (le-ltb _ _ c.if-starts-nodes.false, le-ltb _ _ c.if-values-iterations.false)
