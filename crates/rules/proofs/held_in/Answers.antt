-- `rules::held_in` meets its contract: never, once, or once for each time round.
-- Assumes nothing.
use Prim.Native.Nat.{◌-◌}
use native.Mathlib.Nat.{div-le_self}
use native.Mathlib.Omega.{arith}
use Rattle.rules.proofs.Laws.{held-zero, held-once, held-round, held-few, gap-small}
use Rattle.rules.proofs.held_in.Goals as goal

pub overflow_sub-result-then-length-steps : goal.overflow_sub-result-then-length-steps
overflow_sub-result-then-length-steps c =
    omega (arith, gap-small c.args.length c.args.start c.args.hold c.args.step _ c.requires.0 c.requires.1 c.requires.2 c.requires.3 c.gap_of-gap.ensures)

pub returns-then-length-steps : goal.returns-then-length-steps
returns-then-length-steps c =
    let is = held-round c.args.length c.args.start c.args.hold c.args.step _ c.requires.0 c.requires.1 c.requires.2 c.requires.3 c.gap_of-gap.ensures _ c.from-steps.ensures (omega (arith, overflow_sub-result-then-length-steps c)) in
    (is, omega (arith, is, held-few c.args.length c.args.start c.args.hold c.args.step))

pub overflow_add-result : goal.overflow_add-result
overflow_add-result c =
    omega (arith, div-le_self (c.from-steps.result - 1 - c.gap_of-gap.result) c.args.length)

pub returns-then-gap-steps : goal.returns-then-gap-steps
returns-then-gap-steps c =
    (held-once c.args.length c.args.start c.args.hold c.args.step _ c.requires.0 c.requires.1 c.requires.2 c.requires.3 c.gap_of-gap.ensures (omega arith) (omega arith), omega arith)

pub returns : goal.returns
returns c =
    (held-zero c.args.length c.args.start c.args.hold c.args.step _ c.requires.0 c.requires.1 c.requires.2 c.requires.3 c.gap_of-gap.ensures (omega arith), omega arith)
