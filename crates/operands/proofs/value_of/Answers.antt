-- `operands::value_of` meets its contract: the operands that are left finish the whole.
-- Assumes nothing.
use mathlib.Core.Path.{◌∙◌}
use Prim.Native.Nat.{◌<◌}
use native.Mathlib.Omega.{arith}
use Rattle.operands.proofs.Laws.{walking-first, walking_on, walking-end}
use Rattle.operands.proofs.value_of.Goals as goal

pub loop-e-init : goal.loop-e-init
loop-e-init c = (c.requires.2, λ g v t f. rw c.opening_of-total.ensures (walking-first g v _ _ _ _ _ _ f))

pub operand_of-operand-requires : goal.operand_of-operand-requires
operand_of-operand-requires c =
    (c.requires.0.tail-in c.loop-e.e (omega arith), c.requires.0.delay_in c.loop-e.e (omega arith), c.requires.1)

pub loop-e-smaller : goal.loop-e-smaller
loop-e-smaller c =
    omega (arith, c.requires.0.leads-on c.loop-e.e (omega arith))

pub loop-e-preserved : goal.loop-e-preserved
loop-e-preserved c =
    let inside : c.loop-e.e < c.args.inputs.edges = omega arith in (
      c.requires.0.leads-in c.loop-e.e inside,
      λ g v t f. walking_on g v _ _ _ _ _ _ f _ _ _ _ t c.loop-e.e c.loop-e.total inside (c.loop-e.invariant.1 g v t f) _ c.operand_of-operand.ensures _ c.combined.ensures,
    )

pub returns : goal.returns
returns c g v t f =
    c.closing_of.ensures ∙ walking-end g v _ _ _ _ _ _ f c.loop-e.e c.loop-e.total (omega (arith, t.all_edges, c.loop-e.invariant.0)) (c.loop-e.invariant.1 g v t f)
