-- `drawing::put_blanks` meets its contract: a blank more each turn.
-- Assumes nothing.
use native.Mathlib.Omega.{arith}
use Rattle.drawing.proofs.Laws.{no-blank, blank-more, blanks-whole, blanks-long}
use Rattle.drawing.proofs.put_blanks.Goals as goal

pub loop-i-init : goal.loop-i-init
loop-i-init c = no-blank _

pub byte-requires : goal.byte-requires
byte-requires c = omega (arith, c.loop-i.invariant.laid.ends, blanks-long c.loop-i._i)

pub loop-i-preserved : goal.loop-i-preserved
loop-i-preserved c = blank-more _ _ _ _ c.loop-i.invariant c.byte.ensures

pub returns : goal.returns
returns c = (
  omega (arith, c.loop-i.invariant.laid.ends, blanks-long c.loop-i._i),
  blanks-whole _ _ _ _ (omega arith) c.loop-i.invariant,
)
