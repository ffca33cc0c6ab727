-- `text::Page::word` meets its contract: the loop's invariant is that its first bytes are put.
-- Assumes nothing.
use mathlib.Core.Path.{refl}
use native.Mathlib.Omega.{arith}
use lib.ListN.{length-take}
use Rattle.text.specs.PageLaws.{blank}
use Rattle.text.proofs.Laws.{byte_more, word-whole}
use Rattle.text.proofs.Page.word.Goals as goal

pub loop-byte-init : goal.loop-byte-init
loop-byte-init c = blank _

pub byte-requires : goal.byte-requires
byte-requires c = omega (arith, c.loop-byte.invariant.laid.ends, length-take c.loop-byte.byte-index c.args.word.now)

pub loop-byte-preserved : goal.loop-byte-preserved
loop-byte-preserved c = byte_more _ _ _ _ _ _ c.loop-byte-test.true refl c.loop-byte.invariant c.byte.ensures

pub returns : goal.returns
returns c = word-whole _ _ _ _ c.loop-byte-test.false c.loop-byte.invariant
