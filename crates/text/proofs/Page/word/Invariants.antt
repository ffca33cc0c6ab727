-- `text::Page::word` meets its contract: the loop's invariant is that its first bytes are put.
-- Assumes nothing.
use lib.ListN.{take}
use Rattle.text.specs.Page.{Puts}
use Rattle.text.proofs.Page.word.Given as goal

abbrev pub invariant-loop-byte : goal.invariant-loop-byte
invariant-loop-byte l = Puts l.initial.self l.self (take l.byte-index l.word)
