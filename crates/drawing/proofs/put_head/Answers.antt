-- `drawing::put_head` meets its contract: a bar, blanks, the number.
-- Assumes nothing.
use native.Mathlib.Omega.{arith}
use Rattle.drawing.specs.Words.{bar_word}
use Rattle.drawing.proofs.Laws.{head-put}
use Rattle.drawing.proofs.put_head.Goals as goal

pub returns : goal.returns
unfolding bar_word
returns c = (
  omega (arith, c.word.ensures.laid.ends, c.free_of-before.ensures, c.put_blanks.ensures.0, c.put_right.ensures.0),
  head-put _ _ _ _ _ _ _ (omega (arith, c.free_of-before.ensures)) c.word.ensures c.put_blanks.ensures.1 c.put_right.ensures.1,
)
