-- `drawing::put_places` meets its contract: the bar and three runs of places.
-- Assumes nothing.
use native.Mathlib.Omega.{arith}
use Rattle.drawing.specs.Words.{bar_word}
use Rattle.drawing.proofs.Laws.{places-put}
use Rattle.drawing.proofs.put_places.Goals as goal

pub returns : goal.returns
unfolding bar_word
returns c = (
  omega (arith, c.word.ensures.laid.ends, c.put_starting.ensures.0, c.put_holding.ensures.0, c.put_free.ensures.0),
  λ f t k. places-put f _ _ _ _ _ t _ _ _ _ _ _ k c.hold_of-hold.ensures c.busy_in-busy.ensures (omega (arith, c.free_of.ensures)) _ _ _ _ _ c.word.ensures c.put_starting.ensures.1 c.put_holding.ensures.1 c.put_free.ensures.1,
)
