-- `words::put_low` meets its contract: four places and the last digit.
-- Assumes nothing.
use native.Mathlib.Omega.{arith}
use Rattle.text.specs.PageLaws.{followed}
use Rattle.words.specs.Numbers.{low_text}
use Rattle.words.proofs.put_low.Goals as goal

pub returns : goal.returns
unfolding low_text
returns c = (omega (arith, c.byte.ensures.laid.ends, c.put_place-4.ensures.0, c.put_place-3.ensures.0, c.put_place-2.ensures.0, c.put_place.ensures.0), followed _ _ _ _ _ c.put_place.ensures.1 (followed _ _ _ _ _ c.put_place-2.ensures.1 (followed _ _ _ _ _ c.put_place-3.ensures.1 (followed _ _ _ _ _ c.put_place-4.ensures.1 c.byte.ensures))))
