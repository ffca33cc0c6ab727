-- `words::put_room` meets its contract: a number between two words.
-- Assumes nothing.
use native.Mathlib.Omega.{arith}
use Rattle.words.specs.Words.{room_word, room_end}
use Rattle.words.proofs.put_room.Goals as goal

pub returns : goal.returns
unfolding room_word room_end
returns c = (omega arith, c.put_amid.ensures.1)
