-- A record read and written again: the reader's refusal first, then the writer's.
-- Assumes nothing.
use Rattle.std.specs.Prelude.{List, ℕ}
use Rattle.lists.specs.Pick.{pick}
use Rattle.answer.specs.Refused.{fine, details}
use Rattle.answer.specs.Outcome.{no_cycle, answer_list}
use Rattle.reader.specs.Reading.{read_form}
use Rattle.writer.specs.Outcome.{Written}
use Rattle.writer.specs.Writing.{written, buffer_after}

-- the refusal, or the size of the record written into so much room
unfoldable pub rewritten : List ℕ → ℕ → Written
rewritten s room = pick (fine (read_form s).refusal) (written (read_form s).form room) (record { refusal = (read_form s).refusal; size = 0 })

-- the buffer afterwards; a refusal leaves it as it was
unfoldable pub rewritten_out : List ℕ → List ℕ → List ℕ
rewritten_out s out = pick (fine (read_form s).refusal) (buffer_after (read_form s).form out) out

-- the answer: its only number is the size
unfoldable pub rewritten_answer : List ℕ → ℕ → List ℕ
rewritten_answer s room = answer_list (rewritten s room).refusal (details (rewritten s room).size 0 0) no_cycle
