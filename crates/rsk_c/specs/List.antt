-- What listing a record answers: its size, or Room.
-- Assumes nothing.
use Rattle.std.specs.Prelude.{List, ℕ}
use Rattle.answer.specs.Refused.{details}
use Rattle.answer.specs.Outcome.{no_cycle, answer_list}
use Rattle.listing.specs.Lines.{listed}

-- the answer: its only number is the size
unfoldable pub listed_answer : List ℕ → ℕ → List ℕ
listed_answer s room = answer_list (listed s room).refusal (details (listed s room).size 0 0) no_cycle
