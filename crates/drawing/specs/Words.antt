-- The words of a table.
-- Assumes nothing.
use Rattle.std.specs.Prelude.{List, [], ◌∷◌, ℕ}

-- "class "
unfoldable pub class_word : List ℕ
class_word = 99 ∷ 108 ∷ 97 ∷ 115 ∷ 115 ∷ 32 ∷ []

-- ": latency "
unfoldable pub latency_word : List ℕ
latency_word = 58 ∷ 32 ∷ 108 ∷ 97 ∷ 116 ∷ 101 ∷ 110 ∷ 99 ∷ 121 ∷ 32 ∷ []

-- ", units "
unfoldable pub units_word : List ℕ
units_word = 44 ∷ 32 ∷ 117 ∷ 110 ∷ 105 ∷ 116 ∷ 115 ∷ 32 ∷ []

-- ", plain"
unfoldable pub plain_word : List ℕ
plain_word = 44 ∷ 32 ∷ 112 ∷ 108 ∷ 97 ∷ 105 ∷ 110 ∷ []

-- ", pipelined"
unfoldable pub pipelined_word : List ℕ
pipelined_word = 44 ∷ 32 ∷ 112 ∷ 105 ∷ 112 ∷ 101 ∷ 108 ∷ 105 ∷ 110 ∷ 101 ∷ 100 ∷ []

-- "  step"
unfoldable pub step_word : List ℕ
step_word = 32 ∷ 32 ∷ 115 ∷ 116 ∷ 101 ∷ 112 ∷ []

-- " |"
unfoldable pub bar_word : List ℕ
bar_word = 32 ∷ 124 ∷ []

-- "     .", a unit that is free
unfoldable pub free_word : List ℕ
free_word = 32 ∷ 32 ∷ 32 ∷ 32 ∷ 32 ∷ 46 ∷ []
