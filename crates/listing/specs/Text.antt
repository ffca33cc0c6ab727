-- The words of a listing.
-- Assumes nothing.
use Rattle.std.specs.Prelude.{List, [], ◌∷◌, ℕ}

-- "RSK 1", the mark and the version
unfoldable pub mark_line : List ℕ
mark_line = 82 ∷ 83 ∷ 75 ∷ 32 ∷ 49 ∷ 10 ∷ []

-- "nodes "
unfoldable pub nodes_word : List ℕ
nodes_word = 110 ∷ 111 ∷ 100 ∷ 101 ∷ 115 ∷ 32 ∷ []

-- " edges "
unfoldable pub edges_word : List ℕ
edges_word = 32 ∷ 101 ∷ 100 ∷ 103 ∷ 101 ∷ 115 ∷ 32 ∷ []

-- " length "
unfoldable pub length_word : List ℕ
length_word = 32 ∷ 108 ∷ 101 ∷ 110 ∷ 103 ∷ 116 ∷ 104 ∷ 32 ∷ []

-- " depth "
unfoldable pub depth_word : List ℕ
depth_word = 32 ∷ 100 ∷ 101 ∷ 112 ∷ 116 ∷ 104 ∷ 32 ∷ []

-- " floor "
unfoldable pub floor_word : List ℕ
floor_word = 32 ∷ 102 ∷ 108 ∷ 111 ∷ 111 ∷ 114 ∷ 32 ∷ []

-- " shortest"
unfoldable pub shortest_word : List ℕ
shortest_word = 32 ∷ 115 ∷ 104 ∷ 111 ∷ 114 ∷ 116 ∷ 101 ∷ 115 ∷ 116 ∷ []

-- " open"
unfoldable pub open_word : List ℕ
open_word = 32 ∷ 111 ∷ 112 ∷ 101 ∷ 110 ∷ []
