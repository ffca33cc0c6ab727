-- The words of a refusal's line, byte by byte.
-- Assumes nothing.
use Rattle.std.specs.Prelude.{List, [], ◌∷◌, ℕ}

-- "Short"
unfoldable pub short_word : List ℕ
short_word = 83 ∷ 104 ∷ 111 ∷ 114 ∷ 116 ∷ []

-- "Mark"
unfoldable pub mark_word : List ℕ
mark_word = 77 ∷ 97 ∷ 114 ∷ 107 ∷ []

-- "Version"
unfoldable pub version_word : List ℕ
version_word = 86 ∷ 101 ∷ 114 ∷ 115 ∷ 105 ∷ 111 ∷ 110 ∷ []

-- "Count"
unfoldable pub count_word : List ℕ
count_word = 67 ∷ 111 ∷ 117 ∷ 110 ∷ 116 ∷ []

-- "Machine"
unfoldable pub machine_word : List ℕ
machine_word = 77 ∷ 97 ∷ 99 ∷ 104 ∷ 105 ∷ 110 ∷ 101 ∷ []

-- "Node"
unfoldable pub node_word : List ℕ
node_word = 78 ∷ 111 ∷ 100 ∷ 101 ∷ []

-- "Edge"
unfoldable pub edge_word : List ℕ
edge_word = 69 ∷ 100 ∷ 103 ∷ 101 ∷ []

-- "Start"
unfoldable pub start_word : List ℕ
start_word = 83 ∷ 116 ∷ 97 ∷ 114 ∷ 116 ∷ []

-- "Retiming"
unfoldable pub retiming_word : List ℕ
retiming_word = 82 ∷ 101 ∷ 116 ∷ 105 ∷ 109 ∷ 105 ∷ 110 ∷ 103 ∷ []

-- ": field at byte "
unfoldable pub field_word : List ℕ
field_word = 58 ∷ 32 ∷ 102 ∷ 105 ∷ 101 ∷ 108 ∷ 100 ∷ 32 ∷ 97 ∷ 116 ∷ 32 ∷ 98 ∷ 121 ∷ 116 ∷ 101 ∷ 32 ∷ []

-- "Tail: bytes left from byte "
unfoldable pub tail_word : List ℕ
tail_word = 84 ∷ 97 ∷ 105 ∷ 108 ∷ 58 ∷ 32 ∷ 98 ∷ 121 ∷ 116 ∷ 101 ∷ 115 ∷ 32 ∷ 108 ∷ 101 ∷ 102 ∷ 116 ∷ 32 ∷ 102 ∷ 114 ∷ 111 ∷ 109 ∷ 32 ∷ 98 ∷ 121 ∷ 116 ∷ 101 ∷ 32 ∷ []

-- "Bare: no schedule"
unfoldable pub bare_word : List ℕ
bare_word = 66 ∷ 97 ∷ 114 ∷ 101 ∷ 58 ∷ 32 ∷ 110 ∷ 111 ∷ 32 ∷ 115 ∷ 99 ∷ 104 ∷ 101 ∷ 100 ∷ 117 ∷ 108 ∷ 101 ∷ []

-- "Knot: cycle of edges"
unfoldable pub knot_word : List ℕ
knot_word = 75 ∷ 110 ∷ 111 ∷ 116 ∷ 58 ∷ 32 ∷ 99 ∷ 121 ∷ 99 ∷ 108 ∷ 101 ∷ 32 ∷ 111 ∷ 102 ∷ 32 ∷ 101 ∷ 100 ∷ 103 ∷ 101 ∷ 115 ∷ []

-- "Dependence: edge "
unfoldable pub dependence_word : List ℕ
dependence_word = 68 ∷ 101 ∷ 112 ∷ 101 ∷ 110 ∷ 100 ∷ 101 ∷ 110 ∷ 99 ∷ 101 ∷ 58 ∷ 32 ∷ 101 ∷ 100 ∷ 103 ∷ 101 ∷ 32 ∷ []

-- ", from node "
unfoldable pub from_word : List ℕ
from_word = 44 ∷ 32 ∷ 102 ∷ 114 ∷ 111 ∷ 109 ∷ 32 ∷ 110 ∷ 111 ∷ 100 ∷ 101 ∷ 32 ∷ []

-- " to node "
unfoldable pub to_word : List ℕ
to_word = 32 ∷ 116 ∷ 111 ∷ 32 ∷ 110 ∷ 111 ∷ 100 ∷ 101 ∷ 32 ∷ []

-- "NoRetiming: cycle of edges"
unfoldable pub no_retiming_word : List ℕ
no_retiming_word = 78 ∷ 111 ∷ 82 ∷ 101 ∷ 116 ∷ 105 ∷ 109 ∷ 105 ∷ 110 ∷ 103 ∷ 58 ∷ 32 ∷ 99 ∷ 121 ∷ 99 ∷ 108 ∷ 101 ∷ 32 ∷ 111 ∷ 102 ∷ 32 ∷ 101 ∷ 100 ∷ 103 ∷ 101 ∷ 115 ∷ []

-- "Units: step "
unfoldable pub units_step_word : List ℕ
units_step_word = 85 ∷ 110 ∷ 105 ∷ 116 ∷ 115 ∷ 58 ∷ 32 ∷ 115 ∷ 116 ∷ 101 ∷ 112 ∷ 32 ∷ []

-- ", class "
unfoldable pub then_class_word : List ℕ
then_class_word = 44 ∷ 32 ∷ 99 ∷ 108 ∷ 97 ∷ 115 ∷ 115 ∷ 32 ∷ []

-- "Size: "
unfoldable pub size_word : List ℕ
size_word = 83 ∷ 105 ∷ 122 ∷ 101 ∷ 58 ∷ 32 ∷ []

-- " steps"
unfoldable pub steps_word : List ℕ
steps_word = 32 ∷ 115 ∷ 116 ∷ 101 ∷ 112 ∷ 115 ∷ []

-- "Long: more than 512 steps"
unfoldable pub long_word : List ℕ
long_word = 76 ∷ 111 ∷ 110 ∷ 103 ∷ 58 ∷ 32 ∷ 109 ∷ 111 ∷ 114 ∷ 101 ∷ 32 ∷ 116 ∷ 104 ∷ 97 ∷ 110 ∷ 32 ∷ 53 ∷ 49 ∷ 50 ∷ 32 ∷ 115 ∷ 116 ∷ 101 ∷ 112 ∷ 115 ∷ []

-- "Room: buffer "
unfoldable pub room_word : List ℕ
room_word = 82 ∷ 111 ∷ 111 ∷ 109 ∷ 58 ∷ 32 ∷ 98 ∷ 117 ∷ 102 ∷ 102 ∷ 101 ∷ 114 ∷ 32 ∷ []

-- " is too short; 0 takes 15 start values for each node, 1 and 2 hold 262144 values, iterations times nodes"
unfoldable pub room_end : List ℕ
room_end = 32 ∷ 105 ∷ 115 ∷ 32 ∷ 116 ∷ 111 ∷ 111 ∷ 32 ∷ 115 ∷ 104 ∷ 111 ∷ 114 ∷ 116 ∷ 59 ∷ 32 ∷ 48 ∷ 32 ∷ 116 ∷ 97 ∷ 107 ∷ 101 ∷ 115 ∷ 32 ∷ 49 ∷ 53 ∷ 32 ∷ 115 ∷ 116 ∷ 97 ∷ 114 ∷ 116 ∷ 32 ∷ 118 ∷ 97 ∷ 108 ∷ 117 ∷ 101 ∷ 115 ∷ 32 ∷ 102 ∷ 111 ∷ 114 ∷ 32 ∷ 101 ∷ 97 ∷ 99 ∷ 104 ∷ 32 ∷ 110 ∷ 111 ∷ 100 ∷ 101 ∷ 44 ∷ 32 ∷ 49 ∷ 32 ∷ 97 ∷ 110 ∷ 100 ∷ 32 ∷ 50 ∷ 32 ∷ 104 ∷ 111 ∷ 108 ∷ 100 ∷ 32 ∷ 50 ∷ 54 ∷ 50 ∷ 49 ∷ 52 ∷ 52 ∷ 32 ∷ 118 ∷ 97 ∷ 108 ∷ 117 ∷ 101 ∷ 115 ∷ 44 ∷ 32 ∷ 105 ∷ 116 ∷ 101 ∷ 114 ∷ 97 ∷ 116 ∷ 105 ∷ 111 ∷ 110 ∷ 115 ∷ 32 ∷ 116 ∷ 105 ∷ 109 ∷ 101 ∷ 115 ∷ 32 ∷ 110 ∷ 111 ∷ 100 ∷ 101 ∷ 115 ∷ []

-- "Early: run step "
unfoldable pub early_word : List ℕ
early_word = 69 ∷ 97 ∷ 114 ∷ 108 ∷ 121 ∷ 58 ∷ 32 ∷ 114 ∷ 117 ∷ 110 ∷ 32 ∷ 115 ∷ 116 ∷ 101 ∷ 112 ∷ 32 ∷ []

-- "Busy: run step "
unfoldable pub busy_word : List ℕ
busy_word = 66 ∷ 117 ∷ 115 ∷ 121 ∷ 58 ∷ 32 ∷ 114 ∷ 117 ∷ 110 ∷ 32 ∷ 115 ∷ 116 ∷ 101 ∷ 112 ∷ 32 ∷ []

-- ", node "
unfoldable pub at_node_word : List ℕ
at_node_word = 44 ∷ 32 ∷ 110 ∷ 111 ∷ 100 ∷ 101 ∷ 32 ∷ []

-- ", edge "
unfoldable pub at_edge_word : List ℕ
at_edge_word = 44 ∷ 32 ∷ 101 ∷ 100 ∷ 103 ∷ 101 ∷ 32 ∷ []
