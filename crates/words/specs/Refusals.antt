-- A refusal as a line: its number, its name, and its details by their meaning.
-- Assumes nothing.
use Rattle.std.specs.Prelude.{List, [], ◌∷◌, ◌++◌, ℕ, ◌+◌, ◌-◌, min, ltb, get_or}
use Rattle.lists.specs.Pick.{pick}
use Rattle.laid.specs.Rows.{rows}
use Rattle.text.specs.Decimal.{newline}
use Rattle.text.specs.Words.{refused_word}
use Rattle.words.specs.Numbers.{numeral}
use Rattle.words.specs.Words.{short_word, mark_word, version_word, count_word, machine_word, node_word, edge_word, start_word, retiming_word, field_word, tail_word, bare_word, knot_word, dependence_word, from_word, to_word, no_retiming_word, units_step_word, then_class_word, size_word, steps_word, long_word, room_word, room_end, early_word, busy_word, at_node_word, at_edge_word}

-- a field of the record by its offset
unfoldable pub offset_text : List ℕ → ℕ → List ℕ
offset_text name offset = name ++ (field_word ++ numeral offset)

-- a word with a number after it, one, two or three times
unfoldable pub one_text : List ℕ → ℕ → List ℕ
one_text p a = p ++ numeral a

unfoldable pub two_text : List ℕ → ℕ → List ℕ → ℕ → List ℕ
two_text p a q b = one_text p a ++ one_text q b

unfoldable pub three_text : List ℕ → ℕ → List ℕ → ℕ → List ℕ → ℕ → List ℕ
three_text p a q b r c = two_text p a q b ++ one_text r c

-- the edges of an answer's cycle: their count stands in place 4, then the edges
unfoldable pub edge_text : List ℕ → ℕ → List ℕ
edge_text answer i = 32 ∷ numeral (get_or answer (5 + i) 0)

unfoldable pub edges_text : List ℕ → List ℕ
edges_text answer = rows (edge_text answer) (min (get_or answer 4 0) 64)

unfoldable pub cycle_text : List ℕ → List ℕ → List ℕ
cycle_text word answer = word ++ edges_text answer

-- the refusals of a record's fields, by number
unfoldable pub shape_texts : ℕ → List (List ℕ)
shape_texts offset =
    []
    ∷ offset_text short_word offset
    ∷ offset_text mark_word offset
    ∷ offset_text version_word offset
    ∷ offset_text count_word offset
    ∷ offset_text machine_word offset
    ∷ offset_text node_word offset
    ∷ offset_text edge_word offset
    ∷ offset_text start_word offset
    ∷ offset_text retiming_word offset
    ∷ one_text tail_word offset
    ∷ []

-- the others, from 11 on: of the answer's details and its cycle; of the edge that breaks its rule, its nodes
module _ (answer : List ℕ) (from to : ℕ) where
  abbrev detail : ℕ → ℕ
  detail i = get_or answer i 0

  unfoldable pub rule_texts : List (List ℕ)
  rule_texts =
      bare_word
      ∷ cycle_text knot_word answer
      ∷ three_text dependence_word (detail 1) from_word from to_word to
      ∷ cycle_text no_retiming_word answer
      ∷ two_text units_step_word (detail 1) then_class_word (detail 2)
      ∷ (one_text size_word (detail 1) ++ steps_word)
      ∷ long_word
      ∷ (one_text room_word (detail 1) ++ room_end)
      ∷ three_text early_word (detail 1) at_node_word (detail 2) at_edge_word (detail 3)
      ∷ three_text busy_word (detail 1) at_node_word (detail 2) then_class_word (detail 3)
      ∷ []

  -- the name and the details of the refusal that the answer holds
  unfoldable pub reason_text : List ℕ
  reason_text =
      pick (ltb (detail 0) 11) (get_or (shape_texts (detail 1)) (detail 0) []) (get_or rule_texts (detail 0 - 11) [])

  unfoldable pub refusal_line : List ℕ
  refusal_line = (refused_word ++ numeral (detail 0)) ++ (32 ∷ (reason_text ++ newline))
