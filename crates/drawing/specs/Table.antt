-- A body as a reservation table: what each class is, the heads of the columns, then a row for each step, with a place of six bytes for each unit.
-- Assumes nothing.
use Rattle.std.specs.Prelude.{◌&&◌, List, [], ◌∷◌, ◌++◌, ℕ, ◌+◌, ◌*◌, ◌-◌, eqb, ltb, length}
use Rattle.std.proofs.lemmas.List.Edits.{sets}
use Rattle.lists.specs.Pick.{pick}
use Rattle.answer.specs.Refused.{fine}
use Rattle.laid.specs.Rows.{rows}
use Rattle.form.specs.declared.Form.{Form}
use Rattle.form.specs.declared.Class.{Class}
use Rattle.form.specs.Places.{class_of, node_of, start_of, retiming_of}
use Rattle.reader.specs.Reading.{read_form}
use Rattle.text.specs.Decimal.{decimal, newline}
use Rattle.form.specs.Hold.{hold}
use Rattle.legal.specs.Loop.{loop_of, pair_of}
use Rattle.legal.specs.Legal.{busy}
use Rattle.text.specs.Words.{retiming_text}
use Rattle.drawing.specs.Words.{class_word, latency_word, units_word, plain_word, pipelined_word, step_word, bar_word, free_word}

unfoldable pub blanks : ℕ → List ℕ
blanks n = rows (λ i. 32 ∷ []) n

-- a text at the right of a place of six
unfoldable pub right : List ℕ → List ℕ
right text = blanks (6 - length text) ++ text

-- class c of the board
unfoldable pub class_line : ℕ → Class → List ℕ
class_line c k =
    (class_word ++ decimal c) ++ ((latency_word ++ decimal k.latency)
    ++ ((units_word ++ decimal k.units) ++ (pick (eqb k.pipelined 0) plain_word pipelined_word ++ newline)))

-- the head of its column: its number in the place of its last unit
unfoldable pub head_text : ℕ → ℕ → List ℕ
head_text c units = bar_word ++ (blanks (6 * (units - 1)) ++ right (decimal c))

-- a node on class k that starts at s with retiming r: in step q of class c its number and "+r" where it starts
unfoldable pub start_place : ℕ → ℕ → ℕ → ℕ → ℕ → ℕ → List ℕ
start_place q c v k s r = pick (eqb k c && eqb s q) (right (decimal v ++ retiming_text r)) []

-- and its number in brackets where it still holds its unit, of h steps
unfoldable pub held_place : ℕ → ℕ → ℕ → ℕ → ℕ → ℕ → List ℕ
held_place q c h v k s = pick (eqb k c && (ltb s q && ltb q (s + h))) (right (91 ∷ (decimal v ++ (93 ∷ [])))) []

module _ (f : Form) (q : ℕ) where
  -- class c in step q: the nodes that start, ascending, those that still hold a unit, and the units that are free
  unfoldable pub places_text : ℕ → List ℕ
  places_text c =
      bar_word ++ (rows (λ v. start_place q c v (node_of f v).class (start_of f v) (retiming_of f v)) f.header.nodes
      ++ (rows (λ v. held_place q c (hold (class_of f c)) v (node_of f v).class (start_of f v)) f.header.nodes
      ++ rows (λ i. free_word) ((class_of f c).units - busy (loop_of f) (pair_of f) c q)))

  unfoldable pub row_text : List ℕ
  row_text = right (decimal q) ++ (rows places_text f.header.classes ++ newline)

unfoldable pub heads_line : Form → List ℕ
heads_line f = step_word ++ (rows (λ c. head_text c (class_of f c).units) f.header.classes ++ newline)

unfoldable pub table_text : Form → List ℕ
table_text f = rows (λ c. class_line c (class_of f c)) f.header.classes ++ (heads_line f ++ rows (λ i. row_text f (i + 1)) f.header.length)

-- what is drawn of a record: nothing of one that is refused
unfoldable pub drawing_of : List ℕ → List ℕ
drawing_of s = pick (fine (read_form s).refusal) (table_text (read_form s).form) []

-- its size, or 0 where there is no room
unfoldable pub drawn : List ℕ → ℕ → ℕ
drawn s room = pick (ltb room (length (drawing_of s))) 0 (length (drawing_of s))

-- the buffer afterwards: the drawing from its start on, or as it was
unfoldable pub drawn_buffer : List ℕ → List ℕ → List ℕ
drawn_buffer s out = pick (ltb (length out) (length (drawing_of s))) out (sets out 0 (drawing_of s))
