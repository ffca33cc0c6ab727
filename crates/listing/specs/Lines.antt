-- The lines of a listing: the mark, the counts with the floor, then each body step with the nodes that start there.
-- Assumes nothing.
use Rattle.std.specs.Prelude.{List, [], ◌∷◌, ◌++◌, map, ℕ, ◌+◌, eqb, ltb, length, get_or, None, Some}
use Rattle.std.proofs.lemmas.List.Edits.{sets}
use Rattle.lists.specs.Pick.{pick}
use Rattle.lists.specs.Span.{span}
use Rattle.lists.specs.Fold.{top}
use Rattle.answer.specs.Refused.{Verdict, number_of, fine}
use Rattle.answer.specs.declared.Refusal.TheVariants.{Room}
use Rattle.laid.specs.Rows.{rows}
use Rattle.form.specs.declared.Form.{Form}
use Rattle.form.specs.Places.{start_of, retiming_of}
use Rattle.reader.specs.Reading.{read_form}
use Rattle.legal.specs.Loop.{loop_of}
use Rattle.judge.specs.Judgement.{judge_record}
use Rattle.floor.specs.Parts.{floor_length}
use Rattle.listing.specs.Outcome.{Listed}
use Rattle.text.specs.Decimal.{decimal, newline}
use Rattle.text.specs.Words.{refused_word, retiming_text}
use Rattle.listing.specs.Text.{mark_line, nodes_word, edges_word, length_word, depth_word, floor_word, shortest_word, open_word}

-- a table as a function
abbrev pub cell : List ℕ → ℕ → ℕ
cell table v = get_or table v 0

-- the largest retiming
unfoldable pub depth_of : (ℕ → ℕ) → ℕ → ℕ
depth_of retiming nodes = top (map retiming (span 0 nodes))

-- a pair is "shortest" when its length is the floor, else "open"
unfoldable pub verdict : ℕ → ℕ → List ℕ
verdict steps floor = pick (eqb steps floor) shortest_word open_word

unfoldable pub counts_line : ℕ → ℕ → ℕ → ℕ → ℕ → List ℕ
counts_line nodes edges steps depth floor =
    nodes_word ++ (decimal nodes
    ++ (edges_word ++ (decimal edges
    ++ (length_word ++ (decimal steps
    ++ (depth_word ++ (decimal depth
    ++ (floor_word ++ (decimal floor ++ (verdict steps floor ++ newline))))))))))

-- " -" where none does
unfoldable pub or_idle : List ℕ → List ℕ
or_idle text = pick (eqb (length text) 0) (32 ∷ 45 ∷ []) text

module _ (start retiming : ℕ → ℕ) where
  -- node v where it starts in step q: a space, its number, "+r" when r is not 0
  unfoldable pub node_text : ℕ → ℕ → List ℕ
  node_text q v = pick (eqb (start v) q) (32 ∷ (decimal v ++ retiming_text (retiming v))) []

  -- the nodes that start in step q, ascending
  unfoldable pub nodes_text : ℕ → ℕ → List ℕ
  nodes_text nodes q = rows (node_text q) nodes

  unfoldable pub step_line : ℕ → ℕ → List ℕ
  step_line nodes q = decimal q ++ (58 ∷ (or_idle (nodes_text nodes q) ++ newline))

unfoldable pub form_lines : Form → List ℕ
form_lines f =
    mark_line ++ (counts_line f.header.nodes f.header.edges f.header.length (depth_of (retiming_of f) f.header.nodes) (floor_length (loop_of f))
    ++ rows (λ i. step_line (start_of f) (retiming_of f) f.header.nodes (i + 1)) f.header.length)

-- what the judge refuses, reading included, is one line
unfoldable pub refused_line : Verdict → List ℕ
refused_line r = refused_word ++ (decimal (number_of r) ++ newline)

unfoldable pub listing_of : List ℕ → List ℕ
listing_of s = pick (fine (judge_record s)) (form_lines (read_form s).form) (refused_line (judge_record s))

-- only Room is refused
unfoldable pub listed : List ℕ → ℕ → Listed
listed s room =
    pick (ltb room (length (listing_of s))) (record { refusal = Some (Room 0); size = 0 })
    (record { refusal = None; size = length (listing_of s) })

-- the buffer afterwards: the listing from its start on, or as it was
unfoldable pub listed_buffer : List ℕ → List ℕ → List ℕ
listed_buffer s out = pick (ltb (length out) (length (listing_of s))) out (sets out 0 (listing_of s))
