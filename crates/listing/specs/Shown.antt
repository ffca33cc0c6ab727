-- What a listing shows: a form that the judge accepts and its floor, or what is refused.
-- Assumes nothing.
use Rattle.std.specs.Prelude.{◌≡◌, List, ◌++◌, ℕ, ◌≤◌, Result, Ok, Err, Some}
use Rattle.answer.specs.declared.Refused.{Refused}
use Rattle.form.specs.declared.Form.{Form}
use Rattle.form.specs.Ranges.{WellFormed}
use Rattle.legal.specs.Loop.{loop_of}
use Rattle.floor.specs.Parts.{floor_length}
use Rattle.listing.specs.declared.View.{View}
use Rattle.text.specs.Decimal.{decimal}
use Rattle.listing.specs.Text.{nodes_word, edges_word, length_word}
use Rattle.listing.specs.Lines.{form_lines, refused_line, listing_of}

-- a form that the judge accepts and its floor: every number shown is below 1000
pub record Shown (f : Form) (floor : ℕ) : Type 0 where
  pub good : WellFormed f
  pub nodes : f.header.nodes ≤ 64
  pub edges : f.header.edges ≤ 256
  pub length : f.header.length ≤ 512
  pub near : floor ≤ f.header.length
  pub is : floor ≡ floor_length (loop_of f)

-- the first three fields of the counts
unfoldable pub sizes_text : ℕ → ℕ → ℕ → List ℕ
sizes_text nodes edges steps = (nodes_word ++ decimal nodes) ++ ((edges_word ++ decimal edges) ++ (length_word ++ decimal steps))

-- what can be put
abbrev pub Seen : Result View Refused → Type 0
Seen (Ok v) = Shown v.form v.floor
Seen (Err e) = Unit

unfoldable pub view_text : Result View Refused → List ℕ
view_text (Ok v) = form_lines v.form
view_text (Err e) = refused_line (Some e.refusal)

-- what a record shows
pub record Viewed (s : List ℕ) (v : Result View Refused) : Type 0 where
  pub text : view_text v ≡ listing_of s
  pub seen : Seen v
