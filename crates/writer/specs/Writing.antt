-- Writing a form: what the reader would refuse of its bytes, at the offset the field has there, then Room; else all of its bytes.
-- Assumes nothing.
use Rattle.std.specs.Prelude.{List, ℕ, ltb, length, None, Some}
use Rattle.std.proofs.lemmas.List.Edits.{sets}
use Rattle.lists.specs.Pick.{pick}
use Rattle.answer.specs.Refused.{Verdict, fine}
use Rattle.answer.specs.declared.Refusal.TheVariants.{Room}
use Rattle.form.specs.declared.Form.{Form}
use Rattle.reader.specs.Reading.{read_form}
use Rattle.writer.specs.Outcome.{Written}
use Rattle.writer.specs.Layout.{layout}

-- the refusal of a form that is written into so much room
unfoldable pub refusal_of : Form → ℕ → Verdict
refusal_of f room =
    pick (fine (read_form (layout f)).refusal) (pick (ltb room (length (layout f))) (Some (Room 0)) None)
    (read_form (layout f)).refusal

unfoldable pub written : Form → ℕ → Written
written f room = record { refusal = refusal_of f room; size = pick (fine (refusal_of f room)) (length (layout f)) 0 }

-- the buffer afterwards: the record's bytes from its start on, or as it was
unfoldable pub buffer_after : Form → List ℕ → List ℕ
buffer_after f out = pick (fine (refusal_of f (length out))) (sets out 0 (layout f)) out
