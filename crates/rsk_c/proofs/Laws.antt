-- The ways that rewriting a record goes.
-- Assumes nothing.
use mathlib.Core.Path.{◌≡◌, ap, sym, subst}
use mathlib.Core.Bool.{true}
use mathlib.Core.List.{List}
use Rattle.std.specs.Prelude.{Ok, Err}
use Prim.Native.Nat.{ℕ}
use lib.ListN.{length}
use Rattle.lists.specs.Pick.{pick}
use Rattle.answer.specs.Refused.{fine, refused_fine}
use Rattle.answer.specs.declared.Refusal.{Refusal}
use Rattle.form.specs.declared.Form.{Form}
use Rattle.field.specs.Number.{Bytes}
use Rattle.reader.specs.Outcome.{Record, record_in}
use Rattle.reader.specs.Reading.{read_form}
use Rattle.writer.specs.Outcome.{written_in}
use Rattle.writer.specs.Layout.{layout}
use Rattle.writer.specs.Writing.{written, buffer_after}
use Rattle.record.specs.Read.{read-well-formed}
use Rattle.record.specs.ReadHeld.{read_held}
use Rattle.record.specs.Written.{well-formed-written}
use Rattle.rsk_c.specs.Rewrite.{rewritten, rewritten_out}

module _ (s out : List ℕ) where
  -- what the reader refuses, which leaves the buffer as it was
  pub rewrite-refused : (e : Refusal) → record_in (Err e) ≡ read_form s → (written_in (Err e) ≡ rewritten s (length out)) × (out ≡ rewritten_out s out)
  unfolding rewritten rewritten_out pick
  rewrite-refused e back = (rw (← back, refused_fine e), rw (← back, refused_fine e))

  pub rewrite-passed : (f : Form) → record_in (Ok f) ≡ read_form s → (rewritten s (length out) ≡ written f (length out)) × (rewritten_out s out ≡ buffer_after f out)
  unfolding rewritten rewritten_out pick fine
  rewrite-passed f back = (rw (← back), rw (← back))

-- the reader takes the bytes of a form that it has read
pub form-taken : (s : List ℕ) (f : Form) → record_in (Ok f) ≡ read_form s → Bytes s → fine (read_form (layout f)).refusal ≡ true
unfolding fine
form-taken s f back bytes =
    let passed : fine (read_form s).refusal ≡ true = rw (← back) in
    subst (λ (x : Record). fine (read_form (layout x.form)).refusal ≡ true) (sym back)
    (ap (λ (x : Record). fine x.refusal) (well-formed-written (read_form s).form (read_held s bytes passed) (read-well-formed s bytes passed)))
