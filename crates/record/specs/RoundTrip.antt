-- The two round trips: what was written is read back, and what was read is written back.
-- Assumes nothing.
use Rattle.std.specs.Prelude.{◌≡◌, refl, List, ℕ, ◌+◌, ◌≤◌, ltb, length, take, drop, None}
use Rattle.std.proofs.Common.{ap, subst, ◌∙◌, arith}
use Rattle.std.proofs.Math.Bool.{true}
use borrow.Author.Tests.{ltb-false, le-ltb}
use Rattle.std.proofs.lemmas.List.Edits.{sets, sets-eq}
use Rattle.std.proofs.Math.Seq.{take-append_seam}
use Rattle.lists.specs.Pick.{pick, pick_ind, pick_true, pick-false, both_ways}
use Rattle.answer.specs.Refused.{Verdict, fine}
use Rattle.form.specs.declared.Form.{Form}
use Rattle.form.specs.Places.{used}
use Rattle.field.specs.Number.{Bytes}
use Rattle.reader.specs.Reading.{read_form}
use Rattle.writer.specs.Layout.{layout}
use Rattle.writer.specs.Writing.{refusal_of, written, buffer_after}
use Rattle.record.specs.Held.{Held}
use Rattle.record.specs.Read.{read-layout}
use Rattle.record.specs.Written.{well-formed-written, written-well-formed}

-- what is known of a form that is written
pub record ReadsBack (f : Form) (room : ℕ) : Type 0 where
  pub reads : fine (read_form (layout f)).refusal ≡ true
  pub fits : length (layout f) ≤ room

module _ (f : Form) (room : ℕ) where
  -- a form that writing does not refuse is read back, and there is room for it
  pub wrote : fine (refusal_of f room) ≡ true → ReadsBack f room
  unfolding refusal_of fine
  wrote =
      let P : Verdict → Type 0 = λ r. fine r ≡ true → ReadsBack f room in
      pick_ind P (fine (read_form (layout f)).refusal) _ _
      (λ r. pick_ind P (ltb room (length (layout f))) _ _ (λ l e. both_ways e refl) (λ l e. record { reads = r; fits = ltb-false room (length (layout f)) l }))
      (λ r e. both_ways e r)

  -- a form that is read back, with room for it, is not refused
  pub writes : ReadsBack f room → refusal_of f room ≡ None
  unfolding refusal_of
  writes w = pick_true (fine (read_form (layout f)).refusal) _ _ w.reads ∙ pick-false (ltb room (length (layout f))) _ _ (le-ltb room (length (layout f)) w.fits)

-- the buffer begins with the record's bytes
pub buffer-begins : (f : Form) (out : List ℕ) → fine (refusal_of f (length out)) ≡ true → take (length (layout f)) (buffer_after f out) ≡ layout f
unfolding buffer_after
buffer-begins f out e =
    let w : ReadsBack f (length out) = wrote f (length out) e in
    ap (λ (t : List ℕ). take (length (layout f)) t) (pick_true (fine (refusal_of f (length out))) (sets out 0 (layout f)) out e ∙ sets-eq (layout f) out 0 (omega (arith, w.fits)))
    ∙ take-append_seam (layout f) (drop (0 + length (layout f)) out)

-- reading what was written gives the used places of the form
pub reading-written : (f : Form) (out : List ℕ) → Held f → fine (refusal_of f (length out)) ≡ true
    → read_form (take (written f (length out)).size (buffer_after f out)) ≡ record { refusal = None; form = used f }
unfolding written
reading-written f out h e =
    let size : pick (fine (refusal_of f (length out))) (length (layout f)) 0 ≡ length (layout f) = pick_true (fine (refusal_of f (length out))) (length (layout f)) 0 e in
    let bytes : take (written f (length out)).size (buffer_after f out) ≡ layout f = rw size (buffer-begins f out e) in
    ap read_form bytes ∙ well-formed-written f h (written-well-formed f h (wrote f (length out) e).reads)

-- nothing is refused, and the buffer begins with the bytes
pub record WrittenBack (s out : List ℕ) (f : Form) : Type 0 where
  pub refusal : refusal_of f (length out) ≡ None
  pub bytes : take (length s) (buffer_after f out) ≡ s

-- writing what was read refuses nothing and gives the bytes back
pub writing-read : (s out : List ℕ) → Bytes s → fine (read_form s).refusal ≡ true → length s ≤ length out → WrittenBack s out (read_form s).form
unfolding fine
writing-read s out b e l =
    let f : Form = (read_form s).form in
    let same : layout f ≡ s = read-layout s b e in
    let w : ReadsBack f (length out) = record { reads = ap (λ (t : List ℕ). fine (read_form t).refusal) same ∙ e; fits = omega (arith, ap length same) } in
    let none : refusal_of f (length out) ≡ None = writes f (length out) w in
    record {
      refusal = none;
      bytes = subst (λ (t : List ℕ). take (length t) (buffer_after f out) ≡ t) same (buffer-begins f out (ap fine none));
    }
