-- What an entry point is refused: what the reader refuses, else what is asked of the form that was read.
-- Assumes nothing.
use Rattle.std.specs.Prelude.{◌≡◌, true, false, List, ℕ, Result}
use Rattle.std.proofs.Common.{subst}
use Rattle.lists.specs.Pick.{pick, pick_ind, pick_true, pick-false, both_ways}
use Rattle.answer.specs.Refused.{Verdict, fine}
use Rattle.answer.specs.declared.Refusal.{Refusal}
use Rattle.form.specs.declared.Form.{Form}
use Rattle.form.specs.Ranges.{WellFormed}
use Rattle.field.specs.Number.{Bytes}
use Rattle.reader.specs.Outcome.{Record, record_in}
use Rattle.reader.specs.Reading.{read_form}
use Rattle.record.specs.Held.{Held}
use Rattle.record.specs.Read.{read-well-formed}
use Rattle.record.specs.ReadHeld.{read_held}

unfoldable pub read_first : List ℕ → (Form → Verdict) → Verdict
read_first s ask = pick (fine (read_form s).refusal) (ask (read_form s).form) (read_form s).refusal

-- what reading answered, as an arm of a match on it has it
pub read-as : (s : List ℕ) (r x : Result Form Refusal) → r ≡ x → record_in r ≡ read_form s → record_in x ≡ read_form s
read-as s r x e = subst (λ (y : Result Form Refusal). record_in y ≡ read_form s) e

-- what an entry point has of a record that was read: a form in its ranges, which alone is asked
pub record WellRead (s : List ℕ) (r : Record) : Type 0 where
  pub good : WellFormed r.form
  pub held : Held r.form
  pub asks : (ask : Form → Verdict) → read_first s ask ≡ ask r.form

module _ (s : List ℕ) (r : Record) (back : r ≡ read_form s) where
  -- refused by the reader
  pub first-refused : (ask : Form → Verdict) → fine r.refusal ≡ false → read_first s ask ≡ r.refusal
  unfolding read_first
  first-refused ask f = rw (← back) (pick-false (fine r.refusal) (ask r.form) r.refusal f)

  -- asked of the form
  pub first-asked : (ask : Form → Verdict) → fine r.refusal ≡ true → read_first s ask ≡ ask r.form
  unfolding read_first
  first-asked ask f = rw (← back) (pick_true (fine r.refusal) (ask r.form) r.refusal f)

  pub well-read : Bytes s → fine r.refusal ≡ true → WellRead s r
  well-read b f =
      let f' : fine (read_form s).refusal ≡ true = subst (λ (q : Record). fine q.refusal ≡ true) back f in
      record {
        good = rw back (read-well-formed s b f');
        held = rw back (read_held s b f');
        asks = λ ask. first-asked ask f;
      }

-- where nothing is refused, neither the reader nor what is asked refuses
pub neither-refused : (s : List ℕ) (ask : Form → Verdict) → fine (read_first s ask) ≡ true
    → (fine (read_form s).refusal ≡ true) × (fine (ask (read_form s).form) ≡ true)
unfolding read_first
neither-refused s ask =
    pick_ind (λ (r : Verdict). fine r ≡ true → (fine (read_form s).refusal ≡ true) × (fine (ask (read_form s).form) ≡ true))
    (fine (read_form s).refusal) _ _ (λ e f. (e, f)) (λ e f. both_ways f e)
