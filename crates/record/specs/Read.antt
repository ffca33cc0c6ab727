-- Reading a record that stands alone: what is read is well-formed, its unused places are 0, and it is laid out as the bytes it was read from.
-- Assumes nothing.
use Rattle.std.specs.Prelude.{◌≡◌, refl, true, List, ℕ, ◌≤◌, ltb, length}
use Rattle.std.proofs.Common.{◌∙◌, ltb-false, take_all}
use Rattle.lists.specs.Pick.{pick_ind, pick_true, both_ways}
use Rattle.answer.specs.Refused.{Verdict, fine}
use Rattle.form.specs.Places.{empty_form, used}
use Rattle.form.specs.Ranges.{WellFormed}
use Rattle.field.specs.Number.{Bytes}
use Rattle.reader.specs.Outcome.{Prefix, Record}
use Rattle.reader.specs.Reading.{prefix_of, tail_of, answered, read_form}
use Rattle.writer.specs.Layout.{layout}
use Rattle.record.specs.Prefix.{prefix-well-formed, prefix-used, prefix-layout}

-- what is known where no byte is left
pub record Alone (s : List ℕ) (p : Prefix) : Type 0 where
  pub begun : fine p.refusal ≡ true
  pub all : length s ≤ p.size

alone : (s : List ℕ) (p : Prefix) → fine (tail_of s p) ≡ true → Alone s p
unfolding tail_of fine
alone s p =
    let P : Verdict → Type 0 = λ r. fine r ≡ true → Alone s p in
    pick_ind P (fine p.refusal) _ _
    (λ f. pick_ind P (ltb p.size (length s)) _ _ (λ l e. both_ways e refl) (λ l e. record { begun = f; all = ltb-false p.size (length s) l }))
    (λ f e. both_ways e f)

-- what reading answers where nothing is refused
module _ (s : List ℕ) (f : fine (read_form s).refusal ≡ true) where
  -- nothing is refused at the front, and no byte is left
  pub read-alone : Alone s (prefix_of s)
  unfolding read_form answered
  read-alone = alone s (prefix_of s) f

  -- the form answered is the one at the front
  pub read-form : (read_form s).form ≡ (prefix_of s).form
  unfolding read_form answered
  read-form = pick_true (fine (tail_of s (prefix_of s))) (prefix_of s).form empty_form f

module _ (s : List ℕ) (b : Bytes s) (f : fine (read_form s).refusal ≡ true) where
  -- a record that is read is well-formed
  pub read-well-formed : WellFormed (read_form s).form
  read-well-formed = rw (read-form s f) (prefix-well-formed s b (read-alone s f).begun)

  -- in a form that is read, the unused places are 0
  pub read-used : used (read_form s).form ≡ (read_form s).form
  read-used = rw (read-form s f) (prefix-used s b (read-alone s f).begun)

  -- a form that is read is laid out as the bytes it was read from
  pub read-layout : layout (read_form s).form ≡ s
  read-layout = rw (read-form s f) (prefix-layout s b (read-alone s f).begun ∙ take_all (prefix_of s).size s (read-alone s f).all)

-- what the reader answered is well-formed, where it refused nothing
pub read-good : (s : List ℕ) (r : Record) → r ≡ read_form s → Bytes s → fine r.refusal ≡ true → WellFormed r.form
read-good s r back b f = rw back (read-well-formed s b (rw back at f))
