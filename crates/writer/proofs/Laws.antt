-- The layout laid table by table, read back and copied.
-- Assumes nothing.
use Rattle.std.specs.Prelude.{Result, Ok, Err, None, Some}
use Rattle.std.specs.Result.{is_ok}
use mathlib.Core.Path.{◌≡◌, refl, ◌∙◌}
use mathlib.Core.List.{List, ◌++◌}
use mathlib.Core.Bool.{true}
use Prim.Native.Nat.{ℕ, ◌≤◌, ◌<◌, min}
use native.Mathlib.Nat.{zero-add}
use native.Mathlib.Omega.{arith}
use lib.ListN.{length, take, drop}
use lib.Seq.{sets-eq, length-take-le}
use borrow.Author.Tests.{le-ltb, lt-ltb}
use Rattle.lists.specs.Pick.{pick, both_ways}
use Rattle.lists.specs.Stored.{sets-front}
use Rattle.answer.specs.Refused.{fine, refused_fine}
use Rattle.answer.specs.declared.Refusal.{Refusal}
use Rattle.answer.specs.declared.Refusal.TheVariants.{Room}
use Rattle.laid.specs.Laid.{Laid}
use Rattle.laid.specs.Rows.{rows}
use Rattle.laid.specs.Laws.{both, same-long}
use Rattle.form.specs.declared.Form.{Form}
use Rattle.form.specs.Places.{class_of, node_of, edge_of, start_of, retiming_of, scheduled}
use Rattle.reader.specs.Outcome.{record_in}
use Rattle.reader.specs.Reading.{read_form}
use Rattle.writer.specs.Outcome.{written_in}
use Rattle.writer.specs.Layout.{class_bytes, node_bytes, edge_bytes, start_bytes, header_bytes, class_rows, node_rows, edge_rows, start_rows, layout}
use Rattle.writer.specs.Writing.{refusal_of, written, buffer_after}

-- the header and the four tables are the whole layout
pub whole : (f : Form) (l a b c d e : List ℕ) (h i j k n x y z w : ℕ)
    → Laid l 0 (header_bytes f) a h
    → Laid a h (rows (λ i. class_bytes (class_of f i)) x) b i → x ≡ min f.header.classes 4
    → Laid b i (rows (λ v. node_bytes (node_of f v)) y) c j → y ≡ min f.header.nodes 64
    → Laid c j (rows (λ e. edge_bytes (edge_of f e)) z) d k → z ≡ min f.header.edges 256
    → Laid d k (rows (λ v. start_bytes (start_of f v) (retiming_of f v)) w) e n → w ≡ min (scheduled f) 64
    → Laid l 0 (layout f) e n
unfolding layout class_rows node_rows edge_rows start_rows
whole f l a b c d e h i j k n x y z w header classes ex nodes ey edges ez starts ew =
    both _ _ _ _ _ _ _ _ header
    (both _ _ _ _ _ _ _ _ (rw ex at classes) (both _ _ _ _ _ _ _ _ (rw ey at nodes) (both _ _ _ _ _ _ _ _ (rw ez at edges) (rw ew at starts))))

-- ---- a form laid into a buffer, and its bytes at the front of it

module _ (l m : List ℕ) (f : Form) (size : ℕ) (x : Laid l 0 (layout f) m size) (room : size ≤ length l) where
  pub front_long : length (take size m) ≡ size
  front_long = length-take-le size m (omega (arith, same-long l (layout f) m 0 size x))

  size_is : size ≡ length (layout f)
  size_is = x.ends ∙ zero-add _

  pub front : take size m ≡ layout f
  front = rw (x.is, size_is) (sets-front l (layout f) (omega (arith, size_is)))

  -- once the reader has read them back
  pub refused : (e : Refusal) → record_in (Err e) ≡ read_form (take size m) → (out : List ℕ) → (written_in (Err e) ≡ written f (length out)) × (out ≡ buffer_after f out)
  unfolding written buffer_after refusal_of pick
  refused e back out = (rw (← front, ← back, refused_fine e, refused_fine e), rw (← front, ← back, refused_fine e, refused_fine e))

  pub accepted : (r : Result Form Refusal) → record_in r ≡ read_form (take size m) → is_ok r ≡ true → fine (read_form (layout f)).refusal ≡ true
  unfolding fine
  accepted (Ok g) back ok = rw (← front, ← back)
  accepted (Err e) back ok = both_ways ok refl

-- ---- a form's bytes that the reader takes

module _ (f : Form) (s out : List ℕ) (is : s ≡ layout f) (good : fine (read_form (layout f)).refusal ≡ true) where
  pub cramped : length out < length s → (written_in (Err (Room 0)) ≡ written f (length out)) × (out ≡ buffer_after f out)
  unfolding written buffer_after refusal_of pick fine
  cramped h = (rw (good, ← is, lt-ltb _ _ h), rw (good, ← is, lt-ltb _ _ h))

  pub fits : length s ≤ length out → (last : List ℕ) → last ≡ s ++ drop (length s) out
      → (written_in (Ok (length s)) ≡ written f (length out)) × (last ≡ buffer_after f out)
  unfolding written buffer_after refusal_of pick fine
  fits h last e = (rw (good, ← is, le-ltb _ _ h), rw (good, ← is, le-ltb _ _ h, sets-eq s out 0 (rw zero-add h), zero-add) e)
