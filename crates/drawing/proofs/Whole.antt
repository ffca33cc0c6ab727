-- The rows and the table of a timetable, and the drawing of a record: measured in no room, then put where it fits.
-- Assumes nothing.
use mathlib.Core.Path.{◌≡◌, refl, sym, ap, subst, ◌∙◌}
use mathlib.Core.Logic.{◌≢◌}
use mathlib.Core.List.{List, [], ◌∷◌, ◌++◌}
use mathlib.Core.Bool.{true, false}
use Prim.Native.Nat.{ℕ, ◌+◌, ◌≤◌, ◌<◌}
use native.Mathlib.Nat.{zero-add}
use native.Mathlib.Omega.{arith}
use lib.ListN.{length, get_or, length-append}
use borrow.Author.Tests.{le-ltb, lt-ltb}
use Rattle.lists.specs.Pick.{pick_true, pick-false}
use Rattle.lists.specs.Filled.{filled_at}
use Rattle.answer.specs.Refused.{fine}
use Rattle.laid.specs.Laid.{Laid}
use Rattle.laid.specs.Rows.{rows}
use Rattle.laid.specs.Laws.{same-long}
use Rattle.text.specs.declared.Page.{Page}
use Rattle.text.specs.Page.{Puts}
use Rattle.text.specs.PageLaws.{followed}
use Rattle.form.specs.declared.Form.{Form}
use Rattle.form.specs.Places.{node_of, class_of, start_of, no_class}
use Rattle.reader.specs.Outcome.{Record}
use Rattle.reader.specs.Reading.{read_form}
use Rattle.text.specs.Decimal.{decimal, newline}
use Rattle.tables.specs.declared.Timetable.{Timetable}
use Rattle.tables.specs.Times.{times_of, Timed, timed-form}
use Rattle.legal.specs.Loop.{loop_of, pair_of}
use Rattle.rules.specs.Busy.{StartsIn, seated-form}
use Rattle.rules.specs.Lowest.{starts-in}
use Rattle.drawing.specs.Words.{step_word}
use Rattle.drawing.specs.Table.{right, class_line, head_text, places_text, row_text, heads_line, table_text, drawing_of, drawn, drawn_buffer}
use Rattle.drawing.specs.Noted.{Noted, Narrow, TimesTabled}

-- ---- a row

pub row_put : (f : Form) (q n : ℕ) → n ≡ f.header.classes → (p r s t : Page) → Puts p r (right (decimal q)) → Puts r s (rows (places_text f q) n) → Puts s t newline → Puts p t (row_text f q)
unfolding row_text
row_put f q n is p r s t x y z = followed p r t _ _ x (followed r s t _ _ (rw is at y) z)

-- ---- a timetable

-- its bounds
pub tabled-nodes : (t : Timetable) → TimesTabled t → t.nodes ≤ 64
unfolding times_of
tabled-nodes t h = rw h.is h.good.nodes.1

pub tabled-length : (t : Timetable) → TimesTabled t → t.length ≤ 512
unfolding times_of
tabled-length t h = rw h.is h.good.length

pub tabled-narrow : (t : Timetable) → TimesTabled t → Narrow t.classes t.class
unfolding times_of
tabled-narrow t h = rw h.is (record { few = h.good.classes.1; units = λ c l. (h.good.class c l).units.1 })

pub tabled-starts : (t : Timetable) → TimesTabled t → t.length ≢ 0 → StartsIn t.length t.start t.nodes
unfolding times_of
tabled-starts t h n =
    let f : Form = h.form in
    starts-in (loop_of f) (pair_of f) t (subst (Timed (loop_of f) (pair_of f)) (sym h.is) (timed-form f)) (seated-form f h.good (λ e. n (ap (λ (x : Timetable). x.length) h.is ∙ e)))

-- and what it holds
module _ (f : Form) (t : Timetable) (is : t ≡ times_of f) where
  pub times-noted : Noted f t.length t.nodes t.runs t.start t.retiming
  unfolding times_of
  times-noted = rw is (record {
    is_length = refl;
    all-nodes = refl;
    runs_on = λ v l. sym (filled_at 64 (λ u. (node_of f u).class) f.header.nodes v l);
    starts = λ v l. sym (filled_at 64 (start_of f) f.header.nodes v l);
    retimed = λ v l. refl;
  })

  pub times-class : t.class ≡ f.class
  unfolding times_of
  times-class = rw is refl

  pub times-classes : t.classes ≡ f.header.classes
  unfolding times_of
  times-classes = rw is refl

  pub times-length : t.length ≡ f.header.length
  unfolding times_of
  times-length = rw is refl

  pub table-put : (p₀ p₁ p₂ p₃ p₄ p₅ : Page) → Puts p₀ p₁ (rows (λ c. class_line c (get_or t.class c no_class)) t.classes) → Puts p₁ p₂ step_word
      → Puts p₂ p₃ (rows (λ c. head_text c (get_or t.class c no_class).units) t.classes) → Puts p₃ p₄ newline → Puts p₄ p₅ (rows (λ k. row_text f (k + 1)) f.header.length) → Puts p₀ p₅ (table_text f)
  unfolding table_text heads_line
  table-put p₀ p₁ p₂ p₃ p₄ p₅ x y z w v =
      followed p₀ p₁ p₅ _ _ (rw (times-class, times-classes) at x)
      (followed p₁ p₄ p₅ _ _ (followed p₁ p₂ p₄ _ _ y (followed p₂ p₃ p₄ _ _ (rw (times-class, times-classes) at z) w)) v)

-- ---- a record

empty : (text : List ℕ) → length text ≡ 0 → text ≡ []
empty [] h = refl
empty (x ∷ xs) h = absurd (omega arith)

module _ (s : List ℕ) (r : Record) (back : r ≡ read_form s) where
  no-drawing : fine r.refusal ≡ false → drawing_of s ≡ []
  unfolding drawing_of
  no-drawing h = pick-false _ _ _ (rw (← back) h)

  a-drawing : fine r.refusal ≡ true → drawing_of s ≡ table_text r.form
  unfolding drawing_of
  a-drawing h = pick_true _ _ _ (rw (← back) h) ∙ rw back

  -- nothing is drawn of a record that is refused
  pub refused-draw : (out : List ℕ) → fine r.refusal ≡ false → (0 ≡ drawn s (length out)) × (out ≡ drawn_buffer s out)
  unfolding drawn drawn_buffer
  refused-draw out h =
      let none = no-drawing h in
      let enough = le-ltb (length out) 0 (omega arith) in
      (rw none (sym (pick-false _ _ _ enough)), rw none (sym (pick-false _ _ _ enough)))

  -- a table measured in no room, then put where it fits
  module _ (good : fine r.refusal ≡ true) (out m : List ℕ) (size : ℕ) (x : Laid [] 0 (table_text r.form) m size) where
    nothing_put : m ≡ []
    nothing_put = empty m (same-long [] (table_text r.form) m 0 size x)

    size_is : size ≡ length (drawing_of s)
    size_is = x.ends ∙ zero-add (length (table_text r.form)) ∙ ap length (sym (a-drawing good))

    pub cramped : length (m ++ out) < size → (0 ≡ drawn s (length out)) × (m ++ out ≡ drawn_buffer s out)
    unfolding drawn drawn_buffer
    cramped h =
        let less = lt-ltb (length out) (length (drawing_of s)) (omega (arith, size_is, ap length nothing_put, length-append m out)) in
        (sym (pick_true _ _ _ less), rw nothing_put (sym (pick_true _ _ _ less)))

    pub fits : (last : List ℕ) (end : ℕ) → size ≤ length (m ++ out) → Laid (m ++ out) 0 (table_text r.form) last end
        → (size ≡ drawn s (length out)) × (last ≡ drawn_buffer s out)
    unfolding drawn drawn_buffer
    fits last end h y =
        let enough = le-ltb (length out) (length (drawing_of s)) (omega (arith, size_is, ap length nothing_put, length-append m out)) in
        (size_is ∙ sym (pick-false _ _ _ enough), y.is ∙ rw (nothing_put, ← (a-drawing good)) (sym (pick-false _ _ _ enough)))

-- a table has a head at least
pub some-size : (f : Form) (m : List ℕ) (size : ℕ) → Laid [] 0 (table_text f) m size → 0 < size
unfolding table_text heads_line step_word
some-size f m size x =
    omega (
      arith,
      x.ends,
      length-append (rows (λ c. class_line c (class_of f c)) f.header.classes) (heads_line f ++ rows (λ i. row_text f (i + 1)) f.header.length),
      length-append (heads_line f) (rows (λ i. row_text f (i + 1)) f.header.length),
      length-append step_word (rows (λ c. head_text c (class_of f c).units) f.header.classes ++ newline),
    )
