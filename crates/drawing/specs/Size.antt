-- What the judge accepts is drawn in at most 106,347 bytes: a place of six for each unit, whatever stands in it.
-- Assumes nothing.
use Rattle.std.specs.Prelude.{◌≡◌, refl, Bool, true, false, ◌&&◌, ◌≢◌, ℕ, zero, suc, ◌+◌, ◌*◌, ◌-◌, ◌≤◌, ◌<◌, eqb, leb, ltb, None}
use Rattle.std.proofs.Common.{◌∙◌, le-ltb, lt-ltb, le-leb, eq-eqb, ne_eqb}
use mathlib.Core.List.{List, [], ◌∷◌, ◌++◌}
use native.Mathlib.Omega.{arith}
use Rattle.std.proofs.Math.Decide.{dec_lt, ℕ_discrete}
use Rattle.std.proofs.Math.ListN.{length, length-append}
use Rattle.std.proofs.lemmas.Bool.{lt-leb}
use Rattle.lists.specs.Pick.{pick, pick_true, pick_ind}
use Rattle.lists.specs.Span.{span}
use Rattle.lists.specs.Fold.{count}
use Rattle.lists.specs.Count.{count-last}
use Rattle.lists.specs.Sums.{bit}
use Rattle.answer.specs.Refused.{fine}
use Rattle.laid.specs.Rows.{rows}
use Rattle.form.specs.declared.Form.{Form}
use Rattle.form.specs.declared.Class.{Class}
use Rattle.field.specs.Number.{Bytes}
use Rattle.reader.specs.Reading.{read_form}
use Rattle.record.specs.Read.{read-well-formed}
use Rattle.legal.specs.Judging.{judge_of}
use Rattle.legal.specs.Judged.{judge-accepts}
use Rattle.form.specs.Places.{class_of, node_of, start_of, retiming_of}
use Rattle.form.specs.Ranges.{GoodClass, WellFormed}
use Rattle.text.specs.Decimal.{decimal, newline}
use Rattle.form.specs.Hold.{hold}
use Rattle.legal.specs.Loop.{graph_of, loop_of, pair_of}
use Rattle.legal.specs.Legal.{busy, UnitRule}
use Rattle.legal.specs.Busy.{hold-some, spans, busy-plain}
use Rattle.legal.specs.Shape.{sound-form, placed-form, plain_form}
use Rattle.text.specs.Words.{retiming_text}
use Rattle.drawing.specs.Words.{class_word, latency_word, units_word, plain_word, pipelined_word, step_word, bar_word, free_word}
use Rattle.drawing.specs.Table.{blanks, right, class_line, head_text, start_place, held_place, places_text, row_text, heads_line, table_text, drawing_of}

-- ---- texts and rows

-- rows of at most k bytes
rows_under : (row : ℕ → List ℕ) (k n : ℕ) → ((v : ℕ) → v < n → length (row v) ≤ k) → length (rows row n) ≤ k * n
unfolding rows
rows_under row k zero h = omega arith
rows_under row k (suc n) h = omega (arith, length-append (rows row n) (row n), rows_under row k n (λ v l. h v (omega arith)), h n (omega arith))

-- six bytes for each row that passes a test
rows-count : (row : ℕ → List ℕ) (test : ℕ → Bool) (n : ℕ) → ((v : ℕ) → v < n → length (row v) ≡ 6 * bit (test v)) → length (rows row n) ≡ 6 * count test (span 0 n)
unfolding rows count span
rows-count row test zero h = refl
rows-count row test (suc n) h =
    omega (arith, length-append (rows row n) (row n), rows-count row test n (λ v l. h v (omega arith)), h n (omega arith), count-last test n)

-- two tests that split a third
count-split : (a b o : ℕ → Bool) (n : ℕ) → ((v : ℕ) → v < n → bit (a v) + bit (b v) ≡ bit (o v)) → count a (span 0 n) + count b (span 0 n) ≡ count o (span 0 n)
unfolding count span
count-split a b o zero h = refl
count-split a b o (suc n) h =
    omega (arith, count-split a b o n (λ v l. h v (omega arith)), h n (omega arith), count-last a n, count-last b n, count-last o n)

blanks-size : (n : ℕ) → length (blanks n) ≡ n
unfolding blanks rows
blanks-size zero = refl
blanks-size (suc n) = omega (arith, length-append (blanks n) (32 ∷ []), blanks-size n)

right-size : (text : List ℕ) → length text ≤ 6 → length (right text) ≡ 6
unfolding right
right-size text h = omega (arith, length-append (blanks (6 - length text)) text, blanks-size (6 - length text))

decimal-three : (n : ℕ) → length (decimal n) ≤ 3
unfolding decimal
decimal-three n =
    pick_ind (λ (x : List ℕ). length x ≤ 3) (ltb n 10) _ _ (λ e. omega arith)
    (λ e. pick_ind (λ (x : List ℕ). length x ≤ 3) (ltb n 100) _ _ (λ d. omega arith) (λ d. omega arith))

decimal-two : (n : ℕ) → n < 100 → length (decimal n) ≤ 2
unfolding decimal
decimal-two n h =
    pick_ind (λ (x : List ℕ). length x ≤ 2) (ltb n 10) _ _ (λ e. omega arith) (λ e. rw (pick_true _ _ _ (lt-ltb n 100 h)) (omega arith))

decimal-one : (n : ℕ) → n < 10 → length (decimal n) ≡ 1
unfolding decimal
decimal-one n h = rw (pick_true _ _ _ (lt-ltb n 10 h))

retiming-three : (r : ℕ) → r < 100 → length (retiming_text r) ≤ 3
unfolding retiming_text
retiming-three r h = pick_ind (λ (x : List ℕ). length x ≤ 3) (eqb r 0) [] (43 ∷ decimal r) (λ e. omega arith) (λ e. omega (arith, decimal-two r h))

-- ---- places

place-size : (b : Bool) (text : List ℕ) → length text ≤ 6 → length (pick b (right text) []) ≡ 6 * bit b
unfolding pick
place-size true text h = right-size text h
place-size false text h = refl

start-size : (q c v k s r : ℕ) → v < 100 → r < 100 → length (start_place q c v k s r) ≡ 6 * bit (eqb k c && eqb s q)
unfolding start_place
start-size q c v k s r hv hr =
    place-size (eqb k c && eqb s q) (decimal v ++ retiming_text r) (omega (arith, length-append (decimal v) (retiming_text r), decimal-two v hv, retiming-three r hr))

held-size : (q c h v k s : ℕ) → length (held_place q c h v k s) ≡ 6 * bit (eqb k c && (ltb s q && ltb q (s + h)))
unfolding held_place
held-size q c h v k s =
    place-size (eqb k c && (ltb s q && ltb q (s + h))) (91 ∷ (decimal v ++ (93 ∷ []))) (omega (arith, length-append (decimal v) (93 ∷ []), decimal-three v))

-- a node that occupies a unit starts there or has started before
occupies-split : (b : Bool) (q s h : ℕ) → 1 ≤ h → bit (b && eqb s q) + bit (b && (ltb s q && ltb q (s + h))) ≡ bit (b && (leb s q && ltb q (s + h)))
unfolding pick
occupies-split false q s h l = refl
occupies-split true q s h l = go (dec_lt s q) (ℕ_discrete s q)
  where
    go : Dec (s < q) → Dec (s ≡ q) → bit (eqb s q) + bit (ltb s q && ltb q (s + h)) ≡ bit (leb s q && ltb q (s + h))
    go (yes a) d = rw (ne_eqb s q (λ e. omega arith), lt-ltb s q a, le-leb s q (omega arith)) (omega arith)
    go (no a) (yes e) = rw (eq-eqb s q e, le-ltb s q (omega arith), le-leb s q (omega arith), lt-ltb q (s + h) (omega arith)) refl
    go (no a) (no e) = rw (ne_eqb s q e, le-ltb s q (omega arith), lt-leb s q (omega arith)) refl

module _ (f : Form) (w : WellFormed f) (rule : UnitRule (loop_of f) (pair_of f)) where
  module _ (q : ℕ) (from : 1 ≤ q) (to : q ≤ f.header.length) where
    retimed : (v : ℕ) → v < f.header.nodes → retiming_of f v < 100
    retimed v l = omega (arith, ((w.schedule (λ e. omega arith)).starts v l).retiming)

    module _ (c : ℕ) (inside : c < f.header.classes) where
      starts_here : ℕ → Bool
      starts_here v = eqb (node_of f v).class c && eqb (start_of f v) q

      holds_here : ℕ → Bool
      holds_here v = eqb (node_of f v).class c && (ltb (start_of f v) q && ltb q (start_of f v + hold (class_of f c)))

      starts-size : length (rows (λ v. start_place q c v (node_of f v).class (start_of f v) (retiming_of f v)) f.header.nodes) ≡ 6 * count starts_here (span 0 f.header.nodes)
      unfolding starts_here
      starts-size = rows-count _ starts_here f.header.nodes (λ v l. start-size q c v _ _ _ (omega (arith, w.nodes)) (retimed v l))

      holds-size : length (rows (λ v. held_place q c (hold (class_of f c)) v (node_of f v).class (start_of f v)) f.header.nodes) ≡ 6 * count holds_here (span 0 f.header.nodes)
      unfolding holds_here
      holds-size = rows-count _ holds_here f.header.nodes (λ v l. held-size q c (hold (class_of f c)) v _ _)

      -- the nodes drawn are those that occupy a unit
      drawn-busy : count starts_here (span 0 f.header.nodes) + count holds_here (span 0 f.header.nodes) ≡ busy (loop_of f) (pair_of f) c q
      unfolding starts_here holds_here spans loop_of pair_of graph_of
      drawn-busy =
          let some : f.header.length ≢ 0 = λ e. omega arith in
          count-split starts_here holds_here (spans (loop_of f) (pair_of f) c q) f.header.nodes
          (λ v l. occupies-split (eqb (node_of f v).class c) q (start_of f v) (hold (class_of f c)) (hold-some (class_of f c) (w.class c inside).latency.0))
          ∙ busy-plain (loop_of f) (pair_of f) (sound-form f w) (plain_form f) (placed-form f w some).body c q

      room : busy (loop_of f) (pair_of f) c q ≤ (class_of f c).units
      unfolding loop_of pair_of
      room = rule q c from to inside

      free-size : length (rows (λ i. free_word) ((class_of f c).units - busy (loop_of f) (pair_of f) c q)) ≤ 6 * ((class_of f c).units - busy (loop_of f) (pair_of f) c q)
      unfolding free_word
      free-size = rows_under (λ i. free_word) 6 _ (λ v l. omega arith)

      places-size : length (places_text f q c) ≤ 50
      unfolding places_text bar_word
      places-size =
          omega (
            arith,
            (w.class c inside).units,
            room,
            drawn-busy,
            starts-size,
            holds-size,
            free-size,
            length-append (rows (λ v. start_place q c v (node_of f v).class (start_of f v) (retiming_of f v)) f.header.nodes) (rows (λ v. held_place q c (hold (class_of f c)) v (node_of f v).class (start_of f v)) f.header.nodes ++ rows (λ i. free_word) ((class_of f c).units - busy (loop_of f) (pair_of f) c q)),
            length-append (rows (λ v. held_place q c (hold (class_of f c)) v (node_of f v).class (start_of f v)) f.header.nodes) (rows (λ i. free_word) ((class_of f c).units - busy (loop_of f) (pair_of f) c q)),
          )

    row-size : length (row_text f q) ≤ 207
    unfolding row_text
    row-size =
        omega (
          arith,
          w.classes,
          right-size (decimal q) (omega (arith, decimal-three q)),
          rows_under (places_text f q) 50 f.header.classes places-size,
          length-append (right (decimal q)) (rows (places_text f q) f.header.classes ++ newline),
          length-append (rows (places_text f q) f.header.classes) newline,
        )

  class-size : (c : ℕ) → c < f.header.classes → length (class_line c (class_of f c)) ≤ 39
  unfolding class_line class_word latency_word units_word plain_word pipelined_word
  class-size c inside =
      let k : Class = class_of f c in
      let good : GoodClass k = w.class c inside in
      let end : length (pick (eqb k.pipelined 0) plain_word pipelined_word) ≤ 11 = pick_ind (λ (x : List ℕ). length x ≤ 11) (eqb k.pipelined 0) _ _ (λ e. omega arith) (λ e. omega arith) in
      omega (
        arith,
        end,
        decimal-one c (omega (arith, w.classes)),
        decimal-one k.latency (omega (arith, good.latency)),
        decimal-one k.units (omega (arith, good.units)),
        length-append (class_word ++ decimal c) ((latency_word ++ decimal k.latency) ++ ((units_word ++ decimal k.units) ++ (pick (eqb k.pipelined 0) plain_word pipelined_word ++ newline))),
        length-append (latency_word ++ decimal k.latency) ((units_word ++ decimal k.units) ++ (pick (eqb k.pipelined 0) plain_word pipelined_word ++ newline)),
        length-append (units_word ++ decimal k.units) (pick (eqb k.pipelined 0) plain_word pipelined_word ++ newline),
        length-append (pick (eqb k.pipelined 0) plain_word pipelined_word) newline,
      )

  head-size : (c : ℕ) → c < f.header.classes → length (head_text c (class_of f c).units) ≤ 50
  unfolding head_text bar_word
  head-size c inside =
      omega (
        arith,
        (w.class c inside).units,
        right-size (decimal c) (omega (arith, decimal-three c)),
        blanks-size (6 * ((class_of f c).units - 1)),
        length-append (blanks (6 * ((class_of f c).units - 1))) (right (decimal c)),
      )

  heads-size : length (heads_line f) ≤ 207
  unfolding heads_line step_word
  heads-size =
      omega (
        arith,
        w.classes,
        rows_under (λ c. head_text c (class_of f c).units) 50 f.header.classes head-size,
        length-append (rows (λ c. head_text c (class_of f c).units) f.header.classes) newline,
      )

  pub table-size : length (table_text f) ≤ 106347
  unfolding table_text
  table-size =
      omega (
        arith,
        w.classes,
        w.length,
        heads-size,
        rows_under (λ c. class_line c (class_of f c)) 39 f.header.classes class-size,
        rows_under (λ i. row_text f (i + 1)) 207 f.header.length (λ i l. row-size (i + 1) (omega arith) (omega arith)),
        length-append (rows (λ c. class_line c (class_of f c)) f.header.classes) (heads_line f ++ rows (λ i. row_text f (i + 1)) f.header.length),
        length-append (heads_line f) (rows (λ i. row_text f (i + 1)) f.header.length),
      )

-- a record that the judge accepts is drawn in a buffer of so many bytes
pub accepted-size : (s : List ℕ) → Bytes s → fine (read_form s).refusal ≡ true → judge_of (read_form s).form ≡ None → length (drawing_of s) ≤ 106347
unfolding drawing_of
accepted-size s b good none =
    let w : WellFormed (read_form s).form = read-well-formed s b good in
    rw (pick_true _ _ _ good) (table-size (read_form s).form w (judge-accepts (read_form s).form w none).1.units)
