-- Places, rows and the table laid one after the other.
-- Assumes nothing.
use mathlib.Core.Path.{◌≡◌, refl, sym, ap, ◌∙◌}
use mathlib.Core.List.{List, [], ◌∷◌, ◌++◌}
use mathlib.Core.Bool.{Bool, true, false}
use mathlib.Core.Logic.{◌≢◌}
use Prim.Native.Nat.{ℕ, zero, suc, ◌+◌, ◌*◌, ◌-◌, ◌≤◌, ◌<◌}
use native.Mathlib.Omega.{arith}
use lib.Dec.{eqb}
use lib.ListN.{length, get_or, length-append}
use borrow.Author.Rules.{rules}
use borrow.Author.Tests.{le-ltb, lt-ltb, le-leb, lt-leb, eq-eqb, ne_eqb}
use Rattle.lists.specs.Pick.{pick, pick_true, pick-false}
use Rattle.laid.specs.Rows.{rows}
use Rattle.laid.specs.Laws.{rows_same}
use Rattle.text.specs.declared.Page.{Page}
use Rattle.text.specs.Page.{Puts}
use Rattle.text.specs.PageLaws.{blank, followed, row-put, no-row}
use Rattle.text.specs.Decimal.{decimal, newline}
use Rattle.text.specs.Words.{retiming_text}
use Rattle.form.specs.declared.Form.{Form}
use Rattle.form.specs.declared.Class.{Class}
use Rattle.form.specs.Places.{class_of, node_of, start_of, retiming_of}
use Rattle.lists.specs.Span.{span}
use Rattle.lists.specs.Fold.{sum_of}
use Rattle.lists.specs.Sums.{sum_same}
use Rattle.form.specs.Hold.{hold}
use Rattle.legal.specs.Loop.{graph_of, loop_of, pair_of}
use Rattle.legal.specs.Legal.{busy}
use Rattle.rules.specs.Busy.{held_on, busy_in}
use Rattle.drawing.specs.Noted.{Noted}
use Rattle.drawing.specs.Words.{class_word, latency_word, units_word, plain_word, pipelined_word, bar_word, free_word}
use Rattle.drawing.specs.Table.{blanks, right, class_line, head_text, start_place, held_place, places_text}

pub ruleset tests = (rules, le-ltb, lt-ltb, le-leb, lt-leb, eq-eqb, ne_eqb)

-- ---- sizes

pub one-long : (n : ℕ) → n < 10 → 1 ≡ length (decimal n)
unfolding decimal
one-long n h = rw (pick_true _ _ _ (lt-ltb n 10 h))

pub two-long : (n : ℕ) → 10 ≤ n → n < 100 → 2 ≡ length (decimal n)
unfolding decimal
two-long n g h = rw (pick-false _ _ _ (le-ltb n 10 g), pick_true _ _ _ (lt-ltb n 100 h))

pub three-long : (n : ℕ) → 100 ≤ n → 3 ≡ length (decimal n)
unfolding decimal
three-long n h = rw (pick-false _ _ _ (le-ltb n 10 (omega arith)), pick-false _ _ _ (le-ltb n 100 h))

pub retiming-none : (r : ℕ) → r ≡ 0 → 0 ≡ length (retiming_text r)
unfolding retiming_text
retiming-none r h = rw (pick_true _ _ _ (eq-eqb r 0 h))

pub retiming-some : (r n : ℕ) → r ≢ 0 → n ≡ length (decimal r) → 1 + n ≡ length (retiming_text r)
unfolding retiming_text
retiming-some r n h e = rw (pick-false _ _ _ (ne_eqb r 0 h)) (omega (arith, e))

-- ---- a place

pub blanks-long : (n : ℕ) → length (blanks n) ≡ n
unfolding blanks rows
blanks-long zero = refl
blanks-long (suc n) = omega (arith, length-append (blanks n) (32 ∷ []), blanks-long n)

module _ (p : Page) where
  -- one blank more
  pub blank-more : (q r : Page) (i : ℕ) → Puts p q (blanks i) → Puts q r (32 ∷ []) → Puts p r (blanks (i + 1))
  unfolding blanks
  blank-more q r i x y = row-put p q r (λ k. 32 ∷ []) i x y

  pub blanks-whole : (q : Page) (i n : ℕ) → i ≡ n → Puts p q (blanks i) → Puts p q (blanks n)
  blanks-whole q i n h x = rw h at x

  pub no-blank : Puts p p (blanks 0)
  unfolding blanks
  no-blank = no-row p _

  -- blanks, and a text of the size that is left for it
  pub right-put : (text : List ℕ) (q r : Page) (n : ℕ) → n ≡ 6 - length text → Puts p q (blanks n) → Puts q r text → Puts p r (right text)
  unfolding right
  right-put text q r n h x y = followed p q r (blanks (6 - length text)) text (rw h at x) y

-- what is left for a number, for a node with its retiming, for one in brackets
pub number-left : (n d : ℕ) → d ≡ length (decimal n) → 6 - d ≡ 6 - length (decimal n)
number-left n d h = omega arith

pub start_left : (v r d t : ℕ) → d ≡ length (decimal v) → t ≡ length (retiming_text r) → 6 - (d + t) ≡ 6 - length (decimal v ++ retiming_text r)
start_left v r d t g h = omega (arith, length-append (decimal v) (retiming_text r))

pub held-left : (v d : ℕ) → d ≡ length (decimal v) → 4 - d ≡ 6 - length (91 ∷ (decimal v ++ (93 ∷ [])))
held-left v d h = omega (arith, length-append (decimal v) (93 ∷ []))

-- a place where the test passes, nothing where it fails
module _ (p : Page) (test b : Bool) (text : List ℕ) (is : b ≡ test) where
  pub place_here : (q : Page) → b ≡ true → Puts p q text → Puts p q (pick test text [])
  place_here q h x = rw (pick_true _ _ _ (sym is ∙ h)) x

  pub place-elsewhere : b ≡ false → Puts p p (pick test text [])
  place-elsewhere h = rw (pick-false _ _ _ (sym is ∙ h)) (blank p)

-- ---- classes and heads

module _ (c : ℕ) (k : Class) (p q r s : Page)
    (x : Puts p q (class_word ++ decimal c)) (y : Puts q r (latency_word ++ decimal k.latency)) (z : Puts r s (units_word ++ decimal k.units)) where
  class-put : (t : Page) → Puts s t (pick (eqb k.pipelined 0) plain_word pipelined_word ++ newline) → Puts p t (class_line c k)
  unfolding class_line
  class-put t w = followed p q t _ _ x (followed q r t _ _ y (followed r s t _ _ z w))

  pub plain-put : (t : Page) → k.pipelined ≡ 0 → Puts s t (plain_word ++ newline) → Puts p t (class_line c k)
  plain-put t h w = class-put t (rw (pick_true _ _ _ (eq-eqb k.pipelined 0 h)) w)

  pub pipelined-put : (t : Page) → k.pipelined ≢ 0 → Puts s t (pipelined_word ++ newline) → Puts p t (class_line c k)
  pipelined-put t h w = class-put t (rw (pick-false _ _ _ (ne_eqb k.pipelined 0 h)) w)

pub head-put : (c u n : ℕ) (p q r s : Page) → n ≡ 6 * (u - 1) → Puts p q bar_word → Puts q r (blanks n) → Puts r s (right (decimal c)) → Puts p s (head_text c u)
unfolding head_text
head-put c u n p q r s is x y z = followed p q s bar_word _ x (followed q r s (blanks (6 * (u - 1))) _ (rw is at y) z)

-- ---- the places of a class in a step

module _ (f : Form) (steps nodes : ℕ) (runs start retiming : List ℕ) (t : Noted f steps nodes runs start retiming) (q c : ℕ) where
  starts-same : rows (λ v. start_place q c v (get_or runs v 0) (get_or start v 0) (get_or retiming v 0)) nodes ≡ rows (λ v. start_place q c v (node_of f v).class (start_of f v) (retiming_of f v)) f.header.nodes
  starts-same =
      rows_same _ (λ v. start_place q c v (node_of f v).class (start_of f v) (retiming_of f v)) nodes
      (λ v l. rw (← (t.runs_on v l), ← (t.starts v l), ← (t.retimed v l)))
      ∙ ap (rows (λ v. start_place q c v (node_of f v).class (start_of f v) (retiming_of f v))) (sym t.all-nodes)

  held_same : (h : ℕ) → rows (λ v. held_place q c h v (get_or runs v 0) (get_or start v 0)) nodes ≡ rows (λ v. held_place q c h v (node_of f v).class (start_of f v)) f.header.nodes
  held_same h =
      rows_same _ (λ v. held_place q c h v (node_of f v).class (start_of f v)) nodes (λ v l. rw (← (t.runs_on v l), ← (t.starts v l)))
      ∙ ap (rows (λ v. held_place q c h v (node_of f v).class (start_of f v))) (sym t.all-nodes)

  busy-same : busy_in steps runs start c (hold (class_of f c)) q nodes ≡ busy (loop_of f) (pair_of f) c q
  unfolding busy_in held_on busy loop_of pair_of graph_of
  busy-same =
      sum_same (λ v. held_on steps (get_or runs v 0) (get_or start v 0) c (hold (class_of f c)) q) (λ v. held_on f.header.length (node_of f v).class (start_of f v) c (hold (class_of f c)) q) 0 nodes
      (λ v a l. rw (t.is_length, ← (t.runs_on v (omega arith)), ← (t.starts v (omega arith))))
      ∙ ap (λ (n : ℕ). sum_of (λ v. held_on f.header.length (node_of f v).class (start_of f v) c (hold (class_of f c)) q) (span 0 n)) (sym t.all-nodes)

  -- the bar, the nodes that start, those that hold, the free units
  pub places-put : (k : Class) (held taken free : ℕ) → k ≡ class_of f c → held ≡ hold k → taken ≡ busy_in steps runs start c held q nodes → free ≡ k.units - taken
      → (p₀ p₁ p₂ p₃ p₄ : Page) → Puts p₀ p₁ bar_word
      → Puts p₁ p₂ (rows (λ v. start_place q c v (get_or runs v 0) (get_or start v 0) (get_or retiming v 0)) nodes)
      → Puts p₂ p₃ (rows (λ v. held_place q c held v (get_or runs v 0) (get_or start v 0)) nodes)
      → Puts p₃ p₄ (rows (λ i. free_word) free) → Puts p₀ p₄ (places_text f q c)
  unfolding places_text
  places-put k held taken free is-k is_held_lem is-taken is_free p₀ p₁ p₂ p₃ p₄ x y z w =
      let has : held ≡ hold (class_of f c) = is_held_lem ∙ ap hold is-k in
      let busy-is : taken ≡ busy (loop_of f) (pair_of f) c q = is-taken ∙ ap (λ (b : ℕ). busy_in steps runs start c b q nodes) has ∙ busy-same in
      let free-is : free ≡ (class_of f c).units - busy (loop_of f) (pair_of f) c q = is_free ∙ rw (is-k, busy-is) in
      followed p₀ p₁ p₄ bar_word _ x
      (followed p₁ p₂ p₄ _ _ (rw starts-same at y) (followed p₂ p₃ p₄ _ _ (rw (held_same (hold (class_of f c))) at (rw has at z)) (rw free-is at w)))
