-- Runs of text put one after the other: bytes, numbers, nodes, lines.
-- Assumes nothing.
use Rattle.std.specs.Prelude.{Result, Ok, Err}
use mathlib.Core.Path.{◌≡◌, refl, sym, ap, ◌∙◌}
use mathlib.Core.List.{List, [], ◌∷◌, ◌++◌, append_assoc}
use mathlib.Core.Logic.{◌≢◌}
use Prim.Native.Nat.{ℕ, ◌+◌, ◌≤◌, ◌<◌}
use native.Mathlib.Nat.{zero-add}
use native.Mathlib.Omega.{arith}
use lib.Dec.{eqb, ltb}
use lib.ListN.{length, length-append}
use borrow.Author.Tests.{ltb-false, le-ltb, lt-ltb, eq-eqb, ne_eqb}
use Rattle.lists.specs.Pick.{pick, pick_true, pick-false, pick_ind}
use Rattle.lists.specs.Filled.{filled, filled_at}
use Rattle.answer.specs.declared.Refused.{Refused}
use Rattle.answer.specs.declared.Refusal.TheVariants.{Room}
use Rattle.laid.specs.Laid.{Laid}
use Rattle.laid.specs.Rows.{rows}
use Rattle.form.specs.declared.Form.{Form}
use Rattle.form.specs.Places.{start_of, retiming_of}
use Rattle.tables.specs.declared.Timetable.{Timetable}
use Rattle.tables.specs.Most.{most_of}
use Rattle.tables.specs.Times.{times_of}
use Rattle.listing.specs.Outcome.{Listed, listed_in}
use Rattle.listing.specs.declared.View.{View}
use Rattle.text.specs.Decimal.{decimal, newline}
use Rattle.text.specs.Words.{retiming_text}
use Rattle.listing.specs.Text.{mark_line, depth_word, floor_word, shortest_word, open_word}
use Rattle.listing.specs.Lines.{cell, depth_of, node_text, nodes_text, or_idle, step_line, verdict, counts_line, form_lines, listing_of, listed, listed_buffer}
use Rattle.listing.specs.Shown.{Shown, sizes_text, Viewed, view_text}
use Rattle.laid.specs.Laws.{rows_same, same-long}
use Rattle.text.specs.declared.Page.{Page}
use Rattle.text.specs.Page.{Puts}
use Rattle.text.specs.PageLaws.{blank, followed, row-put, no-row}

-- ---- a node

module _ (p : Page) (s q v r : ℕ) where
  abbrev text : List ℕ
  text = pick (eqb s q) (32 ∷ (decimal v ++ retiming_text r)) []

  pub node-elsewhere : s ≢ q → Puts p p text
  node-elsewhere h = rw (pick-false _ _ _ (ne_eqb s q h)) (blank p)

  pub node-here : (a b c : Page) → s ≡ q → Puts p a (32 ∷ []) → Puts a b (decimal v) → Puts b c (retiming_text r) → Puts p c text
  node-here a b c h x y z =
      rw (pick_true _ _ _ (eq-eqb s q h)) (followed p a c (32 ∷ []) (decimal v ++ retiming_text r) x (followed a b c (decimal v) (retiming_text r) y z))

module _ (start retiming : ℕ → ℕ) (p : Page) (q : ℕ) where
  -- the nodes of a step, none, one more and all
  pub nodes-none : Puts p p (rows (node_text start retiming q) 0)
  nodes-none = no-row p _

  pub node-more : (a b : Page) (i : ℕ) → Puts p a (rows (node_text start retiming q) i) → Puts a b (text a (start i) q i (retiming i)) → Puts p b (rows (node_text start retiming q) (i + 1))
  unfolding node_text
  node-more a b i x y = row-put p a b (node_text start retiming q) i x y

  pub nodes-whole : (a : Page) (nodes i : ℕ) → Puts p a (rows (node_text start retiming q) i) → i ≡ nodes → Puts p a (nodes_text start retiming nodes q)
  unfolding nodes_text
  nodes-whole a nodes i x h = rw h at x

-- ---- a step's line

empty : (text : List ℕ) → length text ≡ 0 → text ≡ []
empty [] h = refl
empty (x ∷ xs) h = absurd (omega arith)

idle-end : (text : List ℕ) → length text ≡ 0 → text ++ (32 ∷ 45 ∷ 10 ∷ []) ≡ or_idle text ++ newline
unfolding or_idle pick
idle-end text h = rw (empty text h)

some_end : (text : List ℕ) → length text ≢ 0 → text ++ (10 ∷ []) ≡ or_idle text ++ newline
unfolding or_idle
some_end text h = rw (pick-false _ _ _ (ne_eqb (length text) 0 h))

module _ (text : List ℕ) (n : ℕ) (p q r s : Page) (x : Puts p q (decimal n)) (y : Puts q r (58 ∷ [])) (z : Puts r s text) where
  line : (t : Page) → Puts r t (or_idle text ++ newline) → Puts p t (decimal n ++ (58 ∷ (or_idle text ++ newline)))
  line t w = followed p q t (decimal n) _ x (followed q r t (58 ∷ []) _ y w)

  pub idle-line : (t : Page) → s.at ≡ r.at → Puts s t (32 ∷ 45 ∷ 10 ∷ []) → Puts p t (decimal n ++ (58 ∷ (or_idle text ++ newline)))
  idle-line t e w = line t (rw (idle-end text (omega (arith, z.laid.ends))) at (followed r s t text (32 ∷ 45 ∷ 10 ∷ []) z w))

  pub some-line : (t : Page) → s.at ≢ r.at → Puts s t (10 ∷ []) → Puts p t (decimal n ++ (58 ∷ (or_idle text ++ newline)))
  some-line t e w = line t (rw (some_end text (λ h. e (omega (arith, z.laid.ends)))) at (followed r s t text (10 ∷ []) z w))

-- ---- the other lines

module _ (p q : Page) (steps floor : ℕ) where
  pub shortest-put : steps ≡ floor → Puts p q (shortest_word ++ newline) → Puts p q (verdict steps floor ++ newline)
  unfolding verdict
  shortest-put h x = rw (pick_true _ _ _ (eq-eqb steps floor h)) x

  pub open-put : steps ≢ floor → Puts p q (open_word ++ newline) → Puts p q (verdict steps floor ++ newline)
  unfolding verdict
  open-put h x = rw (pick-false _ _ _ (ne_eqb steps floor h)) x

module _ (nodes edges steps depth floor : ℕ) where
  counts-text : sizes_text nodes edges steps ++ ((depth_word ++ decimal depth) ++ ((floor_word ++ decimal floor) ++ (verdict steps floor ++ newline)))
      ≡ counts_line nodes edges steps depth floor
  unfolding sizes_text counts_line
  counts-text = simp append_assoc

  pub counts-put : (p q r s t : Page) → Puts p q (sizes_text nodes edges steps) → Puts q r (depth_word ++ decimal depth)
      → Puts r s (floor_word ++ decimal floor) → Puts s t (verdict steps floor ++ newline) → Puts p t (counts_line nodes edges steps depth floor)
  counts-put p q r s t x y z w =
      rw counts-text at
      (followed p q t (sizes_text nodes edges steps) _ x (followed q r t (depth_word ++ decimal depth) _ y (followed r s t (floor_word ++ decimal floor) _ z w)))

-- ---- a form's lines, by its timetable

-- a step's line asks for the starts of the nodes alone
line_same : (a b retiming : ℕ → ℕ) (nodes q : ℕ) → ((v : ℕ) → v < nodes → a v ≡ b v) → step_line a retiming nodes q ≡ step_line b retiming nodes q
unfolding step_line nodes_text node_text
line_same a b retiming nodes q h =
    ap (λ (text : List ℕ). decimal q ++ (58 ∷ (or_idle text ++ newline))) (rows_same _ _ nodes (λ v l. rw (h v l)))

module _ (f : Form) (t : Timetable) (floor : ℕ) (is : t ≡ times_of f) (shown : Shown f floor) where
  lines_same : rows (λ i. step_line (cell t.start) (cell t.retiming) t.nodes (i + 1)) t.length ≡ rows (λ i. step_line (start_of f) (retiming_of f) f.header.nodes (i + 1)) f.header.length
  unfolding times_of
  lines_same =
      rw is
      (rows_same _ _ f.header.length (λ i _. line_same (cell (filled 64 (start_of f) f.header.nodes)) (start_of f) (retiming_of f) f.header.nodes (i + 1) (filled_at 64 (start_of f) f.header.nodes)))

  depth_same : most_of t.retiming f.header.nodes ≡ depth_of (retiming_of f) f.header.nodes
  unfolding times_of most_of depth_of
  depth_same = rw is

  -- its timetable is that of few nodes and of few steps
  pub times-small : (t.nodes ≤ 64) × (t.length ≤ 512)
  unfolding times_of
  times-small = rw is (shown.nodes, shown.length)

  pub lines-put : (depth : ℕ) → depth ≡ most_of t.retiming f.header.nodes → (p q r s : Page)
      → Puts p q mark_line → Puts q r (counts_line f.header.nodes f.header.edges f.header.length depth floor)
      → Puts r s (rows (λ i. step_line (cell t.start) (cell t.retiming) t.nodes (i + 1)) t.length) → Puts p s (form_lines f)
  unfolding form_lines
  lines-put depth d p q r s x y z =
      rw (lines_same, d ∙ depth_same, shown.is) at
      (followed p q s mark_line _ x (followed q r s (counts_line f.header.nodes f.header.edges f.header.length depth floor) _ y z))

-- ---- the whole listing

-- a listing measured in no room, then put where it fits
module _ (s out : List ℕ) (v : Result View Refused) (t : Viewed s v) (m : List ℕ) (size : ℕ) (x : Laid [] 0 (view_text v) m size) where
  nothing_put : m ≡ []
  nothing_put = empty m (same-long [] (view_text v) m 0 size x)

  size_is : size ≡ length (listing_of s)
  size_is = x.ends ∙ zero-add (length (view_text v)) ∙ ap length t.text

  pub cramped : length (m ++ out) < size → (listed_in (Err (Room 0)) ≡ listed s (length out)) × (m ++ out ≡ listed_buffer s out)
  unfolding listed listed_buffer
  cramped h =
      let less = lt-ltb (length out) (length (listing_of s)) (omega (arith, size_is, ap length nothing_put, length-append m out)) in
      (sym (pick_true _ _ _ less), rw nothing_put (sym (pick_true _ _ _ less)))

  pub fits : (last : List ℕ) (end : ℕ) → size ≤ length (m ++ out) → Laid (m ++ out) 0 (view_text v) last end
      → (listed_in (Ok size) ≡ listed s (length out)) × (last ≡ listed_buffer s out)
  unfolding listed listed_buffer
  fits last end h y =
      let enough = le-ltb (length out) (length (listing_of s)) (omega (arith, size_is, ap length nothing_put, length-append m out)) in
      (rw size_is (sym (pick-false _ _ _ enough)), y.is ∙ rw (nothing_put, t.text) (sym (pick-false _ _ _ enough)))

-- what is listed is no longer than its room
pub listed-within : (s : List ℕ) (room : ℕ) (r : Listed) → r ≡ listed s room → r.size ≤ room
unfolding listed
listed-within s room r h =
    rw h
    (pick_ind (λ (x : Listed). x.size ≤ room) (ltb room (length (listing_of s))) _ _ (λ l. omega arith) (λ l. ltb-false room (length (listing_of s)) l))
