-- Text put byte by byte: words, and numbers by their digits.
-- Assumes nothing.
use mathlib.Core.Path.{◌≡◌}
use mathlib.Core.List.{List, [], ◌∷◌, ◌++◌}
use mathlib.Core.Logic.{◌≢◌}
use Prim.Native.Nat.{ℕ, ◌+◌, ◌/◌, ◌%◌, ◌≤◌, ◌<◌}
use native.Mathlib.Numerals.{add-one}
use native.Mathlib.Omega.{arith}
use lib.ListN.{length, get_or, take}
use lib.Seq.{take-suc, take_all}
use borrow.Author.Tests.{le-ltb, lt-ltb, eq-eqb, ne_eqb}
use Rattle.lists.specs.Pick.{pick_true, pick-false}
use Rattle.laid.specs.Laid.{Laid}
use Rattle.laid.specs.Laws.{both}
use Rattle.text.specs.declared.Page.{Page}
use Rattle.text.specs.Page.{Puts}
use Rattle.text.specs.PageLaws.{blank, followed}
use Rattle.text.specs.Decimal.{decimal}
use Rattle.text.specs.Words.{retiming_text}

-- ---- bytes

-- one byte more of a word
pub byte_more : (s : List ℕ) (p q r : Page) (i b : ℕ) → i < length s → b ≡ get_or s i 0 → Puts p q (take i s) → Puts q r (b ∷ []) → Puts p r (take (i + 1) s)
byte_more s p q r i b h is x y = rw (add-one, take-suc s i 0 h, ← is) (followed p q r (take i s) (b ∷ []) x y)

-- its last byte is put
pub word-whole : (s : List ℕ) (p q : Page) (i : ℕ) → length s ≤ i → Puts p q (take i s) → Puts p q s
word-whole s p q i h x = rw (take_all i s h) at x

-- ---- numbers

module _ (p : Page) (n : ℕ) where
  pub one-digit : (q : Page) (a : ℕ) → n < 10 → a ≡ 48 + n → Puts p q (a ∷ []) → Puts p q (decimal n)
  unfolding decimal
  one-digit q a h ea x = rw (pick_true _ _ _ (lt-ltb n 10 h), ← ea) x

  pub two_digits : (q r : Page) (a b : ℕ) → 10 ≤ n → n < 100 → a ≡ 48 + n / 10 → b ≡ 48 + n % 10 → Puts p q (a ∷ []) → Puts q r (b ∷ []) → Puts p r (decimal n)
  unfolding decimal
  two_digits q r a b g h ea eb x y =
      rw (pick-false _ _ _ (le-ltb n 10 g), pick_true _ _ _ (lt-ltb n 100 h), ← ea, ← eb) (followed p q r (a ∷ []) (b ∷ []) x y)

  pub three-digits : (q r s : Page) (a b d : ℕ) → 100 ≤ n → a ≡ 48 + n / 100 → b ≡ 48 + n / 10 % 10 → d ≡ 48 + n % 10
      → Puts p q (a ∷ []) → Puts q r (b ∷ []) → Puts r s (d ∷ []) → Puts p s (decimal n)
  unfolding decimal
  three-digits q r s a b d h ea eb ed x y z =
      rw (pick-false _ _ _ (le-ltb n 10 (omega arith)), pick-false _ _ _ (le-ltb n 100 h), ← ea, ← eb, ← ed)
      (followed p q s (a ∷ []) (b ∷ d ∷ []) x (followed q r s (b ∷ []) (d ∷ []) y z))

-- ---- a word and a number

-- the number is put where the word ends, and is the one that was given
pub field_put : (l : List ℕ) (at : ℕ) (w : List ℕ) (n : ℕ) (m o : List ℕ) (e a k f : ℕ) → a ≡ e → k ≡ n
    → Laid l at w m e → Laid m a (decimal k) o f → Laid l at (w ++ decimal n) o f
field_put l at w n m o e a k f ea ek x y = both l at w (decimal n) m o e f x (rw (ea, ek) at y)

-- ---- a retiming

module _ (p : Page) (r : ℕ) where
  pub retiming-none : r ≡ 0 → Puts p p (retiming_text r)
  unfolding retiming_text
  retiming-none h = rw (pick_true _ _ _ (eq-eqb r 0 h)) (blank p)

  pub retiming-some : (q s : Page) (b : ℕ) → r ≢ 0 → b ≡ 43 → Puts p q (b ∷ []) → Puts q s (decimal r) → Puts p s (retiming_text r)
  unfolding retiming_text
  retiming-some q s b h is x y = rw (pick-false _ _ _ (ne_eqb r 0 h)) (followed p q s (43 ∷ []) (decimal r) (rw is at x) y)
