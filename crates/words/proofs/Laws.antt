-- Text put piece by piece.
-- Assumes nothing.
use mathlib.Core.Path.{◌≡◌}
use mathlib.Core.Logic.{◌≢◌}
use mathlib.Core.List.{List, [], ◌∷◌}
use Prim.Native.Nat.{ℕ, ◌+◌, ◌-◌, ◌/◌, ◌%◌, ◌≤◌, ◌<◌, min}
use native.Mathlib.Omega.{arith}
use lib.ListN.{length, get_or, get_or-eq_default}
use borrow.Author.Rules.{rules}
use borrow.Author.Tests.{le-ltb, lt-ltb, eq-eqb, ne_eqb}
use Rattle.lists.specs.Pick.{pick_true, pick-false}
use Rattle.laid.specs.Rows.{rows}
use Rattle.text.specs.declared.Page.{Page}
use Rattle.text.specs.Page.{Puts}
use Rattle.text.specs.PageLaws.{blank}
use Rattle.words.specs.Numbers.{place_text}
use Rattle.words.specs.Refusals.{edge_text, edges_text, shape_texts, rule_texts, reason_text}

pub ruleset tests = (rules, le-ltb, lt-ltb, eq-eqb, ne_eqb)

-- ---- numbers put

module _ (p : Page) (n place : ℕ) where
  pub no_digit : n < place → Puts p p (place_text n place)
  unfolding place_text
  no_digit h = rw (pick_true _ _ _ (lt-ltb n place h)) (blank p)

  pub digit-put : (q : Page) → place ≤ n → Puts p q ((48 + n / place % 10) ∷ []) → Puts p q (place_text n place)
  unfolding place_text
  digit-put q h x = rw (pick-false _ _ _ (le-ltb n place h)) x

-- ---- a cycle's edges, up to the last
pub edges-whole : (p q : Page) (answer : List ℕ) (i : ℕ) → Puts p q (rows (edge_text answer) i) → i ≡ min (get_or answer 4 0) 64 → Puts p q (edges_text answer)
unfolding edges_text
edges-whole p q answer i x h = rw h at x

-- ---- refusals by number

module _ (p q : Page) (texts : List (List ℕ)) where
  pub named : (n k : ℕ) → n ≡ k → Puts p q (get_or texts k []) → Puts p q (get_or texts n [])
  named n k h x = rw h x

  pub named_rule : (n k : ℕ) → n ≡ k → Puts p q (get_or texts (k - 11) []) → Puts p q (get_or texts (n - 11) [])
  named_rule n k h x = rw h x

-- past the table there is no text
pub unnamed : (p : Page) (texts : List (List ℕ)) (n : ℕ) → length texts ≤ n → Puts p p (get_or texts n [])
unnamed p texts n h = rw (get_or-eq_default texts [] {n = n} h) (blank p)

-- 0 is no refusal
pub none_named : (p : Page) (offset n : ℕ) → n ≡ 0 → Puts p p (get_or (shape_texts offset) n [])
unfolding shape_texts
none_named p offset n h = rw h (blank p)

module _ (answer : List ℕ) (from to : ℕ) (p q : Page) where
  pub shape-reason : get_or answer 0 0 < 11 → Puts p q (get_or (shape_texts (get_or answer 1 0)) (get_or answer 0 0) []) → Puts p q (reason_text answer from to)
  unfolding reason_text
  shape-reason h x = rw (pick_true _ _ _ (lt-ltb _ 11 h)) x

  pub rule-reason : 11 ≤ get_or answer 0 0 → Puts p q (get_or (rule_texts answer from to) (get_or answer 0 0 - 11) []) → Puts p q (reason_text answer from to)
  unfolding reason_text
  rule-reason h x = rw (pick-false _ _ _ (le-ltb _ 11 h)) x

-- one number more that it is not
pub not-highest : (n k : ℕ) → n ≤ k + 1 → n ≢ k + 1 → n ≤ k
not-highest n k h f = omega arith

pub not-lowest : (n k : ℕ) → k ≤ n → n ≢ k → k + 1 ≤ n
not-lowest n k h f = omega arith
