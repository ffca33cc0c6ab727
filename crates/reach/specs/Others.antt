-- The weight in the scope's words: the number of other nodes to which a path of at most N edges of retimed delay 0 leads.
-- Assumes nothing.
use Rattle.std.specs.Prelude.{◌≡◌, refl, Bool, true, false, ◌&&◌, not, ◌≢◌, List, ℕ, ◌+◌, ◌≤◌, ◌<◌, eqb, length, get_or}
use Rattle.std.proofs.Common.{sym, ◌∙◌, arith}
use borrow.Author.Tests.{eqb-true, eqb-false, eq-eqb, ne_eqb, not-true}
use Rattle.lists.specs.Span.{span}
use Rattle.lists.specs.Fold.{count}
use Rattle.lists.specs.Count.{count_same}
use Rattle.lists.specs.Both.{and_both}
use Rattle.system.specs.Graph.{Walk, Joined}
use Rattle.legal.specs.Loop.{Loop}
use Rattle.reach.specs.Weight.{tight, reached_from, weight}
use Rattle.reach.specs.Reached.{Marked, reached-near, reached-all, weight-others}

-- w is the number of numbers below n of which P holds
pub record Numbers (P : ℕ → Type 0) (n w : ℕ) : Type 0 where
  pub test : ℕ → Bool
  pub holds : (u : ℕ) → u < n → test u ≡ true → P u
  pub passes : (u : ℕ) → u < n → P u → test u ≡ true
  pub counted : w ≡ count test (span 0 n)

-- there is one such number
pub numbers-once : (P : ℕ → Type 0) (n w x : ℕ) → Numbers P n w → Numbers P n x → w ≡ x
numbers-once P n w x a b = a.counted ∙ count_same a.test b.test n (λ u l. same (a.test u) (b.test u) (λ t. b.passes u l (a.holds u l t)) (λ t. a.passes u l (b.holds u l t))) ∙ sym b.counted
  where
    same : (c d : Bool) → (c ≡ true → d ≡ true) → (d ≡ true → c ≡ true) → c ≡ d
    same true d p q = sym (p refl)
    same false true p q = q refl
    same false false p q = refl

module _ (g : Loop) (r : ℕ → ℕ) where
  -- a path of at most N edges, each of retimed delay d + r(u) - r(v) = 0, leads from v to another node u
  pub record Leads (v u : ℕ) : Type 0 where
    pub other : u ≢ v
    pub path : List ℕ
    pub walk : Walk g.graph v path u
    pub still : (i : ℕ) → i < length path → g.delay (get_or path i 0) + r (g.graph.tail (get_or path i 0)) ≡ r (g.graph.head (get_or path i 0))
    pub short : length path ≤ g.graph.nodes

  module _ (j : Joined g.graph) (few : g.graph.nodes ≤ 64) (v : ℕ) (inside : v < g.graph.nodes) where
    -- that is a node that is marked
    leads-marked : (u : ℕ) → Leads v u → Marked (reached_from g r v) u
    unfolding tight
    leads-marked u l = reached-all g r j v inside few l.path u (record { walk = l.walk; all_tight = λ i m. eq-eqb _ _ (l.still i m) })

    marked-leads : (u : ℕ) → u ≢ v → Marked (reached_from g r v) u → Leads v u
    unfolding tight
    marked-leads u other m =
        let p = reached-near g r j v inside u m in
        record { other = other; path = p.0; walk = p.1.walk; still = λ i l. eqb-true _ _ (p.1.all_tight i l); short = omega (arith, p.2) }

    pub weight-numbers : Numbers (Leads v) g.graph.nodes (weight g r v)
    weight-numbers = record {
      test = λ u. not (eqb u v) && eqb (get_or (reached_from g r v) u 0) 1;
      holds = λ u l t. let b = and_both (not (eqb u v)) _ t in marked-leads u (eqb-false u v (not-true _ b.0)) (eqb-true _ _ b.1);
      passes = λ u l h. rw (ne_eqb u v h.other) (eq-eqb _ _ (leads-marked u h));
      counted = weight-others g r j v inside few;
    }
