-- The list rule asks the retimings only which edges are tight: where two retimings agree on that, it places alike.
-- Assumes nothing.
use Rattle.std.specs.Prelude.{◌≡◌, Bool, ◌&&◌, ◌||◌, get_or, set}
use Rattle.std.proofs.Math.Path.{refl, ap}
use Rattle.std.proofs.Common.{◌∙◌, arith}
use mathlib.Core.List.{List}
use Prim.Native.Nat.{ℕ, zero, suc, ◌+◌, ◌-◌, ◌<◌}
use Rattle.std.proofs.Math.Dec.{eqb, ltb}
use Rattle.lists.specs.Pick.{pick}
use Rattle.lists.specs.Span.{span}
use Rattle.lists.specs.Fold.{count, fold}
use Rattle.lists.specs.Count.{count_same}
use Rattle.legal.specs.Loop.{Loop, latency}
use Rattle.legal.specs.Shape.{Sound}
use Rattle.reach.specs.Weight.{tight, spread, sweep, reach, reached_from, weight}
use Rattle.list_rule.specs.Order.{order_of}
use Rattle.list_rule.specs.Rule.{start_number, free, blocks, ready, place, fill_step, are_all_placed, fill_from, list_rule_of}

fold_same : (f h : List ℕ → ℕ → List ℕ) (b : List ℕ) (a n : ℕ) → ((m : List ℕ) (i : ℕ) → i < a + n → f m i ≡ h m i) → fold f b (span a n) ≡ fold h b (span a n)
unfolding fold span
fold_same f h b a zero e = refl
fold_same f h b a (suc n) e =
    ap (λ (m : List ℕ). fold f m (span (suc a) n)) (e b a (omega arith)) ∙ fold_same f h (h b a) (suc a) n (λ m i l. e m i (omega arith))

module _ (g : Loop) (r x : ℕ → ℕ) (same : (e : ℕ) → e < g.graph.edges → tight g r e ≡ tight g x e) where
  -- ---- the weights

  sweep-same : (m : List ℕ) → sweep g r m ≡ sweep g x m
  unfolding sweep spread
  sweep-same m =
      fold_same (spread g r) (spread g x) m 0 g.graph.edges
      (λ k e l. ap (λ (b : Bool). pick (b && eqb (get_or k (g.graph.tail e) 0) 1) (set k (g.graph.head e) 1) k) (same e (omega arith)))

  reach-same : (left : ℕ) (m : List ℕ) → reach g r left m ≡ reach g x left m
  unfolding reach
  reach-same zero m = refl
  reach-same (suc left) m = reach-same left (sweep g r m) ∙ ap (reach g x left) (sweep-same m)

  weight-same : (v : ℕ) → weight g r v ≡ weight g x v
  unfolding weight reached_from
  weight-same v = ap (λ (m : List ℕ). count (λ u. eqb (get_or m u 0) 1) (span 0 g.graph.nodes) - 1) (reach-same g.graph.nodes _)

  -- ---- the steps

  ready-same : (s : List ℕ) (p v : ℕ) → ready g r s p v ≡ ready g x s p v
  unfolding ready blocks
  ready-same s p v =
      ap (λ (n : ℕ). eqb n 0)
      (count_same (λ e. eqb (g.graph.head e) v && blocks g r s p e) (λ e. eqb (g.graph.head e) v && blocks g x s p e) g.graph.edges (λ e l.
      ap (λ (b : Bool). eqb (g.graph.head e) v && (b && (eqb (start_number s (g.graph.tail e)) 0 || ltb p (start_number s (g.graph.tail e) + latency g (g.graph.tail e))))) (same e l)))

  place_same : (before : List ℕ) (p : ℕ) (s : List ℕ) (v : ℕ) → place g r before p s v ≡ place g x before p s v
  unfolding place
  place_same before p s v = ap (λ (b : Bool). pick (eqb (start_number s v) 0 && (b && free g s p v)) (set s v p) s) (ready-same before p v)

  step_same : (order : List ℕ) (p : ℕ) (s : List ℕ) → fill_step g r order p s ≡ fill_step g x order p s
  unfolding fill_step
  step_same order p s = λ i. fold (λ t v. place_same s p t v i) s order

  fill-same : (order : List ℕ) (left p : ℕ) (s : List ℕ) → fill_from g r order left p s ≡ fill_from g x order left p s
  unfolding fill_from are_all_placed
  fill-same order zero p s = refl
  fill-same order (suc left) p s =
      ap (λ (t : List ℕ). pick (are_all_placed g x s) s t)
      (fill-same order left (p + 1) (fill_step g r order p s) ∙ ap (fill_from g x order left (p + 1)) (step_same order p s))

  pub rule-same : (s : List ℕ) → list_rule_of g r s ≡ list_rule_of g x s
  unfolding list_rule_of
  rule-same s =
      fill-same (order_of (weight g r) g.graph.nodes) 1023 1 s
      ∙ (λ i. fill_from g x (order_of (λ v. weight-same v i) g.graph.nodes) 1023 1 s)

-- so two retimings of the nodes that are the same place alike
pub nodes-same : (g : Loop) → Sound g → (r x : ℕ → ℕ) → ((v : ℕ) → v < g.graph.nodes → r v ≡ x v) → (s : List ℕ) → list_rule_of g r s ≡ list_rule_of g x s
unfolding tight
nodes-same g sound r x e s =
    rule-same g r x (λ d l. λ i. eqb (g.delay d + e (g.graph.tail d) (sound.joined.tails d l) i) (e (g.graph.head d) (sound.joined.heads d l) i)) s
