-- Two systems with the same counts that agree on every edge below the count: the same rounds, walks and losing cycles.
-- Assumes nothing.
use Rattle.std.specs.Prelude.{◌≡◌, length, replicate}
use Rattle.std.proofs.Math.Path.{refl, ap, ap₂}
use Rattle.std.proofs.Common.{sym, ◌∙◌, not-suc-le-zero, arith}
use mathlib.Core.List.{List, [], ◌∷◌}
use Prim.Native.Nat.{ℕ, zero, suc, ◌+◌, ◌≤◌, ◌<◌}
use Rattle.lists.specs.Span.{span}
use Rattle.lists.specs.Fold.{sum_of, fold}
use Rattle.system.specs.Graph.{Walk, Cycle, stop}
use Rattle.system.specs.System.{System, gains, costs, Losing, LosingWalk}
use Rattle.system.specs.Rounds.{asks, raise, raise_all, raises, every_edge, round, settle_from, settled_of}

pub record Same (s t : System) : Type 0 where
  pub nodes : s.graph.nodes ≡ t.graph.nodes
  pub edges : s.graph.edges ≡ t.graph.edges
  pub tail : (e : ℕ) → e < s.graph.edges → s.graph.tail e ≡ t.graph.tail e
  pub head : (e : ℕ) → e < s.graph.edges → s.graph.head e ≡ t.graph.head e
  pub gain : (e : ℕ) → e < s.graph.edges → s.gain e ≡ t.gain e
  pub cost : (e : ℕ) → e < s.graph.edges → s.cost e ≡ t.cost e

pub same_back : (s t : System) → Same s t → Same t s
same_back s t m = record {
  nodes = sym m.nodes;
  edges = sym m.edges;
  tail = λ e l. sym (m.tail e (omega (arith, m.edges)));
  head = λ e l. sym (m.head e (omega (arith, m.edges)));
  gain = λ e l. sym (m.gain e (omega (arith, m.edges)));
  cost = λ e l. sym (m.cost e (omega (arith, m.edges)));
}

module _ (s t : System) (same : Same s t) where
  -- ---- rounds

  same-asks : (y : List ℕ) (e : ℕ) → e < s.graph.edges → asks s y e ≡ asks t y e
  unfolding asks
  same-asks y e l = rw (same.tail e l, same.head e l, same.gain e l, same.cost e l)

  same-raise : (y : List ℕ) (e : ℕ) → e < s.graph.edges → raise s y e ≡ raise t y e
  unfolding raise
  same-raise y e l = rw (same.tail e l, same.head e l, same.gain e l, same.cost e l)

  -- a run of edges below the count
  same-all : (n a : ℕ) (y : List ℕ) → a + n ≤ s.graph.edges → raise_all s y (span a n) ≡ raise_all t y (span a n)
  unfolding raise_all fold span
  same-all zero a y h = refl
  same-all (suc n) a y h =
      ap (λ (x : List ℕ). raise_all s x (span (suc a) n)) (same-raise y a (omega arith)) ∙ same-all n (suc a) (raise t y a) (omega arith)

  same-any : (n a : ℕ) (y : List ℕ) → a + n ≤ s.graph.edges → raises s y (span a n) ≡ raises t y (span a n)
  unfolding raises span
  same-any zero a y h = refl
  same-any (suc n) a y h = rw (same-asks y a (omega arith), same-raise y a (omega arith), same-any n (suc a) (raise t y a) (omega arith))

  same-round : (y : List ℕ) → round s y ≡ round t y
  unfolding round every_edge
  same-round y = same-all s.graph.edges 0 y (omega arith) ∙ ap (λ (n : ℕ). raise_all t y (span 0 n)) same.edges

  same-raises : (y : List ℕ) → raises s y (every_edge s) ≡ raises t y (every_edge t)
  unfolding every_edge
  same-raises y = same-any s.graph.edges 0 y (omega arith) ∙ ap (λ (n : ℕ). raises t y (span 0 n)) same.edges

  same-settle : (n : ℕ) (y : List ℕ) → settle_from s n y ≡ settle_from t n y
  unfolding settle_from
  same-settle zero y = refl
  same-settle (suc n) y = rw (same-raises y, same-round y, same-settle n (round t y))

  -- they settle alike
  pub same-settled : settled_of s ≡ settled_of t
  unfolding settled_of
  same-settled = same-settle s.graph.nodes (replicate 64 0) ∙ ap (λ (n : ℕ). settle_from t n (replicate 64 0)) same.nodes

  -- ---- walks

  pub same-walk : (u : ℕ) (es : List ℕ) (v : ℕ) → Walk s.graph u es v → Walk t.graph u es v
  same-walk u [] v w = w
  same-walk u (e ∷ es) v w =
      (omega (arith, w.0, same.edges), sym (same.tail e w.0) ∙ w.1, rw (← same.head e w.0) (same-walk (s.graph.head e) es v w.2))

  same-gains : (u : ℕ) (es : List ℕ) (v : ℕ) → Walk s.graph u es v → gains s es ≡ gains t es
  unfolding gains sum_of
  same-gains u [] v w = refl
  same-gains u (e ∷ es) v w = ap₂ (λ (x y : ℕ). x + y) (same.gain e w.0) (same-gains (s.graph.head e) es v w.2)

  same-costs : (u : ℕ) (es : List ℕ) (v : ℕ) → Walk s.graph u es v → costs s es ≡ costs t es
  unfolding costs sum_of
  same-costs u [] v w = refl
  same-costs u (e ∷ es) v w = ap₂ (λ (x y : ℕ). x + y) (same.cost e w.0) (same-costs (s.graph.head e) es v w.2)

  -- a walk leaves the same nodes
  same_stop : (u : ℕ) (es : List ℕ) (v i : ℕ) → Walk s.graph u es v → i < length es → stop s.graph es i ≡ stop t.graph es i
  same_stop u [] v i w l = absurd (not-suc-le-zero l)
  same_stop u (e ∷ es) v zero w l = same.tail e w.0
  same_stop u (e ∷ es) v (suc i) w l = same_stop (s.graph.head e) es v i w.2 (omega arith)

  same-cycle : (es : List ℕ) → Cycle s.graph es → Cycle t.graph es
  same-cycle es c =
      let stops : (i : ℕ) → i < length es → stop s.graph es i ≡ stop t.graph es i = λ i l. same_stop _ es _ i c.closed l in
      record {
        some = c.some;
        closed = rw (← stops 0 c.some) (same-walk _ es _ c.closed);
        apart = λ a b l m e. c.apart a b l m (stops a (omega arith) ∙ e ∙ sym (stops b m));
      }

  -- the same cycles lose
  pub same-losing : (es : List ℕ) → Losing s es → Losing t es
  same-losing es c = record {
    cycle = same-cycle es c.cycle;
    loss = omega (arith, c.loss, same-gains _ es _ c.cycle.closed, same-costs _ es _ c.cycle.closed);
  }

  pub same-losing-walk : (es : List ℕ) → LosingWalk s es → LosingWalk t es
  same-losing-walk es w = record {
    from = w.from;
    closed = same-walk _ es _ w.closed;
    loss = omega (arith, w.loss, same-gains _ es _ w.closed, same-costs _ es _ w.closed);
  }
