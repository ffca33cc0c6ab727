-- Losing closed walks: one that meets a node twice splits into two, and one of these loses.
-- Assumes nothing.
use Rattle.std.specs.Prelude.{◌≡◌, List, [], ◌∷◌, ◌++◌, ℕ, zero, suc, ◌+◌, ◌-◌, ◌<◌, length, take, drop}
use Rattle.std.proofs.Common.{sym, ◌∙◌, ap, subst, length-append, length-take, length-drop, arith, not-suc-le-zero, le_of_suc-le-suc}
use Rattle.std.proofs.Math.Decide.{dec_lt}
use Rattle.lists.specs.Fold.{sum_of}
use Rattle.system.specs.Graph.{Graph, Walk, stop}
use Rattle.system.specs.System.{System, gains, costs, LosingWalk}
use Rattle.system.specs.Walks.{node, walk-take, walk-drop, walk-join, node-drop, sum-cut}

-- after i edges a walk is where its edge number i leaves
pub node-stop : (g : Graph) (u : ℕ) (es : List ℕ) (v i : ℕ) → Walk g u es v → i < length es → node g u es i ≡ stop g es i
node-stop g u [] v i w l = absurd (not-suc-le-zero l)
node-stop g u (e ∷ es) v zero w l = sym w.1
node-stop g u (e ∷ es) v (suc i) w l = node-stop g (g.head e) es v i w.2 (le_of_suc-le-suc l)

-- a losing closed walk with fewer edges
pub record Shorter (s : System) (es : List ℕ) : Type 0 where
  pub walk : List ℕ
  pub losing : LosingWalk s walk
  pub fewer : length walk < length es

-- a losing closed walk that comes to a node twice splits there, and one of its two parts loses
pub shorter : (s : System) (es : List ℕ) (w : LosingWalk s es) (a b : ℕ) → a < b → b < length es
    → node s.graph w.from es a ≡ node s.graph w.from es b → Shorter s es
unfolding gains costs
shorter s es w a b l m same =
    let g : Graph = s.graph in
    let u : ℕ = w.from in
    let c : ℕ = node g u es a in
    let k : ℕ = b - a in
    let ds : List ℕ = drop a es in
    let inner : List ℕ = take k ds in
    let outer : List ℕ = take a es ++ drop k ds in
    let at_b : a + k ≡ b = omega arith in
    let back : node g c ds k ≡ c = node-drop g u es a k ∙ ap (node g u es) at_b ∙ sym same in
    let rest : Walk g c ds u = walk-drop g u es u a w.closed in
    let around : Walk g c inner c = subst (λ n. Walk g c inner n) back (walk-take g c ds u k rest) in
    let on : Walk g c (drop k ds) u = subst (λ n. Walk g n (drop k ds) u) back (walk-drop g c ds u k rest) in
    let gain-sum = sum-cut s.gain es a k in
    let cost-sum = sum-cut s.cost es a k in
    elim (dec_lt (gains s inner) (costs s inner)) [
      | yes h ↦ record {
        walk = inner;
        losing = record { from = c; closed = around; loss = h };
        fewer = simp (length-take, length-drop) (omega arith);
      }
      | no h ↦ record {
        walk = outer;
        losing = record {
          from = u;
          closed = walk-join g u (take a es) c (drop k ds) u (walk-take g u es u a w.closed) on;
          loss = omega (arith, w.loss);
        };
        fewer = simp (length-append, length-take, length-drop) (omega arith);
      }
    ]

-- it has an edge
pub losing-some : (s : System) (es : List ℕ) → LosingWalk s es → 0 < length es
unfolding gains costs sum_of
losing-some s [] w = absurd (not-suc-le-zero w.loss)
losing-some s (e ∷ es) w = omega arith
