-- Walks cut, joined and shortened; what a solution says along a walk.
-- Assumes nothing.
use Rattle.std.specs.Prelude.{◌≡◌, refl, ◌⊎◌, List, [], ◌∷◌, ◌++◌, ℕ, zero, suc, ◌+◌, ◌-◌, ◌*◌, ◌≤◌, ◌<◌, length, take, drop}
use Rattle.std.proofs.Common.{sym, ◌∙◌, ap, subst, inl, inr, ⊎_elim, arith, zero-add, suc-add, suc-mul, length-append, length-take, length-drop, take-append-drop}
use Rattle.std.proofs.Math.Decide.{dec_le}
use Rattle.lists.specs.Fold.{sum_of, sum-append}
use Rattle.lists.specs.Pigeon.{pigeon, Twice}
use Rattle.system.specs.Graph.{Graph, Joined, Walk}
use Rattle.system.specs.System.{System, Solves, gains, costs, LosingWalk}

-- the node that a walk from u has come to after i of its edges
abbrev pub node : Graph → ℕ → List ℕ → ℕ → ℕ
node g u es zero = u
node g u [] (suc i) = u
node g u (e ∷ es) (suc i) = node g (g.head e) es i

pub walk-take : (g : Graph) (u : ℕ) (es : List ℕ) (v i : ℕ) → Walk g u es v → Walk g u (take i es) (node g u es i)
walk-take g u es v zero w = refl
walk-take g u [] v (suc i) w = refl
walk-take g u (e ∷ es) v (suc i) w = (w.0, w.1, walk-take g (g.head e) es v i w.2)

pub walk-drop : (g : Graph) (u : ℕ) (es : List ℕ) (v i : ℕ) → Walk g u es v → Walk g (node g u es i) (drop i es) v
walk-drop g u es v zero w = w
walk-drop g u [] v (suc i) w = w
walk-drop g u (e ∷ es) v (suc i) w = walk-drop g (g.head e) es v i w.2

pub walk-join : (g : Graph) (u : ℕ) (es : List ℕ) (m : ℕ) (fs : List ℕ) (v : ℕ) → Walk g u es m → Walk g m fs v → Walk g u (es ++ fs) v
walk-join g u [] m fs v w x = subst (λ k. Walk g k fs v) (sym w) x
walk-join g u (e ∷ es) m fs v w x = (w.0, w.1, walk-join g (g.head e) es m fs v w.2 x)

pub node-drop : (g : Graph) (u : ℕ) (es : List ℕ) (i k : ℕ) → node g (node g u es i) (drop i es) k ≡ node g u es (i + k)
node-drop g u es zero k = rw zero-add
node-drop g u [] (suc i) zero = rw suc-add
node-drop g u [] (suc i) (suc k) = rw suc-add
node-drop g u (e ∷ es) (suc i) k = rw suc-add (node-drop g (g.head e) es i k)

-- a walk from a node of the graph stays in it
pub node_in : (g : Graph) → Joined g → (u : ℕ) (es : List ℕ) (v i : ℕ) → u < g.nodes → Walk g u es v → node g u es i < g.nodes
node_in g j u es v zero l w = l
node_in g j u [] v (suc i) l w = l
node_in g j u (e ∷ es) v (suc i) l w = node_in g j (g.head e) es v i (j.heads e w.0) w.2

-- the part from place i to place i + k, and the rest of the walk
pub sum-cut : (f : ℕ → ℕ) (es : List ℕ) (i k : ℕ) → sum_of f es ≡ sum_of f (take i es ++ drop k (drop i es)) + sum_of f (take k (drop i es))
sum-cut f es i k =
    omega (
      arith,
      sum-append f (take i es) (drop k (drop i es)),
      sum-append f (take i es) (drop i es),
      sum-append f (take k (drop i es)) (drop k (drop i es)),
      ap (sum_of f) (take-append-drop i es),
      ap (sum_of f) (take-append-drop k (drop i es)),
    )

-- a solution rises along a walk by what it costs more than it gains
pub along : (s : System) (y : ℕ → ℕ) → Solves s y → (u : ℕ) (es : List ℕ) (v : ℕ) → Walk s.graph u es v → y u + costs s es ≤ y v + gains s es
unfolding gains costs sum_of
along s y m u [] v w = omega (arith, ap y w)
along s y m u (e ∷ es) v w = omega (arith, m e w.0, ap y w.1, along s y m (s.graph.head e) es v w.2)

-- a system with a solution has no losing walk
pub sound : (s : System) (y : ℕ → ℕ) (es : List ℕ) → Solves s y → LosingWalk s es → ⊥
sound s y es m w = omega (arith, along s y m w.from es w.from w.closed, w.loss)

-- k bounds the cost of an edge
pub costs-le : (s : System) (k : ℕ) → ((e : ℕ) → e < s.graph.edges → s.cost e ≤ k) → (u : ℕ) (es : List ℕ) (v : ℕ) → Walk s.graph u es v → costs s es ≤ length es * k
unfolding costs sum_of
costs-le s k h u [] v w = omega arith
costs-le s k h u (e ∷ es) v w = rw suc-mul (omega (arith, h e w.0, costs-le s k h (s.graph.head e) es v w.2))

-- a walk from u to v with fewer edges than the graph has nodes, that costs no less over its gain than es
pub record Short (s : System) (u : ℕ) (es : List ℕ) (v : ℕ) : Type 0 where
  pub path : List ℕ
  pub walk : Walk s.graph u path v
  pub few : length path < s.graph.nodes
  pub better : costs s es + gains s path ≤ costs s path + gains s es

-- a walk with its closed part from place i to place i + k taken out
record Cut (s : System) (u : ℕ) (es : List ℕ) (v : ℕ) : Type 0 where
  out : List ℕ
  from : ℕ
  out_closed : Walk s.graph from out from
  rest : List ℕ
  rest_walk : Walk s.graph u rest v
  rest_less : length rest < length es
  gains_sum : gains s es ≡ gains s rest + gains s out
  costs_sum : costs s es ≡ costs s rest + costs s out

cut : (s : System) → Joined s.graph → (u : ℕ) (es : List ℕ) (v : ℕ) → u < s.graph.nodes → Walk s.graph u es v → s.graph.nodes ≤ length es → Cut s u es v
unfolding gains costs
cut s j u es v l w long =
    let g : Graph = s.graph in
    let t : Twice (node g u es) g.nodes = pigeon g.nodes (node g u es) (λ i _. node_in g j u es v i l w) in
    let i : ℕ = t.early in
    let k : ℕ = t.late - t.early in
    let c : ℕ = node g u es i in
    let ds : List ℕ = drop i es in
    let at-late : i + k ≡ t.late = omega arith in
    let back : node g c ds k ≡ c = node-drop g u es i k ∙ ap (node g u es) at-late ∙ sym t.same in
    let dr : Walk g c ds v = walk-drop g u es v i w in
    record {
      out = take k ds;
      from = c;
      out_closed = subst (λ m. Walk g c (take k ds) m) back (walk-take g c ds v k dr);
      rest = take i es ++ drop k ds;
      rest_walk = walk-join g u (take i es) c (drop k ds) v (walk-take g u es v i w) (subst (λ m. Walk g m (drop k ds) v) back (walk-drop g c ds v k dr));
      rest_less = simp (length-append, length-take, length-drop) (omega arith);
      gains_sum = sum-cut s.gain es i k;
      costs_sum = sum-cut s.cost es i k;
    }

-- any walk can be made short, or part of it loses
pub shorten : (s : System) → Joined s.graph → (n u : ℕ) (es : List ℕ) (v : ℕ) → length es ≤ n → u < s.graph.nodes → Walk s.graph u es v
    → ((fs : List ℕ) × LosingWalk s fs) ⊎ Short s u es v
shorten s j zero u es v h l w = inr (record { path = es; walk = w; few = omega arith; better = omega arith })
shorten s j (suc n) u es v h l w = go (shorten s j n u) (dec_le s.graph.nodes (length es))
  where
    go : ((fs : List ℕ) (v : ℕ) → length fs ≤ n → u < s.graph.nodes → Walk s.graph u fs v → ((fs : List ℕ) × LosingWalk s fs) ⊎ Short s u fs v)
        → Dec (s.graph.nodes ≤ length es) → ((fs : List ℕ) × LosingWalk s fs) ⊎ Short s u es v
    go ih (no q) = inr (record { path = es; walk = w; few = omega arith; better = omega arith })
    go ih (yes q) =
        let c : Cut s u es v = cut s j u es v l w q in
        elim (dec_le (costs s c.out) (gains s c.out)) [
          | yes k ↦
              ⊎_elim inl
              (λ t. inr (record { path = t.path; walk = t.walk; few = t.few; better = omega (arith, t.better, c.gains_sum, c.costs_sum) }))
              (ih c.rest v (omega arith) l c.rest_walk)
          | no k ↦ inl (c.out, record { from = c.from; closed = c.out_closed; loss = omega arith })
        ]
