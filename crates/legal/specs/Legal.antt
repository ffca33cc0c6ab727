-- Legal pairs: the edge rule, the unit rule, and knots.
-- Assumes nothing.
use Rattle.std.specs.Prelude.{◌≡◌, List, ℕ, ◌+◌, ◌*◌, ◌≤◌, ◌<◌, eqb}
use Rattle.lists.specs.Pick.{pick}
use Rattle.lists.specs.Span.{span}
use Rattle.lists.specs.Fold.{sum_of}
use Rattle.system.specs.Graph.{Cycle}
use Rattle.form.specs.Hold.{hold}
use Rattle.legal.specs.Loop.{Loop, Pair, within, bodies, ran_on, latency}
use Rattle.legal.specs.Held.{held}

module _ (g : Loop) (p : Pair) where
  -- the first step at which what node v computes is finished
  abbrev pub finish : ℕ → ℕ
  finish v = p.start v + latency g v

  -- node v starts in the body, and as much of it as the kind asks lies in it
  pub record InBody (v : ℕ) : Type 0 where
    pub begins : 1 ≤ p.start v
    pub ends : p.start v + within p.kind (latency g v) ≤ p.length + 1

  -- s(v) + L times the retimed delay d + r(u) - r(v) is at least s(u) + t(u)
  abbrev pub EdgeRule : ℕ → Type 0
  EdgeRule e =
      finish (g.graph.tail e) + p.length * p.retiming (g.graph.head e)
      ≤ p.start (g.graph.head e) + p.length * (g.delay e + p.retiming (g.graph.tail e))

  -- how many steps of operations class c holds in body step q, each operation's taken modulo the length
  unfoldable pub busy : ℕ → ℕ → ℕ
  busy c q = sum_of (λ v. pick (eqb (ran_on g v) c) (held p.length (p.start v) (hold (g.class c)) q) 0) (span 0 g.graph.nodes)

  -- no step of the body holds more than the class's units
  abbrev pub UnitRule : Type 0
  UnitRule = (q c : ℕ) → 1 ≤ q → q ≤ p.length → c < g.classes → busy c q ≤ (g.class c).units

  -- a body of 1 to 512 steps with every node in it, retimings of at most 63 for each body that an operation reaches into, 0 among them, and both rules
  pub record Legal : Type 0 where
    pub steps : (1 ≤ p.length) × (p.length ≤ 512)
    pub body : (v : ℕ) → v < g.graph.nodes → InBody v
    pub retimings : (v : ℕ) → v < g.graph.nodes → p.retiming v ≤ 63 * bodies p.kind
    pub least : (v : ℕ) × (v < g.graph.nodes) × (p.retiming v ≡ 0)
    pub edges : (e : ℕ) → e < g.graph.edges → EdgeRule e
    pub units : UnitRule

-- a cycle of edges with delay sum 0
pub record Knot (g : Loop) (es : List ℕ) : Type 0 where
  pub cycle : Cycle g.graph es
  pub still : sum_of g.delay es ≡ 0
